use Rattle.rollback_core.proofs.Imports.{◌≡◌, sym, subst, History, WritesOnly, reads, writes_none, IsRewrite}
use Rattle.rollback_core.proofs.Rewriting.{sync_again_only, write_again_only, written_again}
use Rattle.rollback_core.proofs.writing.write_again.Goals as goal

pub returns-in_err-superblock-clause-only : goal.returns-in_err-superblock-clause-only
returns-in_err-superblock-clause-only g c = λ tells.
    subst (λ (h : History). WritesOnly (IsRewrite (reads (g.D.Disk.history c.args.disk.now))) (g.D.Disk.history c.args.disk.now) h) (sym (g.met.D.Disk.kept_history _ _ tells c.read_block.ensures.kept))
    (writes_none (IsRewrite (reads (g.D.Disk.history c.args.disk.now))) (g.D.Disk.history c.args.disk.now))

pub returns-in_err-write-clause-only : goal.returns-in_err-write-clause-only
returns-in_err-write-clause-only g c = λ tells.
    let same : g.D.Disk.history c.read_block.new.src ≡ g.D.Disk.history c.args.disk.now = g.met.D.Disk.kept_history _ _ tells c.read_block.ensures.kept in
    let blocks = g.met.D.Disk.open_blocks c.args.disk.now _ tells c.requires.«open» in
    write_again_only _ _ _ (g.D.Disk.history c.write.new.self) _ same (c.in_ok-superblock.ensures.block tells _ blocks) c.write.result (c.write.ensures.effect tells)

pub returns-clause-only : goal.returns-clause-only
returns-clause-only g c = λ tells.
    let same : g.D.Disk.history c.read_block.new.src ≡ g.D.Disk.history c.args.disk.now = g.met.D.Disk.kept_history _ _ tells c.read_block.ensures.kept in
    let blocks = g.met.D.Disk.open_blocks c.args.disk.now _ tells c.requires.«open» in
    let as_read = c.in_ok-superblock.ensures.block tells _ blocks in
    sync_again_only _ _ _ _ _ same as_read c.sync.result (write_again_only _ _ _ (g.D.Disk.history c.write.new.self) _ same as_read c.write.result (c.write.ensures.effect tells)) (c.sync.ensures.effect tells)

pub returns-clause-written : goal.returns-clause-written
returns-clause-written g c = λ tells.
    let same : g.D.Disk.history c.read_block.new.src ≡ g.D.Disk.history c.args.disk.now = g.met.D.Disk.kept_history _ _ tells c.read_block.ensures.kept in
    let blocks = g.met.D.Disk.open_blocks c.args.disk.now _ tells c.requires.«open» in
    written_again _ _ _ _ _ same (c.in_ok-superblock.ensures.block tells _ blocks) c.sync.result (c.in_ok-write.ensures.effect tells) (c.sync.ensures.effect tells)
