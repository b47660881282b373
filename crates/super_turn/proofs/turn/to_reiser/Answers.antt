use Rattle.super_turn.proofs.Imports.{◌≡◌, ◌<◌, ◌^◌, inl, inr, ◌∙◌, subst, length, arith, OnOk, History, reads, left_unwritten, then_writes, StandsWith}
use Rattle.super_turn.proofs.Stepping.{same_writes}
use Rattle.super_turn.proofs.Turning.{to_reiser_crash}
use Rattle.super_turn.proofs.turn.to_reiser.Goals as goal

pub returns-in_err-before-clause-crash : goal.returns-in_err-before-clause-crash
returns-in_err-before-clause-crash g c = λ tells settled image left.
    inl (left_unwritten _ _ settled (g.met.D.Disk.kept_history _ _ tells c.read_block.ensures.kept) image left)

pub returns-in_err-before-clause-writes : goal.returns-in_err-before-clause-writes
returns-in_err-before-clause-writes g c =
    same_writes (g.met.D.Disk.kept_opened _ _ c.read_block.ensures.kept) (g.met.D.BlockSource.kept_size _ _ c.read_block.ensures.kept) (g.met.D.Disk.kept_borrow _ _ c.read_block.ensures.kept)
    (λ tells. g.met.D.Disk.kept_history _ _ tells c.read_block.ensures.kept)

pub returns-clause-crash : goal.returns-clause-crash
returns-clause-crash g c = λ tells settled image left.
    let same : g.D.Disk.history c.read_block.new.src ≡ g.D.Disk.history c.args.disk.now = g.met.D.Disk.kept_history _ _ tells c.read_block.ensures.kept in
    let blocks = g.met.D.Disk.open_blocks c.args.disk.now _ tells c.requires.«open» in
    let small : c.args.place < 2 ^ 64 = omega arith in
    inr (to_reiser_crash (g.D.Disk.history c.args.disk.now) (g.D.Disk.history c.read_block.new.src) (g.D.Disk.history c.turn_three.new.disk) same c.args.place small
    c.in_ok-before.before.bytes _ _ _ (c.in_ok-before.ensures.block tells _ blocks) settled (c.turn_three.ensures.crash tells) c.marked-turned.ensures.whole c.marked-turned.ensures.turned c.with_first-joined.ensures.joined image left)

pub returns-clause-writes : goal.returns-clause-writes
returns-clause-writes g c =
    then_writes
    (same_writes (g.met.D.Disk.kept_opened _ _ c.read_block.ensures.kept) (g.met.D.BlockSource.kept_size _ _ c.read_block.ensures.kept) (g.met.D.Disk.kept_borrow _ _ c.read_block.ensures.kept)
    (λ tells. g.met.D.Disk.kept_history _ _ tells c.read_block.ensures.kept))
    c.turn_three.ensures.writes

pub returns-clause-written : goal.returns-clause-written
returns-clause-written g c = λ tells.
    subst (λ (h : History). OnOk c.turn_three.result (StandsWith c.args.superblock.now.bytes (reads h) (reads (g.D.Disk.history c.turn_three.new.disk)))) (g.met.D.Disk.kept_history _ _ tells c.read_block.ensures.kept)
    (c.turn_three.ensures.written tells)
