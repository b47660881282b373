use Rattle.convert_steps.proofs.Imports.{sym, subst, FIRST_MIRROR, SECOND_MIRROR, sync_only, writes_then, on_ok, sync_reads, IsCopy, HasCopies}
use Rattle.convert_steps.proofs.Phases.{copy_part, both_stand}
use Rattle.convert_steps.proofs.switch.write_copies.Goals as goal

pub returns-in_err-write_copy-clause-only : goal.returns-in_err-write_copy-clause-only
returns-in_err-write_copy-clause-only g c = λ tells. copy_part c.args.superblock.now.bytes c.args.blocks FIRST_MIRROR _ _ (c.write_copy.ensures.only tells)

pub returns-in_err-write_copy-2-clause-only : goal.returns-in_err-write_copy-2-clause-only
returns-in_err-write_copy-2-clause-only g c = λ tells.
    writes_then (IsCopy c.args.superblock.now.bytes c.args.blocks) _ _ _
    (copy_part c.args.superblock.now.bytes c.args.blocks FIRST_MIRROR _ _ (c.write_copy.ensures.only tells))
    (copy_part c.args.superblock.now.bytes c.args.blocks SECOND_MIRROR _ _ (c.write_copy-2.ensures.only tells))

pub returns-clause-only : goal.returns-clause-only
returns-clause-only g c = λ tells.
    writes_then (IsCopy c.args.superblock.now.bytes c.args.blocks) _ _ _
    (writes_then (IsCopy c.args.superblock.now.bytes c.args.blocks) _ _ _
    (copy_part c.args.superblock.now.bytes c.args.blocks FIRST_MIRROR _ _ (c.write_copy.ensures.only tells))
    (copy_part c.args.superblock.now.bytes c.args.blocks SECOND_MIRROR _ _ (c.write_copy-2.ensures.only tells)))
    (sync_only (IsCopy c.args.superblock.now.bytes c.args.blocks) _ _ _ (c.sync.ensures.effect tells))

pub returns-clause-written : goal.returns-clause-written
returns-clause-written g c = λ tells.
    on_ok c.sync.result _
    (subst (HasCopies c.args.superblock.now.bytes c.args.blocks) (sym (sync_reads (g.D.Disk.history c.write_copy-2.new.disk) _ _ (c.sync.ensures.effect tells)))
    (both_stand c.args.superblock.now.bytes c.args.blocks (g.D.Disk.history c.args.disk.now) (g.D.Disk.history c.write_copy.new.disk) (g.D.Disk.history c.write_copy-2.new.disk)
    (c.in_ok-write_copy.ensures.written tells) (c.in_ok-write_copy-2.ensures.written tells) (c.write_copy-2.ensures.only tells)))
