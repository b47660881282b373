use Rattle.rollback_core.proofs.Imports.{◌≡◌, inl, refl, sym, subst, Image, reads, sync_only, writes_then, sync_reads, IsGiven, MendingStands}
use Rattle.rollback_core.proofs.Rewriting.{first_none, first_then, rewrite_reads}
use Rattle.rollback_core.proofs.Standing.{both_parts, both_stand, first_part}
use Rattle.rollback_core.proofs.writing.write_mending.Goals as goal

pub returns-then-count-eq0-clause-order : goal.returns-then-count-eq0-clause-order
returns-then-count-eq0-clause-order g c = λ tells. first_none (IsGiven c.args.mending.now) _ _ refl

pub returns-in_err-write_again-clause-order : goal.returns-in_err-write_again-clause-order
returns-in_err-write_again-clause-order g c = λ tells. inl (c.write_again.ensures.only tells)

pub returns-in_err-write_given-clause-order : goal.returns-in_err-write_given-clause-order
returns-in_err-write_given-clause-order g c = λ tells.
    first_then (IsGiven c.args.mending.now) _ _ _ (c.in_ok-write_again.ensures.written tells) (first_part c.args.mending.now _ _ (c.write_given.ensures.only tells))

pub returns-in_err-write_given-2-clause-order : goal.returns-in_err-write_given-2-clause-order
returns-in_err-write_given-2-clause-order g c = λ tells.
    first_then (IsGiven c.args.mending.now) _ _ _ (c.in_ok-write_again.ensures.written tells) (both_parts c.args.mending.now _ _ _ (c.write_given.ensures.only tells) (c.write_given-2.ensures.only tells))

pub returns-in_err-sync-clause-order : goal.returns-in_err-sync-clause-order
returns-in_err-sync-clause-order g c = λ tells.
    first_then (IsGiven c.args.mending.now) _ _ _ (c.in_ok-write_again.ensures.written tells)
    (writes_then (IsGiven c.args.mending.now) _ _ _ (both_parts c.args.mending.now _ _ _ (c.write_given.ensures.only tells) (c.write_given-2.ensures.only tells))
    (sync_only (IsGiven c.args.mending.now) _ _ c.sync.result (c.sync.ensures.effect tells)))

pub returns-clause-order : goal.returns-clause-order
returns-clause-order g c = λ tells.
    first_then (IsGiven c.args.mending.now) _ _ _ (c.in_ok-write_again.ensures.written tells)
    (writes_then (IsGiven c.args.mending.now) _ _ _ (both_parts c.args.mending.now _ _ _ (c.write_given.ensures.only tells) (c.write_given-2.ensures.only tells))
    (sync_only (IsGiven c.args.mending.now) _ _ c.sync.result (c.sync.ensures.effect tells)))

pub returns-clause-written : goal.returns-clause-written
returns-clause-written g c = λ tells.
    let kept : reads (g.D.Disk.history c.write_again.new.disk) ≡ reads (g.D.Disk.history c.args.disk.now) = rewrite_reads _ _ (c.write_again.ensures.only tells) in
    subst (λ (image : Image). MendingStands c.args.mending.now image (reads (g.D.Disk.history c.sync.new.self))) kept
    (subst (λ (image : Image). MendingStands c.args.mending.now (reads (g.D.Disk.history c.write_again.new.disk)) image)
    (sym (sync_reads (g.D.Disk.history c.write_given-2.new.disk) (g.D.Disk.history c.sync.new.self) c.sync.result (c.sync.ensures.effect tells)))
    (both_stand c.args.mending.now (g.D.Disk.history c.write_again.new.disk) (g.D.Disk.history c.write_given.new.disk) (g.D.Disk.history c.write_given-2.new.disk)
    (c.write_given.ensures.only tells) (c.write_given-2.ensures.only tells) (c.in_ok-write_given.ensures.written tells) (c.in_ok-write_given-2.ensures.written tells)))
