use Rattle.fs_rows.proofs.Imports.{nat_eq, sym, ◌∙◌, pointwise, not-true, not-false}
use Rattle.fs_rows.proofs.Comparing.{differ, same_next}
use Rattle.fs_rows.proofs.path.PathPartialEq.eq.Goals as goal

pub returns-then-ne : goal.returns-then-ne
returns-then-ne c =
    differ (pointwise nat_eq) c.args.self.now c.args.other.now c.loop-i.i c.get.result.now c.get-in-loop-i.result.now c.get.ensures c.get-in-loop-i.ensures
    (not-true _ (sym c.ne.ensures ∙ c.if-ne.true)) c.loop-i.invariant

pub loop-i-preserved : goal.loop-i-preserved
loop-i-preserved c =
    same_next (pointwise nat_eq) c.args.self.now c.args.other.now c.loop-i.i c.get.result.now c.get-in-loop-i.result.now c.get.ensures c.get-in-loop-i.ensures
    (not-false _ (sym c.ne.ensures ∙ c.if-ne.false)) c.loop-i.invariant
