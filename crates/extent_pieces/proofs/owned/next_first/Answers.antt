use Rattle.extent_pieces.proofs.Imports.{None, end_is, is_owner}
use Rattle.extent_pieces.proofs.Owning.{at_part_above, next_end_at, no_next}
use Rattle.extent_pieces.proofs.owned.next_first.Goals as goal
use Rattle.extent_pieces.proofs.owned.next_first.Goals.{else-begun-runs-via-then-begun-runs+else-runs-begun, else-begun-runs-via-else-begun-runs}

pub returns-then-runs-begun-clause-end : goal.returns-then-runs-begun-clause-end
returns-then-runs-begun-clause-end c = λ owner tells none.
    end_is (λ k. is_owner (owner k) None) c.args.b c.args.end c.min.result
    (next_end_at c.args.runs.now owner c.args.b c.args.end c.min.result c.begun-begun.result _ tells (c.begun-begun.ensures.parts owner tells) none c.requires.order
    c.if-begun-runs.true c.if-runs-begun.true c.min.ensures)

pub returns-else-begun-runs-clause-end : goal.returns-else-begun-runs-clause-end
returns-else-begun-runs-clause-end c = λ owner tells none.
    end_is (λ k. is_owner (owner k) None) c.args.b c.args.end c.args.end
    (no_next c.args.runs.now owner c.args.b c.args.end c.begun-begun.result tells (c.begun-begun.ensures.parts owner tells) none c.requires.order
    (elim c.else-begun-runs.branch [
      | else-begun-runs-via-then-begun-runs+else-runs-begun w ↦ absurd (at_part_above c.args.runs.now c.args.b c.begun-begun.result _ (c.begun-begun.ensures.parts owner tells) w.if-begun-runs.true w.if-runs-begun.false)
      | else-begun-runs-via-else-begun-runs w ↦ w.if-begun-runs.false
    ]))
