use Rattle.extent_pieces.proofs.Imports.{◌-◌, ◌<◌, length, arith}
use Rattle.extent_pieces.proofs.Owning.{held_at, none_holds, not_begun, not_there}
use Rattle.extent_pieces.proofs.owned.run_at.Goals as goal
use Rattle.extent_pieces.proofs.owned.run_at.Goals.{else-run-b-via-then-run-b+else-b-run, else-run-b-via-else-run-b}

pub returns-then-begun-eq0-clause-owner : goal.returns-then-begun-eq0-clause-owner
returns-then-begun-eq0-clause-owner c = λ owner tells.
    none_holds c.args.runs.now owner c.args.b c.begun-begun.result c.begun-begun.ensures.bound tells (c.begun-begun.ensures.parts owner tells) (λ r some is in_r. absurd (some c.if-begun-eq0.true))

pub returns-then-b-run-clause-owner : goal.returns-then-b-run-clause-owner
returns-then-b-run-clause-owner c = λ owner tells.
    let at : c.begun-begun.result - 1 < length c.args.runs.now = omega (arith, c.begun-begun.ensures.bound, c.if-begun-eq0.false) in
    held_at c.args.runs.now owner c.args.b (c.begun-begun.result - 1) _ tells at c.if-run-b.true c.if-b-run.true

pub returns-else-run-b-clause-owner : goal.returns-else-run-b-clause-owner
returns-else-run-b-clause-owner c = λ owner tells.
    let at : c.begun-begun.result - 1 < length c.args.runs.now = omega (arith, c.begun-begun.ensures.bound, c.if-begun-eq0.false) in
    none_holds c.args.runs.now owner c.args.b c.begun-begun.result c.begun-begun.ensures.bound tells (c.begun-begun.ensures.parts owner tells) (λ r some is in_r.
    elim c.else-run-b.branch [
      | else-run-b-via-then-run-b+else-b-run w ↦ not_there c.args.runs.now c.args.b (c.begun-begun.result - 1) r _ at is in_r w.if-run-b.true w.if-b-run.false
      | else-run-b-via-else-run-b w ↦ not_begun c.args.runs.now c.args.b (c.begun-begun.result - 1) r _ at is in_r w.if-run-b.false
    ])
