use Rattle.number_runs.proofs.Imports.{arith, leb-true, leb-false, sym, ◌∙◌}
use Rattle.number_runs.proofs.Joining.{join_step, part_step}
use Rattle.number_runs.proofs.join.join_neighbours.Goals as goal
use Rattle.number_runs.proofs.join.join_neighbours.Goals.{then-reaches, else-reaches}

pub loop-i-preserved : goal.loop-i-preserved
loop-i-preserved c =
    elim c.if-reaches.branch [
      | then-reaches w ↦ rw (w.runs-is, w.joined-is, w.kept-is) (join_step c.args.runs.now c.loop-i.runs c.loop-i.joined (record { first = 0; last = 0 }) w.max.result c.loop-i.kept c.loop-i.i (omega arith) c.requires.ascending c.loop-i.invariant (leb-true _ _ (sym c.reaches.ensures ∙ w.if-reaches.true)) w.max.ensures)
      | else-reaches w ↦ rw (w.runs-is, w.joined-is, w.kept-is) (part_step c.args.runs.now c.loop-i.runs c.loop-i.joined (record { first = 0; last = 0 }) c.loop-i.kept c.loop-i.i (omega arith) (omega arith) c.requires.some c.loop-i.invariant (let far = leb-false _ _ (sym c.reaches.ensures ∙ w.if-reaches.false) in λ near. omega (arith, near, far)))
    ]
