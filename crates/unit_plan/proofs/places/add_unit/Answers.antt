use Rattle.unit_plan.proofs.Imports.{◌≡◌, ◌+◌, ◌*◌, ◌++◌, ◌∷◌, [], ◌∙◌, ap}
use Rattle.unit_plan.proofs.Placing.{place_more}
use Rattle.unit_plan.proofs.places.add_unit.Goals as goal

pub loop-k-preserved : goal.loop-k-preserved
loop-k-preserved c =
    c.in_ok-add.ensures.ok ∙ (ap (λ s. s ++ (c.args.first + c.args.size * c.loop-k.k) ∷ []) c.loop-k.invariant ∙ place_more c.args.slots.now c.args.first c.args.size c.loop-k.k)
