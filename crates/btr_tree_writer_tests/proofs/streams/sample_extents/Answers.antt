use Rattle.btr_tree_writer_tests.proofs.Imports.{ℕ, sym, subst, FitsVolume}
use Rattle.btr_tree_writer_tests.proofs.streams.sample_extents.Goals as goal

pub extents-requires-clause-units : goal.extents-requires-clause-units
extents-requires-clause-units c =
    subst (λ (n : ℕ). FitsVolume c.in_ok-plan.plan n) (sym c.len-blocks.ensures)
    (c.plans_fit.ensures c.in_ok-map.map (record { system = 1; metadata = 2; data_ = 1 }) c.in_ok-plan.plan c.in_ok-plan.ensures.enough c.in_ok-plan.ensures.ok)
