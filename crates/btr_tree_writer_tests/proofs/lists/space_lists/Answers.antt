use Rattle.btr_tree_writer_tests.proofs.Imports.{ℕ, sym, subst, FitsVolume}
use Rattle.btr_tree_writer_tests.proofs.lists.space_lists.Goals as goal

pub chunks-requires-clause-units : goal.chunks-requires-clause-units
chunks-requires-clause-units c =
    subst (λ (n : ℕ). FitsVolume c.in_ok-plan.plan n) (sym c.len-blocks.ensures)
    (c.plans_fit.ensures c.in_ok-map.map (record { system = 1; metadata = 2; data_ = 1 }) c.in_ok-plan.plan c.in_ok-plan.ensures.enough c.in_ok-plan.ensures.ok)

pub devices-requires-clause-units : goal.devices-requires-clause-units
devices-requires-clause-units c =
    subst (λ (n : ℕ). FitsVolume c.in_ok-plan.plan n) (sym c.len-blocks.ensures)
    (c.plans_fit.ensures c.in_ok-map.map (record { system = 1; metadata = 2; data_ = 1 }) c.in_ok-plan.plan c.in_ok-plan.ensures.enough c.in_ok-plan.ensures.ok)
