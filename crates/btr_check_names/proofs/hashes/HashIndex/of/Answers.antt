use Rattle.btr_check_names.proofs.Imports.{rules, answers_always}
use Rattle.btr_check_names.proofs.hashes.HashIndex.of.Goals as goal

pub invariant_of-result : goal.invariant_of-result
invariant_of-result c = c.sort_unstable_by_key.ensures.sorted (λ k. k.hash) (answers_always _ _ _ (λ f a r g h. search rules))
