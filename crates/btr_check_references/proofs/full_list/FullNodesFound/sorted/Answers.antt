use Rattle.btr_check_references.proofs.Imports.{ℕ, IsNonDecreasingBy-from_sort}
use Rattle.btr_check_references.proofs.Full.{sorted_full}
use Rattle.btr_check_references.proofs.full_list.FullNodesFound.sorted.Goals as goal

pub invariant_of-result : goal.invariant_of-result
invariant_of-result c = record { ascend = IsNonDecreasingBy-from_sort (λ (n : ℕ). n) c.sort_unstable.new.self.items c.sort_unstable.ensures.sorted }

pub returns : goal.returns
returns c = λ extents is. sorted_full extents c.args.self.addresses.items c.sort_unstable.new.self.items is c.sort_unstable.ensures.permutation
