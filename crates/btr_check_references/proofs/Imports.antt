-- What the proofs of btr_check_references import of std, of lower crates and of its specs.
pub use Rattle.std.proofs.Common.{All, AllPairs, Bool, Contains, Equal, Err, Greater, IsPermutation, IsSortedBy, Less, List, None, Ok, Option, Ordering, Result, Some, [], ap, append-nil, arith, drop, false, filter, get_or, if◌then◌else◌, inl, inr, is_eq, is_lt, is_ok, is_some, leb, length, length-append, map, nat_cmp, nat_eq, nat_le, nat_lt, refl, replicate, rules, set, subst, suc, sym, take, true, true≢false, zero, ℕ, ⊎_elim, ◌&&◌, ◌++◌, ◌+◌, ◌-◌, ◌<◌, ◌==◌, ◌^◌, ◌||◌, ◌∙◌, ◌∷◌, ◌≡◌, ◌≢◌, ◌≤◌, ◌⊎◌}
pub use Rattle.std.proofs.lemmas.Bool.{cases_lt, eq-eqb, eqb-false, eqb-true}
pub use Rattle.std.proofs.lemmas.Bool.Decides.{nat_tests}
pub use Rattle.std.proofs.lemmas.List.{drop-drop, drop_all, get_or-drop, get_or-map, get_or-set_other, get_or_append_left, get_or_default, length-map, length-replicate, map-append, take_all}
pub use Rattle.std.proofs.lemmas.List.Elements.{All-contains, All-head, All-push, All-tail, All-weaker, Contains-get_or, Contains-push, filter-append}
pub use Rattle.std.proofs.lemmas.List.Quantifiers.{all_pairs_push}
pub use Rattle.std.proofs.lemmas.List.Sorted.{All-permutation, IsNonDecreasingBy-from_sort, IsPartitionPoint-from_clause, IsPartitionedBy-leb, answers_always, list_any-IsPermutation, ranks_by, searched, sorted_far, sum_by-IsPermutation}
pub use Rattle.std.specs.List.{list_any}
pub use Rattle.std.specs.List.Sorted.{IsBinarySearchResult, IsNonDecreasingBy, IsPartitionPoint, IsPartitionedBy}
pub use Rattle.btr_check_references.specs.Counts.{AreJoined, AreOrdered, CountsAs, IsJoinedWith, IsTestOfRefs, count_if, counted, is_same, made_in, ranks_of}
unfoldable pub use Rattle.btr_check_references.specs.Counts.{order_of}
pub use Rattle.btr_check_references.specs.FullNodes.{AreFullNodes, full_starts}
pub use Rattle.btr_check_references.specs.NodeRanges.{AreNodeRanges, AreRangesOf, IsOwned, IsRangeBefore, block_count, first_block, first_state, holds_block, is_unowned, range_blocks, slot_in, span_blocks, state_in}
pub use Rattle.btr_check_references.specs.declared.gather.MadeCount.{MadeCount}
pub use Rattle.btr_check_references.specs.declared.node_state.NodeRange.{NodeRange}
pub use Rattle.btr_check_references.specs.declared.node_state.NodeState.{NodeState}
pub use Rattle.btr_check_references.specs.declared.node_state.NodeState.TheVariants.{Unmet}
pub use Rattle.btr_check_rules.specs.Extents.{Extent, is_full}
pub use Rattle.btr_check_rules.specs.References.{Made}
