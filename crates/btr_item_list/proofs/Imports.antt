-- What the proofs of btr_item_list import of std, of lower crates and of its specs.
pub use Rattle.std.proofs.Common.{All, AllPairs, Bool, List, None, OnOk, Option, Some, [], ap, append_assoc, arith, cond, count_by, drop, false, filter, get_or, get_or-drop, get_or-take, if◌then◌else◌, is_eq, is_le, is_lt, length, map, nat_eq, nat_le, nat_lt, not, refl, rules, subst, suc, sum_by, sym, take, true, true≢false, zero, ℕ, ⊎_elim, ◌&&◌, ◌++◌, ◌+◌, ◌-◌, ◌<◌, ◌==◌, ◌∙◌, ◌∷◌, ◌≡◌, ◌≢◌, ◌≤◌}
pub use Rattle.std.proofs.lemmas.Bool.{cases_lt}
pub use Rattle.std.proofs.lemmas.Bool.Decides.{nat_tests}
pub use Rattle.std.proofs.lemmas.List.{append-nil, drop-append-le, drop-drop, length-append, length-drop, length-take, map-append, take-append-drop, take-append-le, take_all}
pub use Rattle.std.proofs.lemmas.List.Elements.{All-from_recursion, All-head, All-tail}
pub use Rattle.std.proofs.lemmas.List.Kept.{AllPairs-cons}
pub use Rattle.std.proofs.lemmas.List.Sorted.{All-permutation, IsNonDecreasingBy-from_sort, IsPartitionPoint-from_clause, answers_always, searchable_from_sorted}
pub use Rattle.std.proofs.lemmas.List.Sums.{sum_by-append, sum_by-cons}
pub use Rattle.std.specs.List.{AllByRecursion, flat_map}
pub use Rattle.std.specs.List.Sorted.{IsNonDecreasingBy, IsPartitionPoint, IsPartitionedBy, IsSortedByKey, IsStableByKey, ties}
pub use Rattle.std.specs.Ordering.{nat_cmp, ordering_index}
pub use Rattle.std.specs.Prelude.{slice_get, slice_index_or, slice_range}
pub use Rattle.btr_item_list.specs.Groups.{AreGroups, ascending, grouped, in_group, of_number}
pub use Rattle.btr_item_list.specs.Lists.{IsBodyWithin, item_by, joined, joined_item, offset_of}
pub use Rattle.btr_item_list.specs.Spots.{AscendByObject, is_under}
pub use Rattle.btr_item_list.specs.declared.list.ItemRange.{ItemRange}
pub use Rattle.btr_item_list.specs.declared.spot.Spot.{Spot}
pub use Rattle.btr_node.specs.Leaf.{Item}
pub use Rattle.btr_node.specs.btr_keys.declared.key.Key.{Key}
pub use Rattle.fs_paths.proofs.Middle.{in_order, middle_is, parted_le, parted_lt}
