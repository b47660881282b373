-- What the proofs of fs_paths import of std, of lower crates and of its specs.
pub use Rattle.std.proofs.Common.{All, AllPairs, Bool, Contains, Equal, Greater, IfSome, IsPermutation, IsSome, IsSortedBy, Less, List, None, Option, Ordering, Some, [], ap, arith, cond, count_by, drop, eq-eqb, false, filter, flat_map, get_or, get_or-drop, get_or-take, inl, inr, is_eq, is_le, is_lt, leb, length, ltb, map, nat_cmp, nat_eq, ne_eqb, not, refl, rules, slice_get, subst, suc, sum_by, sym, take, true, true≢false, zero, ℕ, ⊎_elim, ◌&&◌, ◌++◌, ◌+◌, ◌-◌, ◌<◌, ◌==◌, ◌||◌, ◌∙◌, ◌∷◌, ◌≡◌, ◌≤◌, ◌⊎◌}
pub use Rattle.std.proofs.lemmas.Bool.{and_from, and_parts, cases_lt, eqb-true}
pub use Rattle.std.proofs.lemmas.Bool.Decides.{nat_tests}
pub use Rattle.std.proofs.lemmas.Cmp.{lists_total, nat_cmp_total, nat_list_cmp_total, on_total, then_total, tied_itself}
pub use Rattle.std.proofs.lemmas.List.{append-nil, append_assoc, drop_more, flat_map_more, get_or-map, get_or_default, length-append, length-drop, length-map, length-take, length_push, take-append-drop, take-append-le, take_all, take_more}
pub use Rattle.std.proofs.lemmas.List.Elements.{All-append, All-cons, All-contains, All-contains_itself, All-filter, All-head, All-map, All-nil, All-push, All-tail, Contains-append_cases, Contains-append_left, Contains-append_right, filter-append, filter_passes}
pub use Rattle.std.proofs.lemmas.List.Folds.{Any-from_list_any, list_any-append, position_or_len_push}
pub use Rattle.std.proofs.lemmas.List.Sorted.{All-permutation, Contains-permutation, IsPartitionPoint-from_clause, IsPartitionedBy-leb, IsPartitionedBy-ltb, IsPermutation-sym, answers_always, ranks_by, searchable_from_sorted, sum_by-IsPermutation}
pub use Rattle.std.proofs.lemmas.List.Sums.{count_by-le-length, fails_before_first, get_or-le-sum_by, length-filter, passes_at_first, sum_by-append, sum_by-cons, sum_by-le-sum_by, sum_by-take-le, sum_by_push}
pub use Rattle.std.proofs.lemmas.Map.Keys.{Less-from_sorted, sorted_from_all_adjacent, sorted_tail}
pub use Rattle.std.proofs.lemmas.Result.{IfOk-weaker}
pub use Rattle.std.specs.Cmp.{IsTotalOrder}
pub use Rattle.std.specs.Cmp.Lexicographic.{pointwise, slice_cmp}
pub use Rattle.std.specs.List.{AllAdjacentBelow, AllWithin, list_any, position_or_len}
pub use Rattle.std.specs.List.Sorted.{IsNonDecreasingBy, IsPartitionPoint, IsPartitionedBy}
unfoldable pub use Rattle.std.specs.List.Sorted.{IsStrictlySortedBy}
pub use Rattle.std.specs.Ordering.{is_ne, ordering_index, ordering_reverse, ordering_then}
pub use Rattle.fs_paths.specs.Links.{AreNamedOnce, Leads, same_node}
pub use Rattle.fs_paths.specs.Paths.{ArePaths, first_path, leads_to}
pub use Rattle.fs_paths.specs.Places.{HasFirstPaths, IsFirstPath, finds, numbered, with_one_more}
pub use Rattle.fs_paths.specs.Queue.{followed, named_by, waiting}
pub use Rattle.fs_paths.specs.Reached.{AreReached, IsReached, IsReachedBy}
pub use Rattle.fs_paths.specs.Spread.{AscendByDirectory, FormTree, Reaches, child, children, has_name, is_of, names_node, node_cmp}
pub use Rattle.fs_paths.specs.declared.first_path.FirstPath.{FirstPath}
pub use Rattle.fs_paths.specs.declared.node.NodeId.{NodeId}
pub use Rattle.fs_paths.specs.declared.node_link.NodeLink.{NodeLink}
pub use Rattle.fs_paths.specs.declared.node_link.PathTo.{PathTo}
pub use Rattle.fs_paths.specs.declared.path_found.PathFound.{PathFound}
pub use Rattle.fs_rows.specs.Rows.{AscendsByPath, NameList, WholeRow, is_same_path, name_count, path_cmp}
pub use Rattle.indexmap.specs.IndexMap.{IndexMap, Updates, get}
pub use Rattle.indexmap.specs.IndexSet.{contains, insert_all, insert_key}
