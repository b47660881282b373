-- What the proofs of btr_check_names import of std, of lower crates and of its specs.
pub use Rattle.std.proofs.Common.{All, Any, Bool, Global, IfSome, List, None, Option, Some, Vec, [], ap, append_assoc, arith, below_more, cond, drop, eq-eqb, eqb, false, filter, get_or, if◌then◌else◌, inl, inr, length, map, nat_eq, refl, rules, slice_index, slice_index_or, subst, suc, sym, take, true, zero, ℕ, ⊎_elim, ◌&&◌, ◌++◌, ◌+◌, ◌-◌, ◌<◌, ◌==◌, ◌∙◌, ◌∷◌, ◌≡◌, ◌≢◌, ◌≤◌, ◌⊎◌}
pub use Rattle.std.proofs.Math.ListN.{replicate, set}
pub use Rattle.std.proofs.lemmas.Bool.{cases_Bool, cases_eq, cases_lt, ltb-false, ltb-true, ne_eqb, true≢false}
pub use Rattle.std.proofs.lemmas.Bool.Decides.{nat_tests}
pub use Rattle.std.proofs.lemmas.List.{append-nil, drop-append-le, drop_all, get_or-map, get_or-replicate, get_or-set_other, get_or-set_same, get_or_append_left, length-append, length-drop, length-map, length-replicate, length-set, length-take-le, map-append, take-append-le, take_all, take_more}
pub use Rattle.std.proofs.lemmas.List.Elements.{All-append, All-cons, All-contains, All-contains_itself, All-filter, All-from_recursion, All-get_or, All-head, All-map, All-more, All-nil, All-set, All-tail, All-weaker, Contains-append_left, Contains-append_right, Contains-push, Contains-push_cases, filter-append, filter_passes}
pub use Rattle.std.proofs.lemmas.List.Kept.{AllPairs-cons, AllPairs-filter}
pub use Rattle.std.proofs.lemmas.List.Sorted.{All-permutation, Contains-permutation, IsPartitionPoint-from_clause, IsPartitionedBy-ltb, IsPermutation-append_left, IsPermutation-append_right, IsPermutation-cons, IsPermutation-keeps, IsPermutation-map, IsPermutation-middle, IsPermutation-refl, IsPermutation-sym, IsPermutation-to_front, IsPermutation-trans, answers_always, length_permutation, searchable_from_sorted, sum_by-IsPermutation}
pub use Rattle.std.proofs.lemmas.List.Sums.{length-filter, sum_by-append, sum_by-cons, sum_by-set}
pub use Rattle.std.proofs.lemmas.Option.{MatchOption-at_none, MatchOption-at_some, get_or_from_slice_get, slice_get-get_or, slice_get_within}
pub use Rattle.std.specs.Bool.{Decides}
pub use Rattle.std.specs.List.{AllByRecursion, AllPairs, Contains, count_by, slice_get, slice_range, sum_by, swap}
pub use Rattle.std.specs.List.Sorted.{IsNonDecreasingBy, IsPartitionPoint, IsPermutation}
pub use Rattle.std.specs.Option.{MatchOption, is_some}
pub use Rattle.std.specs.Ordering.{is_eq, is_le, is_lt, nat_cmp, ordering_index}
pub use Rattle.std.specs.Prelude.{nat_lt}
pub use Rattle.btr_check_names.specs.Hashes.{AscendByHash, has_hash, hash_at, hashes_from}
pub use Rattle.btr_check_names.specs.Inodes.{AreAbove, AscendByNumber, IsNamedOnce, IsNumbered, Names, StandIn, StandsBy}
pub use Rattle.btr_check_names.specs.Lists.{IsWithin, entry_by, entry_in, name_in}
pub use Rattle.btr_check_names.specs.Marks.{IsTooMany, chosen}
pub use Rattle.btr_check_names.specs.Rings.{AreEnded, AreOnWay, Ends, IsBegun, IsPlace, Leads, more, one, top, under}
pub use Rattle.btr_check_names.specs.Table.{AreNames, HasName, IsNamedAt, NamesMet, NoneNamedBut, back_names, given, hashed_of, named, own_names, told_of}
pub use Rattle.btr_check_names.specs.declared.hashes.HashAt.{HashAt}
pub use Rattle.btr_check_names.specs.declared.inodes.InodeAt.{InodeAt}
pub use Rattle.btr_check_rules.specs.Names.{BackName, DifferInName, IndexEntry, NamedEntry, back_name, dir_of, entries_in, index_entries, names_inode_item, names_of, own_name}
pub use Rattle.btr_check_rules.specs.Recount.{PairsAt, TreeOn}
pub use Rattle.btr_check_rules.specs.btr_reader.btr_keys.DirEntry.{dir_entry_value}
pub use Rattle.btr_check_rules.specs.btr_reader.btr_keys.declared.key.Key.{Key}
pub use Rattle.btr_check_rules.specs.btr_reader.btr_reader_walk.btr_keys.btrfs_format.declared.key.TheConstants.{INODE_ITEM}
pub use Rattle.castagnoli.specs.Castagnoli.{extref_hash}
pub use Rattle.fs_paths.proofs.Middle.{in_order, middle_is, parted_le, parted_lt}
