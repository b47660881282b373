-- What the proofs of btr_check_rules import of std, of lower crates and of its specs.
pub use Rattle.std.proofs.Common.{All, AllPairs, Bool, Contains, List, None, Option, Some, [], ap, append_assoc, ap₂, arith, cond, eqb, false, filter, get_or, if◌then◌else◌, inl, inr, length, map, nat_lt, not, refl, set, subst, suc, sym, true, zero, ℕ, ⊎_elim, ◌%◌, ◌&&◌, ◌*◌, ◌++◌, ◌+◌, ◌<◌, ◌==◌, ◌||◌, ◌∙◌, ◌∷◌, ◌≡◌, ◌≢◌, ◌≤◌, ◌⊎◌}
pub use Rattle.std.proofs.lemmas.Bool.{and_from, and_parts, cases_lt, eq-eqb, eqb-true, false_from_ne_true, true≢false}
pub use Rattle.std.proofs.lemmas.List.{append-nil, get_or-map, get_or_default, length-map, map-append}
pub use Rattle.std.proofs.lemmas.List.Concat.{flat_map-append}
pub use Rattle.std.proofs.lemmas.List.Elements.{All-append, All-cons, All-contains, All-from_recursion, All-head, All-nil, All-tail, Contains-append_left, Contains-get_or}
pub use Rattle.std.proofs.lemmas.List.Kept.{AllPairs-cons, AllPairs-filter}
pub use Rattle.std.proofs.lemmas.List.Sorted.{All-permutation, Contains-permutation, IsPermutation-append, IsPermutation-append_comm, IsPermutation-append_left, IsPermutation-append_right, IsPermutation-cons, IsPermutation-keeps, IsPermutation-map, IsPermutation-middle, IsPermutation-refl, IsPermutation-sym, IsPermutation-trans, sum_by-IsPermutation}
pub use Rattle.std.proofs.lemmas.List.Sums.{sum_by-append, sum_by-cons}
pub use Rattle.std.specs.List.{count_by, flat_map, list_any, sum_by, swap}
pub use Rattle.std.specs.List.Sorted.{IsPermutation}
pub use Rattle.btr_check_rules.specs.Extents.{Extent, extent_by, extent_of, is_extent_item, is_full, is_node, is_node_head, is_ref_item, plain_extent, refers_to_node, same_ref}
pub use Rattle.btr_check_rules.specs.Nodes.{is_relocated, node_bytes}
pub use Rattle.btr_check_rules.specs.Plain.{ArePlainReferences, AreUnshared, CountsUses, IsDataItem, IsNodeItem, IsOwnNode, IsOwnTree, IsWhole, PlainReferencesAreKept, TellsRefs, child_addresses, is_group, is_of_range, is_use, leaf_of}
pub use Rattle.btr_check_rules.specs.Recount.{DataUse, EachAt, HasItem, PairsAt, Recount, TreeOn, all_trees, data_uses, node_addresses, nodes_met, object_of, once, uses_in, uses_of}
pub use Rattle.btr_check_rules.specs.References.{FitFeatures, HasRefs, IsExtentTreeItem, IsNodeIn, IsShared, IsTold, KeepsExtentItem, KeepsReferences, Made, StandsBefore, at_most_one, child_ref, extent_items, extents_told, is_full_node, is_made_by, is_made_to, is_ref_to, own_refs, refs_from, refs_made, root_ref, told_count, told_refs, use_ref}
pub use Rattle.btr_check_rules.specs.Walk.{if_inner, if_leaf, node_items, owners_of, walk_refusals, walked_items, walked_nodes}
pub use Rattle.btr_reader.proofs.fs_paths.Lists.{at_head, from_filter, from_flat_map, from_map, head_or_tail, in_filter, in_flat_map, in_map, in_tail}
pub use Rattle.btr_reader.specs.btr_keys.declared.key.Key.{Key}
pub use Rattle.btr_reader.specs.btr_node.Head.{has_head, head_in, nritems}
pub use Rattle.btr_reader.specs.btr_node.Leaf.{Item, has_leaf_head, has_leaf_layout, has_leaf_order, keys_of}
pub use Rattle.btr_reader.specs.btr_node.declared.child.Child.{Child}
pub use Rattle.btr_reader.specs.btr_reader_walk.declared.tree.NodePointer.{NodePointer}
pub use Rattle.btr_reader.specs.btr_space_items.InlineRef.{inline_refs_of, ref_kind, ref_objectid, ref_offset, ref_parent, ref_root, ref_uses}
pub use Rattle.btr_reader.specs.btr_space_items.declared.inline_ref.InlineRef.{InlineRef}
pub use Rattle.btr_reader.specs.btr_space_items.declared.inline_ref.InlineRef.TheVariants.{DataRef, SharedBlock, SharedData, TreeBlock}
pub use Rattle.btr_reader.specs.outside.History.{Image}
