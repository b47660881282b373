-- What the proofs of space_items import of std, of lower crates and of its specs.
pub use Rattle.std.proofs.Common.{Bool, Err, IfOk, List, None, Ok, Option, Result, Some, [], ap, append-nil, append_assoc, ap₂, arith, cond, div-mul-le_self, drop, drop-cons, eq-eqb, eqb, false, filter, get_or, inl, inr, le-ltb, length, length-append, lt-ltb, ltb, map, map-id, min, mul-suc, ne_eqb, not, refl, subst, subst₂, suc, sum_by, sym, take, take-suc, true, zero, ℕ, ⊎_elim, ◌%◌, ◌&&◌, ◌*◌, ◌++◌, ◌+◌, ◌-◌, ◌/◌, ◌<◌, ◌^◌, ◌∙◌, ◌∷◌, ◌≡◌, ◌≢◌, ◌≤◌, ◌⊎◌}
pub use Rattle.std.proofs.Math.Nat.{add-div_left, div-eq_of_lt, div_self, eq-or-lt_of_le, lt-div-mul-add, mod-eq_of_lt, mod_self, mul-add, mul-add-mod_self_left, mul-le-mul_left, mul_comm, zero-div, zero-mod}
pub use Rattle.std.proofs.lemmas.Bool.{and_from, and_parts, both_ways, cases_eq, cases_lt, false≢true, ltb-true}
pub use Rattle.std.proofs.lemmas.Cmp.{nat_cmp_total, on_total, ranked, then_total}
pub use Rattle.std.proofs.lemmas.Grind.{div_ceil_times}
pub use Rattle.std.proofs.lemmas.List.{drop-drop, drop_all, drop_more, get_or-drop, get_or-map, get_or-take, get_or_at, get_or_past, length-drop, length-map, length-take, length-take-le, length_push, map-append, map_more, map_push, take-append-drop, take-take, take_all, take_at, take_more, take_rest}
pub use Rattle.std.proofs.lemmas.List.Elements.{All-append, All-cons, All-head, All-map, All-more, All-nil, All-tail, All-weaker, filter-append, filter_more}
pub use Rattle.std.proofs.lemmas.List.Kept.{AllPairs-cons}
pub use Rattle.std.proofs.lemmas.List.Sums.{sum_by-append, sum_by-cons, sum_by-le, sum_by-take-le, sum_by_more, sum_by_more_le}
pub use Rattle.std.proofs.lemmas.Option.{MatchOption-at_some, get_or_from_slice_get, slice_get-get_or, slice_get_within}
pub use Rattle.std.specs.Cmp.{IsTotalOrder}
pub use Rattle.std.specs.Int.{div_ceil}
pub use Rattle.std.specs.List.{flat_map, range_with_len, sum}
pub use Rattle.std.specs.Ordering.{is_lt, match_ordering, nat_cmp, ordering_reverse, ordering_then}
pub use Rattle.std.specs.Prelude.{All, AllPairs, Any, IfSome, MatchOption, OnOk, codes, nat_le, nat_lt, slice_get, slice_index_or, slice_range, ◌==◌}
pub use Rattle.std.specs.declared.cmp.Ordering.{Ordering}
pub use Rattle.std.specs.declared.cmp.Ordering.TheVariants.{Equal, Greater, Less}
pub use Rattle.btr_space_items.specs.Device.{device_bytes}
unfoldable pub use Rattle.btr_space_items.specs.Device.{device_layout}
pub use Rattle.btr_space_items.specs.btrfs_format.declared.key.TheConstants.{BLOCK_GROUP_ITEM, DEV_ITEM, EXTENT_CSUM, METADATA_ITEM, ROOT_ITEM}
pub use Rattle.btr_space_items.specs.btrfs_format.declared.object.TheConstants.{DEV_ITEMS_OBJECTID, EXTENT_CSUM_OBJECTID, EXTENT_TREE, FS_TREE}
pub use Rattle.btr_space_items.specs.btrfs_format.declared.size.TheConstants.{ITEM_SIZE, METADATA_ITEM_SIZE}
pub use Rattle.btr_tree.specs.Counting.{Counted, Tally, bytes_of, leaf_bound, node_bound, tree_nodes}
pub use Rattle.btr_tree.specs.Packing.{capacity, fan_out, level_sizes, packed_leaves, tree_levels, weight}
pub use Rattle.btr_tree.specs.Roots.{lengths_of, level_pointers}
pub use Rattle.btr_tree.specs.btr_keys.Key.{IsBefore, key_cmp, make_key}
unfoldable pub use Rattle.btr_tree.specs.btr_keys.Key.{key_layout}
pub use Rattle.btr_tree.specs.btr_keys.declared.key.Key.{Key}
pub use Rattle.btr_tree.specs.btr_node.Leaf.{Item, keys_of}
pub use Rattle.btr_tree.specs.btr_node.NodeSize.{IsNodeSize}
pub use Rattle.btr_tree.specs.btr_node.Order.{Ascends, ascends, is_before}
pub use Rattle.btr_tree.specs.btr_reader_walk.declared.tree.NodePointer.{NodePointer}
pub use Rattle.btr_tree.specs.csum_kinds.Kind.{kind_sum, kind_width}
pub use Rattle.btr_tree.specs.csum_kinds.declared.kind.SumKind.{SumKind}
pub use Rattle.btr_tree.specs.csum_kinds.declared.kind.SumKind.TheVariants.{Crc32c, Sha256}
pub use Rattle.btr_tree.specs.outside.History.{Image, OverTold, block_at}
pub use Rattle.btr_tree.specs.vol_block.declared.ids.Ids.{Ids}
pub use Rattle.space_items.specs.Chunks.{chunk_item, chunk_items, dev_extent_item, device_body, device_items}
pub use Rattle.space_items.specs.Extents.{bytes_of_nodes, bytes_of_pieces, data_ref, extent_items, group_item, image_refs, is_behind, node_item, piece_item, piece_refs, put_ref, used_in}
pub use Rattle.space_items.specs.Laws.{AreIds, ChunkItemsFit, ChunksAreOne, RootItemsFit}
pub use Rattle.space_items.specs.Merging.{item_cmp, merged}
pub use Rattle.space_items.specs.Nodes.{AreNodes, HasSlots, merged_nodes, nodes_at, nodes_of_tree}
pub use Rattle.space_items.specs.Own.{IsOwnCount, OwnNodesStay, extent_bytes, nodes_with, nodes_with_own, own_at, own_bound, own_lengths}
pub use Rattle.space_items.specs.Roots.{AreBefore, default_entry, other_root_items, root_items, saved_ref, tree_root_item, tree_uuid, zero_uuid}
pub use Rattle.space_items.specs.Stream.{ArePieces, FitsExtents, IsAsBefore, IsPieceTaken, IsSmallGroup, IsSmallNext, IsSmallPiece, LieBefore, behind, blocks_taken, extent_standing, extents_ahead, first_of, group_of, item_of_group, item_of_next, left_of, passed, place_of, sum_standing, sums_ahead}
pub use Rattle.space_items.specs.Sums.{block_sum, run_items, sum_items, sums_item}
pub use Rattle.space_items.specs.declared.extent_stream.ExtentStream.{ExtentStream}
pub use Rattle.space_items.specs.declared.extent_stream.Next.{Next}
pub use Rattle.space_items.specs.declared.groups.Group.{Group}
pub use Rattle.space_items.specs.declared.node.TreeNode.{TreeNode}
pub use Rattle.space_items.specs.declared.node.TreeRoot.{TreeRoot}
pub use Rattle.space_items.specs.declared.sum_stream.SumStream.{SumStream}
pub use Rattle.unit_plan.specs.Chunks.{AreChunks, AreChunksBy, HoldsUnit, IsChunk, is_in_runs, role_by, usable_end}
unfoldable pub use Rattle.unit_plan.specs.Chunks.{has_role, role_of}
pub use Rattle.unit_plan.specs.Sums.{sums_in_item}
pub use Rattle.unit_plan.specs.declared.chunk.PlannedChunk.{PlannedChunk}
pub use Rattle.unit_plan.specs.declared.chunk.Role.{Role}
pub use Rattle.unit_plan.specs.declared.item_bytes.TheConstants.{BLOCK_GROUP_BYTES, EXTENT_BYTES, NODE_BYTES}
pub use Rattle.unit_plan.specs.declared.piece.Piece.{Piece}
pub use Rattle.unit_plan.specs.declared.plan.Plan.{Plan}
