-- What the proofs of btr_tree import of std, of lower crates and of its specs.
pub use Rattle.std.proofs.Common.{Bool, Err, IsTrue, Less, List, None, Ok, Option, Ordering, Result, Some, [], ap, append_assoc, arith, drop, eqb, false, get_or, get_or-set_other, get_or-set_same, if◌then◌else◌, inl, inr, leb, length, length-append, ltb, map, min, refl, set, subst, suc, sym, take, true, zero, zero-add, ℕ, ⊎_elim, ◌%◌, ◌&&◌, ◌*◌, ◌++◌, ◌+◌, ◌-◌, ◌/◌, ◌<◌, ◌^◌, ◌||◌, ◌∙◌, ◌∷◌, ◌≡◌, ◌≢◌, ◌≤◌, ◌⊎◌}
pub use Rattle.std.proofs.Math.Nat.{mul-suc, mul_comm, pow-suc}
pub use Rattle.std.proofs.lemmas.Bool.{and_from, both_ways, cases_eq, cases_lt, cases_order, eq-eqb, le-leb, lt-leb, lt-ltb, or_right}
pub use Rattle.std.proofs.lemmas.Grind.{div_ceil_times}
pub use Rattle.std.proofs.lemmas.List.{append-nil, drop-append-le, drop-drop, drop-map, get_or-drop, get_or-take, get_or_append_left, get_or_at, get_or_push, length-drop, length-map, length-take, length_push, map-append, nil_from_length, take-append-drop, take-append-le, take-map, take_all, take_more}
pub use Rattle.std.proofs.lemmas.List.Concat.{flat_map-append}
pub use Rattle.std.proofs.lemmas.List.Elements.{All-append, All-cons, All-head, All-nil, All-push, All-tail, All-weaker}
pub use Rattle.std.proofs.lemmas.List.Sorted.{IsPermutation-append_comm, IsPermutation-append_left, IsPermutation-append_right, IsPermutation-refl, IsPermutation-trans}
pub use Rattle.std.proofs.lemmas.List.Sums.{sum_by-cons, sum_by_push}
pub use Rattle.std.proofs.lemmas.Nat.{mul-le}
pub use Rattle.std.proofs.lemmas.Option.{get_or_from_slice_get, slice_get-get_or, slice_get_within}
pub use Rattle.std.specs.Cmp.{nat_cmp_is}
pub use Rattle.std.specs.Int.{div_ceil}
pub use Rattle.std.specs.List.{concat, flat_map, range_with_len, slice_get, sum, sum_by}
pub use Rattle.std.specs.List.Sorted.{IsPermutation}
pub use Rattle.std.specs.Ordering.{is_lt, nat_cmp, ordering_then}
pub use Rattle.std.specs.Prelude.{All, IfOk, IsErr, MatchOption, OnOk, is_some, ◌↔◌}
pub use Rattle.btr_node.proofs.Ascending.{first_ascends, second_ascends}
pub use Rattle.btr_node.proofs.NodeBack.{node_behind_head, node_head, size_within}
pub use Rattle.btr_node.proofs.Putting.{bytes_of-parts}
pub use Rattle.btr_node.proofs.Rows.{both, joined, length-records_in}
pub use Rattle.btr_node.proofs.Spelled.{child_spelled, key_spelled}
pub use Rattle.btr_node.proofs.outside.Crash.{write_only, writes_none, writes_then, writes_weaker}
pub use Rattle.btr_node.specs.Draft.{Draft, IsDraft, contents, data_of, draft_bytes, head_of, heads_of, node_bytes, room, started_for}
pub use Rattle.btr_node.specs.Head.{behind_head, head_in, nritems}
unfoldable pub use Rattle.btr_node.specs.Head.{head_layout}
pub use Rattle.btr_node.specs.Inner.{IsBtrfsInner, first_keys}
unfoldable pub use Rattle.btr_node.specs.Inner.{child_layout, children_in}
pub use Rattle.btr_node.specs.Leaf.{IsBtrfsLeaf, Item, item_of, keys_of}
unfoldable pub use Rattle.btr_node.specs.Leaf.{heads_in, item_layout, items_in}
pub use Rattle.btr_node.specs.NodeSize.{IsNodeSize}
pub use Rattle.btr_node.specs.Order.{Ascends, ascends, is_before, is_before_first}
pub use Rattle.btr_node.specs.Records.{records_in}
pub use Rattle.btr_node.specs.btr_keys.declared.key.Key.{Key}
pub use Rattle.btr_node.specs.btrfs_format.declared.size.TheConstants.{HEADER_SIZE, ITEM_SIZE, KEY_PTR_SIZE}
pub use Rattle.btr_node.specs.declared.child.Child.{Child}
pub use Rattle.btr_node.specs.declared.expect.Expect.{Expect}
pub use Rattle.btr_node.specs.outside.History.{History, Image, WritesOnly, block_at, reads}
pub use Rattle.btr_node.specs.refusals.declared.refusal.BtrRefusal.{BtrRefusal}
pub use Rattle.btr_node.specs.refusals.declared.rule.BtrRule.{BtrRule}
pub use Rattle.btr_reader_walk.proofs.Events.{leaf_nodes, nodes_in-append}
pub use Rattle.btr_reader_walk.proofs.Subtrees.{to}
pub use Rattle.btr_reader_walk.specs.Events.{TreeEvent, items_in_events, leaf_events, may_be_bare, node, nodes_in, pointer_events, unless_damaged, walk_events}
unfoldable pub use Rattle.btr_reader_walk.specs.Events.{node_events}
pub use Rattle.btr_reader_walk.specs.Laws.{AreSubtrees, ChildrenGiveItems, IsSubtree, LeavesGiveItems, SubtreesAreTrees}
pub use Rattle.btr_reader_walk.specs.Map.{are_mapped, block_of_place, blocks_at, holds, identity, place}
unfoldable pub use Rattle.btr_reader_walk.specs.Map.{is_mapped, node_at}
pub use Rattle.btr_reader_walk.specs.Node.{child_pointer, content_damages, want}
unfoldable pub use Rattle.btr_reader_walk.specs.Node.{node_damages}
pub use Rattle.btr_reader_walk.specs.Tree.{at_address, bare_item, leaf_items, node_faults, order_damages, pointer_damages, tree_items, tree_refusals, when_sound}
pub use Rattle.btr_reader_walk.specs.declared.map.MapRange.{MapRange}
pub use Rattle.btr_reader_walk.specs.declared.tree.Form.{Form}
pub use Rattle.btr_reader_walk.specs.declared.tree.NodePointer.{NodePointer}
pub use Rattle.btr_tree.specs.Builder.{Building, HasPut, HasTree, HasWhole, Holds, IsIdle, IsInHand, IsNextSlot, IsNextTaken, IsPushed, IsReady, IsSameBuilding, Standing, Stands, all_made, child_of, children_of, first_key, item_size, leaf_begun, leaf_closed, leaves_of, pushed, pushed_on, told_nodes}
pub use Rattle.btr_tree.specs.Building.{AreSlots, Goes, HasBack, IsFresh, IsLater, IsParent, IsParentAt, Made, MapsSlots, NodeReadsBack, StandAt, StandBy, begun_at, expected_at, filled, flushed, nodes_on, pieces_of, pointer_to, slot, taken, with_item, with_node, with_written}
pub use Rattle.btr_tree.specs.Counting.{Counted, Tally, bytes_of, nodes_above, tree_nodes}
pub use Rattle.btr_tree.specs.Laws.{GivesItself, MapsAgree, NodesHaveLinuxForm, NodesNeverFall, PackingIsFull, StandsBySlots}
pub use Rattle.btr_tree.specs.Packing.{capacity, fan_out, packed, packed_leaves, tree_levels, weight}
unfoldable pub use Rattle.btr_tree.specs.Packing.{level_sizes, packed_from}
pub use Rattle.btr_tree.specs.Roots.{AreFirst, AreRoots, AreWhole, HasForest, HasNodes, HasSubtreeRoots, HasWholeNodes, IsClimbed, IsCompleted, IsExtended, IsFinished, IsForest, IsRaised, IsRoot, MeetsNodes, lengths_of, level_pointers, nodes_below, pointers_to}
pub use Rattle.btr_tree.specs.Whole.{ArePacked, HasFirstKey, HasFirstKeys, HasLinuxForm, IsExact, IsPacked, IsWhole, IsWholeTree, IsWritten, first_key_in}
pub use Rattle.btr_tree.specs.Writing.{HoldBytes, IsInNode, IsInSlots}
pub use Rattle.btr_tree.specs.declared.builder.TreeBuilder.TheInside.{Inside}
pub use Rattle.btr_tree.specs.declared.climb.Root.{Root}
