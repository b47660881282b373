-- What the proofs of btr_reader_walk import of std, of lower crates and of its specs.
pub use Rattle.std.proofs.Common.{Bool, Contains, Err, IsTrue, List, None, Ok, OnErr, OnOk, Option, Result, Some, [], ap, append_assoc, arith, drop, eqb, false, get_or, if◌then◌else◌, inl, inr, is_some, length, map, nat_le, nat_lt, not, refl, reverse, subst, suc, sym, take, true, vec_capacity, zero, ℕ, ◌%◌, ◌&&◌, ◌*◌, ◌++◌, ◌+◌, ◌-◌, ◌/◌, ◌<◌, ◌||◌, ◌∙◌, ◌∷◌, ◌≡◌, ◌≤◌, ◌⊎◌}
pub use Rattle.std.proofs.lemmas.Bool.Decides.{nat_tests}
pub use Rattle.std.proofs.lemmas.List.{append-nil, drop_more, get_or-map, get_or_default, length-map, map-append, reverse-append, take_all}
pub use Rattle.std.proofs.lemmas.List.Elements.{All-cons, All-head, All-nil, All-tail, Contains-append_left, Contains-append_right}
pub use Rattle.std.proofs.lemmas.Result.{err_from_is_err_and}
pub use Rattle.std.specs.List.{All, flat_map}
pub use Rattle.btr_node.proofs.Rows.{both, joined, length-records_in}
pub use Rattle.btr_node.specs.Head.{behind_head, head_in, nritems}
pub use Rattle.btr_node.specs.Inner.{HasInnerLayout, IsBtrfsInner, child_layout}
unfoldable pub use Rattle.btr_node.specs.Inner.{children_in}
pub use Rattle.btr_node.specs.Leaf.{HasLeafLayout, IsBtrfsLeaf, Item, item_layout, item_of, keys_of}
unfoldable pub use Rattle.btr_node.specs.Leaf.{heads_in, items_in}
pub use Rattle.btr_node.specs.Rules.{broken, inner_damages, leaf_damages}
pub use Rattle.btr_node.specs.btr_keys.declared.key.Key.{Key}
pub use Rattle.btr_node.specs.declared.child.Child.{Child}
pub use Rattle.btr_node.specs.declared.expect.Expect.{Expect}
pub use Rattle.btr_node.specs.outside.History.{Image, block_at}
pub use Rattle.btr_node.specs.refusals.declared.answer.BtrAnswer.{BtrAnswer}
pub use Rattle.btr_node.specs.refusals.declared.answer.BtrAnswer.TheVariants.{Fault, Memory, Refused}
pub use Rattle.btr_node.specs.refusals.declared.refusal.BtrRefusal.{BtrRefusal}
pub use Rattle.btr_node.specs.refusals.declared.refusal.BtrRefusal.TheVariants.{BadBtrfs}
pub use Rattle.btr_node.specs.refusals.declared.rule.BtrRule.{BtrRule}
pub use Rattle.btr_node.specs.refusals.declared.rule.BtrRule.TheVariants.{KeyOrder, NodeHead, Unmapped}
pub use Rattle.btr_reader_walk.specs.Events.{TreeEvent, TreeItem, in_leaf, item, items_in_events, leaf_events, may_be_bare, node, nodes_in, unless_damaged}
unfoldable pub use Rattle.btr_reader_walk.specs.Events.{node_events}
pub use Rattle.btr_reader_walk.specs.Laws.{AreSubtrees, ChildrenGiveItems, IsSubtree, LeavesGiveItems, NodesAreMet, NodesDecide, SubtreesAreTrees}
pub use Rattle.btr_reader_walk.specs.Map.{are_mapped, block_of_place, blocks_at, holds, place}
unfoldable pub use Rattle.btr_reader_walk.specs.Map.{is_mapped, node_at}
pub use Rattle.btr_reader_walk.specs.Node.{child_pointer, content_damages, want}
unfoldable pub use Rattle.btr_reader_walk.specs.Node.{node_damages}
pub use Rattle.btr_reader_walk.specs.Nodes.{child_entries, child_entry, damages_at, entry_at, nodes_from, owner_asked, wanted}
unfoldable pub use Rattle.btr_reader_walk.specs.Nodes.{nodes_under}
pub use Rattle.btr_reader_walk.specs.Stack.{fan_out, is_node_size, is_stack, stack_weight, stacked, weight}
pub use Rattle.btr_reader_walk.specs.Tree.{at_address, bare_item, is_above, leaf_items, node_faults, order_damages, pointer_damages, tree_refusals, when_sound}
pub use Rattle.btr_reader_walk.specs.Visits.{GoesBelow, Opens, Refuses, ahead, nodes_fuel}
pub use Rattle.btr_reader_walk.specs.Walks.{Blames, IsAmong, IsAt, IsIn, IsOver, IsReadFault, LieOn, Moves, StandsLast, Walks, behind, below, found, fuel, hand_events, last_after, met, met_faults, own_events, rest, wrong}
pub use Rattle.btr_reader_walk.specs.declared.map.MapRange.{MapRange}
pub use Rattle.btr_reader_walk.specs.declared.node_walker.NodeWalker.{NodeWalker}
pub use Rattle.btr_reader_walk.specs.declared.tree.Form.{Form}
pub use Rattle.btr_reader_walk.specs.declared.tree.NodeEntry.{NodeEntry}
pub use Rattle.btr_reader_walk.specs.declared.tree.NodePointer.{NodePointer}
pub use Rattle.btr_reader_walk.specs.declared.tree.Owners.{Owners}
pub use Rattle.btr_reader_walk.specs.declared.tree.Tree.{Tree}
pub use Rattle.btr_reader_walk.specs.declared.walker.TreeWalker.{TreeWalker}
