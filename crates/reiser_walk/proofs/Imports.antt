-- What the proofs of reiser_walk import of std, of lower crates and of its specs.
pub use Rattle.std.proofs.Common.{All, AllPairs, Bool, Contains, IfSome, IsTrue, List, None, Option, Some, [], add-one, ap, append_assoc, arith, drop, false, filter, get_or, if◌then◌else◌, inl, inr, is_some, length, length-append, map, nat_le, nat_lt, not, refl, replicate, set, slice_get, subst, suc, sym, take, true, true≢false, vec_capacity, vec_len, zero, ℕ, ⊎_elim, ◌%◌, ◌++◌, ◌+◌, ◌-◌, ◌<◌, ◌==◌, ◌^◌, ◌||◌, ◌∙◌, ◌∷◌, ◌≡◌, ◌≢◌, ◌≤◌}
pub use Rattle.std.proofs.lemmas.Bool.Decides.{Decides-and, Decides-eqb, Decides-like, Decides-or, eqb_tells, nat_tests}
pub use Rattle.std.proofs.lemmas.List.{append-nil, get_or-replicate, length-replicate}
pub use Rattle.std.proofs.lemmas.List.Concat.{flat_map-append}
pub use Rattle.std.proofs.lemmas.List.Elements.{Contains-append_cases, Contains-append_left, Contains-append_right}
pub use Rattle.std.specs.List.{flat_map}
pub use Rattle.std.specs.Ordering.{is_lt}
pub use Rattle.reiser_bitmap.specs.Bits.{has}
pub use Rattle.reiser_bitmap.specs.outside.History.{Image, block_at}
pub use Rattle.reiser_bitmap.specs.refusals.declared.refusal.VolumeRefusal.{VolumeRefusal}
pub use Rattle.reiser_bitmap.specs.refusals.declared.refusal.VolumeRefusal.TheVariants.{Damaged}
pub use Rattle.reiser_bitmap.specs.refusals.declared.rule.Rule.{Rule}
pub use Rattle.reiser_bitmap.specs.refusals.declared.rule.Rule.TheVariants.{BlockFree, BlockTwice, Body, KeyOrder}
pub use Rattle.reiser_items.proofs.reiser_node.Grammar.{heads_within, inner_decides, leaf_decides}
pub use Rattle.reiser_items.specs.Order.{key_order, kind_number}
pub use Rattle.reiser_items.specs.reiser_node.Head.{head_at}
pub use Rattle.reiser_items.specs.reiser_node.Inner.{child_block_at, is_inner, pointer_count}
pub use Rattle.reiser_items.specs.reiser_node.Leaf.{body_at, count, head_place, is_leaf}
pub use Rattle.reiser_items.specs.reiser_node.declared.head.ItemHead.{ItemHead}
pub use Rattle.reiser_walk.specs.Bodies.{fits_kind, is_body, is_save_link}
pub use Rattle.reiser_walk.specs.Hand.{item_before, leaf_rest, step_rest}
unfoldable pub use Rattle.reiser_walk.specs.Hand.{path_rest}
pub use Rattle.reiser_walk.specs.Items.{Event, ReiserItem, blocks_named, held_by, is_no_hole, item, item_at, item_events, item_of, leaf_events, node, pointer}
pub use Rattle.reiser_walk.specs.Laws.{FitsHead, FitsKind, IsNode, KeepsRules, SoundTreesKeepRules}
pub use Rattle.reiser_walk.specs.Marks.{MarksSeen, seen_after, unmarked}
pub use Rattle.reiser_walk.specs.Rules.{body_damage, broken_rule, damages, is_above, is_in, is_node, is_system_of, node_damage, order_damages, reach_damage, reach_damages, tree_damages, unless, visit_damage}
pub use Rattle.reiser_walk.specs.Tree.{Visit, at_children, items_of_events, reached_in, tree_events, visits_in}
unfoldable pub use Rattle.reiser_walk.specs.Tree.{node_events}
pub use Rattle.reiser_walk.specs.Walks.{IsAt, IsDone, IsFirstPart, IsSoundSoFar, Moves, Walks, block_count, fuel, last_head_after, level_of, pending, rest, root_rest}
pub use Rattle.reiser_walk.specs.declared.block_pointer.BlockPointer.{BlockPointer}
pub use Rattle.reiser_walk.specs.declared.hand.LeafInHand.{LeafInHand}
pub use Rattle.reiser_walk.specs.declared.hand.Step.{Step}
pub use Rattle.reiser_walk.specs.declared.reiser_tree.ReiserTree.{ReiserTree}
pub use Rattle.reiser_walk.specs.declared.walker.Walker.{Walker}
