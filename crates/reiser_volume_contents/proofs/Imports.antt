-- What the proofs of reiser_volume_contents import of std, of lower crates and of its specs.
pub use Rattle.std.proofs.Common.{All, AllPairs, Bool, Err, IfErr, IfOk, IfSome, IsSome, IsTrue, List, None, Ok, Option, Result, Some, [], add-one, ap, append_assoc, arith, drop, false, filter, if◌then◌else◌, inl, inr, length, map, nat_eq, nat_lt, not, refl, slice_get, subst, suc, sym, take, true, true≢false, zero, ℕ, ⊎_elim, ◌&&◌, ◌++◌, ◌+◌, ◌-◌, ◌<◌, ◌==◌, ◌||◌, ◌∙◌, ◌∷◌, ◌≡◌, ◌≢◌, ◌≤◌, ◌⊎◌}
pub use Rattle.std.proofs.lemmas.Bool.{eqb-true, false≢true}
pub use Rattle.std.proofs.lemmas.Bool.Decides.{nat_tests}
pub use Rattle.std.proofs.lemmas.List.{append-nil, map-append}
pub use Rattle.std.proofs.lemmas.List.Concat.{flat_map-append}
pub use Rattle.std.proofs.lemmas.Result.{err_from_is_err_and}
pub use Rattle.std.specs.List.{dedup_from, flat_map, list_all, list_any}
pub use Rattle.std.specs.Ordering.{is_lt, nat_cmp, ordering_then}
pub use Rattle.reiser_volume_contents.specs.Answers.{IsFault, IsFaultOrMemory, NamesBlock, NamesLeaf, NamesOwnLeaf}
pub use Rattle.reiser_volume_contents.specs.Holds.{AreFileItems, HoldsObject, object_items}
pub use Rattle.reiser_volume_contents.specs.Reads.{IsFrom, IsKeyBelow, IsLeafOf, IsWholeLeaf, Looks, Reads, StandsFrom, Starts, at_first, behind_all, fuel, items_ahead, items_from, leaf_ahead, leaf_items, listed, object_order, standing}
pub use Rattle.reiser_volume_contents.specs.declared.object_items.ObjectItems.{ObjectItems}
pub use Rattle.reiser_volume_files.specs.Bytes.{AlignedByKind, IsAligned, MayFollow, direct_content, file_bytes, tail_block, target_bytes}
pub use Rattle.reiser_volume_files.specs.Pieces.{are_inside, is_inside}
pub use Rattle.reiser_volume_files.specs.States.{MapsFile, MarksFile}
pub use Rattle.reiser_volume_objects.proofs.reiser_node.Grammar.{heads_within, leaf_decides}
pub use Rattle.reiser_volume_objects.proofs.reiser_walk.Events.{items_in-append, reached_in-append}
pub use Rattle.reiser_volume_objects.proofs.reiser_walk.Lists.{Each, Pairs, all_from_each, all_pairs_from_pairs, each_both, each_from_all, each_map, pairs_from_all_pairs}
pub use Rattle.reiser_volume_objects.proofs.reiser_walk.Rules.{sound_exactly}
pub use Rattle.reiser_volume_objects.proofs.reiser_walk.Standing.{body_stands, head_stands}
pub use Rattle.reiser_volume_objects.specs.Keys.{items_of, object_key_of, same_key}
pub use Rattle.reiser_volume_objects.specs.Leaves.{IsFirstLeaf, leaves_of, without_repeats}
pub use Rattle.reiser_volume_objects.specs.declared.key.ObjectKey.{ObjectKey}
pub use Rattle.reiser_volume_objects.specs.declared.table.Objects.{Objects}
pub use Rattle.reiser_volume_objects.specs.outside.History.{Image, block_at}
pub use Rattle.reiser_volume_objects.specs.refusals.declared.answer.VolAnswer.{VolAnswer}
pub use Rattle.reiser_volume_objects.specs.refusals.declared.answer.VolAnswer.TheVariants.{Fault, Memory, Refused}
pub use Rattle.reiser_volume_objects.specs.reiser_items.Order.{key_order, kind_number}
pub use Rattle.reiser_volume_objects.specs.reiser_node.Head.{head_at, head_of_kind, kind_at}
pub use Rattle.reiser_volume_objects.specs.reiser_node.Inner.{child_block_at, is_inner, pointer_count}
pub use Rattle.reiser_volume_objects.specs.reiser_node.Leaf.{IsLeaf, body_at, count, head_place, is_leaf}
pub use Rattle.reiser_volume_objects.specs.reiser_node.declared.head.ItemHead.{ItemHead}
pub use Rattle.reiser_volume_objects.specs.reiser_node.declared.head.ItemKind.{ItemKind}
pub use Rattle.reiser_volume_objects.specs.reiser_walk.Items.{Event, ReiserItem, blocks_named, events_of, held_by, is_indirect, is_no_hole, item, item_at, item_of, leaf_events, node, pointer}
pub use Rattle.reiser_volume_objects.specs.reiser_walk.Laws.{FitsHead, FitsKind, IsNode}
pub use Rattle.reiser_volume_objects.specs.reiser_walk.Rules.{is_system_of, tree_damages}
pub use Rattle.reiser_volume_objects.specs.reiser_walk.Tree.{Visit, at_children, items_of_events, items_of_tree, reached_in, tree_events, visits_in}
unfoldable pub use Rattle.reiser_volume_objects.specs.reiser_walk.Tree.{node_events}
pub use Rattle.reiser_volume_objects.specs.reiser_walk.declared.block_pointer.BlockPointer.{BlockPointer}
pub use Rattle.reiser_volume_objects.specs.reiser_walk.declared.reiser_tree.ReiserTree.{ReiserTree}
