-- What the proofs of btr_tree_writer import of std, of lower crates and of its specs.
pub use Rattle.std.proofs.Common.{Bool, Err, List, None, Ok, Option, Result, Some, [], ap, append_assoc, ap₂, arith, drop, false, get_or, if◌then◌else◌, inl, inr, length, length-drop, map, refl, subst, suc, sym, take, true, zero, ℕ, ⊎_elim, ◌%◌, ◌*◌, ◌++◌, ◌+◌, ◌-◌, ◌/◌, ◌<◌, ◌^◌, ◌∙◌, ◌∷◌, ◌≡◌, ◌≢◌, ◌≤◌}
pub use Rattle.std.proofs.Math.Seq.{drop-cons, take-add}
pub use Rattle.std.proofs.lemmas.List.{append-nil, get_or-drop, get_or-take, get_or_default, length-take, map-append}
pub use Rattle.std.proofs.lemmas.List.Elements.{All-append, All-cons, All-drop, All-head, All-map, All-nil, All-tail}
pub use Rattle.std.proofs.lemmas.List.Sums.{sum_by-append, sum_by-cons}
pub use Rattle.std.specs.List.{All, AllPairs, concat, flat_map, sum}
pub use Rattle.std.specs.List.Sorted.{IsPermutation}
pub use Rattle.std.specs.Prelude.{IsTrue}
pub use Rattle.std.specs.Result.{IsErrAnd, MatchResult}
pub use Rattle.btr_tree.proofs.Placing.{Lie, first_lies, maps_itself, rest_lies}
pub use Rattle.btr_tree.proofs.outside.Crash.{writes_length, writes_none, writes_then, writes_weaker}
pub use Rattle.btr_tree.specs.Builder.{HasTree, HasWhole, leaves_of, no_key}
pub use Rattle.btr_tree.specs.Building.{AreSlots, Made, MapsSlots, pointer_to, taken}
pub use Rattle.btr_tree.specs.Counting.{Counted, Tally, bytes_of, tree_nodes}
pub use Rattle.btr_tree.specs.Packing.{capacity, fan_out, level_sizes, packed_leaves, tree_levels, weight}
pub use Rattle.btr_tree.specs.Roots.{MeetsNodes, lengths_of, level_pointers, pointers_to}
pub use Rattle.btr_tree.specs.Whole.{IsWholeTree}
pub use Rattle.btr_tree.specs.Writing.{IsInSlots}
pub use Rattle.btr_tree.specs.btr_keys.declared.key.Key.{Key}
pub use Rattle.btr_tree.specs.btr_node.Leaf.{Item, items_in, keys_of}
pub use Rattle.btr_tree.specs.btr_node.NodeSize.{IsNodeSize}
pub use Rattle.btr_tree.specs.btr_reader_walk.Events.{TreeEvent, nodes_in, walk_events}
pub use Rattle.btr_tree.specs.btr_reader_walk.Map.{block_of_place, blocks_at, holds, identity, place}
unfoldable pub use Rattle.btr_tree.specs.btr_reader_walk.Map.{node_at}
pub use Rattle.btr_tree.specs.btr_reader_walk.Tree.{tree_items}
pub use Rattle.btr_tree.specs.btr_reader_walk.declared.map.MapRange.{MapRange}
pub use Rattle.btr_tree.specs.btr_reader_walk.declared.tree.Form.{Form}
pub use Rattle.btr_tree.specs.declared.answer.TreeAnswer.{TreeAnswer}
pub use Rattle.btr_tree.specs.declared.climb.Root.{Root}
pub use Rattle.btr_tree.specs.outside.Fault.{HasCauseOf, Rose}
pub use Rattle.btr_tree.specs.outside.History.{History, Image, WritesOnly, block_at, reads}
pub use Rattle.btr_tree_writer.specs.Answers.{IsFailure, IsSourceFailure, IsWriteAnswer, of_builder, of_source}
pub use Rattle.btr_tree_writer.specs.Source.{LieApart, SameWhere}
pub use Rattle.btr_tree_writer.specs.Trees.{AreWritable, TreeStands, TreeStandsBy, TreesStandByNodes, TreesStandByOffsets, pointer_of_root, read_form}
pub use Rattle.btr_tree_writer.specs.Writer.{IsAbove, StandsOn, WritesTree, last_key}
pub use Rattle.btr_tree_writer.specs.declared.answer.WriteAnswer.{WriteAnswer}
pub use Rattle.space_items.proofs.Ascending.{nodes_at_slots, upper_at}
pub use Rattle.space_items.specs.declared.node.TreeNode.{TreeNode}
