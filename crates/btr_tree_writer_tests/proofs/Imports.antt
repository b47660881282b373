-- What the proofs of btr_tree_writer_tests import of std, of lower crates and of its specs.
pub use Rattle.std.proofs.Common.{All, Err, IsTrue, List, None, Ok, Result, [], ap, arith, false, inl, is_ok, length, map, map-id, refl, subst, sym, take, true, ℕ, ◌*◌, ◌++◌, ◌+◌, ◌<◌, ◌∙◌, ◌∷◌, ◌≡◌, ◌≤◌}
pub use Rattle.std.proofs.lemmas.List.FromFn.{get_or-map-range_with_len, length-map-range_with_len, map-range_with_len_more}
pub use Rattle.std.specs.List.{range_with_len}
pub use Rattle.std.specs.Prelude.{AllPairs, OnOk}
pub use Rattle.btr_tree.proofs.Numbered.{next_order, not_true, numbered_item, one_more, same_twice, slot_in_a_row, slots_in_a_row, slots_within}
pub use Rattle.btr_tree.specs.Builder.{Holds, IsSameBuilding, Stands}
pub use Rattle.btr_tree.specs.Building.{AreSlots}
pub use Rattle.btrfs_format.specs.declared.object.TheConstants.{FS_TREE}
pub use Rattle.space_items.specs.Nodes.{AreNodes, nodes_at}
pub use Rattle.space_items.specs.Stream.{FitsExtents, FitsSums}
pub use Rattle.space_items.specs.declared.node.TreeNode.{TreeNode}
pub use Rattle.unit_plan.specs.Chunks.{AreChunks, FitsVolume}
