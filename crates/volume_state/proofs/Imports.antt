-- What the proofs of volume_state import of std, of lower crates and of its specs.
pub use Rattle.std.proofs.Common.{Bool, Contains, Err, IsTrue, List, None, Ok, OnOk, Option, Result, Some, [], ap, append_assoc, arith, eqb, false, get_or, if◌then◌else◌, inl, inr, is_some, length, min, nat_le, nat_lt, not, refl, rules, subst, suc, sym, take, true, true≢false, zero, ℕ, ⊎_elim, ◌%◌, ◌&&◌, ◌*◌, ◌++◌, ◌+◌, ◌-◌, ◌/◌, ◌<◌, ◌||◌, ◌∙◌, ◌∷◌, ◌≡◌, ◌≢◌, ◌≤◌}
pub use Rattle.std.proofs.lemmas.Bool.{and_parts, cases_lt}
pub use Rattle.std.proofs.lemmas.Bool.Decides.{nat_tests}
pub use Rattle.std.proofs.lemmas.List.{append-nil, ext_get_or, get_or_default, take_all}
pub use Rattle.std.proofs.lemmas.List.Elements.{All-cons, All-head, All-more, All-nil, All-tail, Contains-append_cases, Contains-append_left, Contains-append_right}
pub use Rattle.std.proofs.lemmas.Result.{err_from_is_err_and}
pub use Rattle.std.specs.Option.{option_and_then, option_map, option_or}
pub use Rattle.btr_node.specs.btr_keys.FileExtent.{ContentValue, FileExtentValue, Inline, Prealloc, Regular, file_extent_of}
pub use Rattle.btr_node.specs.btr_keys.declared.file_extent.DiskRange.{DiskRange}
pub use Rattle.btr_node.specs.btrfs_format.declared.block.TheConstants.{FIRST_MIRROR, FIRST_MIRROR_END, SECOND_MIRROR, SECOND_MIRROR_END, SUPER_BLOCK}
pub use Rattle.btr_node.specs.btrfs_format.declared.key.TheConstants.{EXTENT_DATA}
pub use Rattle.btr_node.specs.btrfs_format.declared.object.TheConstants.{FS_TREE}
pub use Rattle.btr_reader.proofs.Among.{among_first, among_left, among_none}
pub use Rattle.btr_reader.proofs.MapApart.{opened_apart}
pub use Rattle.btr_reader.proofs.PartsRead.{no_log, none_in, of_disk, of_volume, one_log, opened_super}
pub use Rattle.btr_reader.proofs.Stages.{file_tree_refused, later_none, none_saved, saved_refused, top_read}
pub use Rattle.btr_reader.specs.Apart.{AreExtentsApart, AreNodesApart, IsApart, IsContentApart, IsSameOutside, IsVolumeApart, boot_map, root_of, saved_tree}
pub use Rattle.btr_reader.specs.Chunks.{chunk_in, items_refusals, range_of, with_chunk, with_items}
pub use Rattle.btr_reader.specs.Image.{ImageFile, after_pointer, after_root, block_by_extent, content_block, entry_refusals, file_block, file_if_image, file_refusals, if_there, image_at, image_below, image_entry, image_in, image_place, image_refusals, image_refusals_in, inode_number, is_file_mode, is_image, items_at, own_refusals, pointer_in, refusals_below, root_refusals, saved_image, saved_location, saved_refusals, tree_number}
pub use Rattle.btr_reader.specs.Opening.{IsBtrfsOpened, IsSuperInBounds, boot_chunks, boot_list, boot_refusals, chunk_tree, map_from, opening_refusals, or_later, root_tree, tree_of, trees_refusals}
pub use Rattle.btr_reader.specs.Parts.{IsBtrfsRefusal, IsReadable, SavedImage, own_map, own_super, way_refusals}
pub use Rattle.btr_reader.specs.Pieces.{MapsImage, map_place}
pub use Rattle.btr_reader.specs.Reading.{FindsNumbered, FindsSaved, FindsTree, ReadsImage}
pub use Rattle.btr_reader.specs.Roots.{pointer_of, root_item}
pub use Rattle.btr_reader.specs.Rows.{roots_on}
pub use Rattle.btr_reader.specs.btr_super.declared.superblock.Super.{Super}
pub use Rattle.btr_reader.specs.declared.chunk.ChunkAt.{ChunkAt}
pub use Rattle.btr_reader.specs.declared.image_map.ImageMap.{ImageMap}
pub use Rattle.btr_reader_contents.proofs.ExtentLists.{aligned_of, form_of_sound, none_left, none_right}
pub use Rattle.btr_reader_contents.specs.Blocks.{AreInBlocks, IsInBlocks}
pub use Rattle.btr_reader_contents.specs.Extents.{covered_after, covers, end_after, extents_of, extents_refusals, is_aligned, is_extent_of, is_hole, range_is_aligned, refusals_at}
pub use Rattle.btr_reader_walk.proofs.Mapping.{holds_bounds, mapped_at}
pub use Rattle.btr_reader_walk.specs.Events.{TreeEvent, TreeItem, items_in_events, leaf_events, may_be_bare, node, nodes_in, unless_damaged}
unfoldable pub use Rattle.btr_reader_walk.specs.Events.{node_events}
pub use Rattle.btr_reader_walk.specs.Map.{are_mapped, block_of_place, blocks_at, holds, place, second_place}
unfoldable pub use Rattle.btr_reader_walk.specs.Map.{is_mapped, node_at}
pub use Rattle.btr_reader_walk.specs.Tree.{at_address, order_damages, pointer_damages}
pub use Rattle.btr_reader_walk.specs.Visits.{GoesBelow, Refuses, Takes, ahead, nodes_fuel}
pub use Rattle.btr_reader_walk.specs.Walks.{IsAmong, found, met, met_faults, wrong}
pub use Rattle.btr_reader_walk.specs.declared.map.MapRange.{MapRange}
pub use Rattle.btr_reader_walk.specs.declared.tree.NodePointer.{NodePointer}
pub use Rattle.btr_reader_walk.specs.declared.tree.Tree.{Tree}
pub use Rattle.reiser_bitmap.specs.Bits.{has}
pub use Rattle.reiser_bitmap.specs.outside.History.{Image, block_at}
pub use Rattle.reiser_bitmap.specs.refusals.declared.answer.BtrAnswer.{BtrAnswer}
pub use Rattle.reiser_bitmap.specs.refusals.declared.answer.BtrAnswer.TheVariants.{Fault, Memory, Refused}
pub use Rattle.reiser_bitmap.specs.refusals.declared.refusal.BtrRefusal.{BtrRefusal}
pub use Rattle.reiser_bitmap.specs.vol_block.Volume.{IsReserved, is_reserved}
pub use Rattle.reiser_volume.proofs.fs_paths.Lists.{at_head, from_filter, from_map, head_or_tail, in_flat_map, in_map}
pub use Rattle.reiser_volume.specs.Volume.{IsAccepted, superblock, used_of}
pub use Rattle.volume_state.specs.GoingBack.{CanGoBack}
pub use Rattle.volume_state.specs.Laws.{SpareBlocksDecideNothing, is_spare}
pub use Rattle.volume_state.specs.Moved.{IsOld}
pub use Rattle.volume_state.specs.Reserved.{IsBetween, IsMapApart, LieInCopy, LieInRange, LieInSecond, TellsBetween}
pub use Rattle.volume_state.specs.Saved.{IsImageMissing, block_or_hole, blocks_by, blocks_by_map, file_blocks, place_by_file, saved_file, saved_place}
unfoldable pub use Rattle.volume_state.specs.Saved.{image_blocks}
pub use Rattle.volume_state.specs.Using.{HoldsExtent, HoldsNode, HoldsNodeOf, HoldsPartOf, IsInFiles, IsInRoots, IsInUse, LieIn, RefusesUse, TellsReserved, chunk_node, content_range, file_part, file_pointer, file_trees, has_log, item_range, named_by, numbered, root_node, tree_if, unreadable}
