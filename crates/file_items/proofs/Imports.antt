-- What the proofs of file_items import of std, of lower crates and of its specs.
pub use Rattle.std.proofs.Common.{AllPairs, Bool, Contains, Err, List, None, Ok, Option, Result, Some, [], ap, append_assoc, arith, cond, count_by, drop, false, filter, get_or, if◌then◌else◌, is_some, length, map, nat_le, nat_lt, not, refl, subst, suc, sum_by, sym, take, true, true≢false, zero, ℕ, ⊎_elim, ◌&&◌, ◌*◌, ◌++◌, ◌+◌, ◌-◌, ◌<◌, ◌==◌, ◌^◌, ◌∙◌, ◌∷◌, ◌≡◌, ◌≢◌, ◌≤◌}
pub use Rattle.std.proofs.lemmas.Bool.Decides.{nat_tests}
pub use Rattle.std.proofs.lemmas.List.{append-nil, length-map, length-take, map-append, take_all}
pub use Rattle.std.proofs.lemmas.List.Elements.{All-filter, All-from_recursion, All-push, Contains-get_or, filter-append, filter_passes}
pub use Rattle.std.proofs.lemmas.List.Sums.{length-filter, sum_by-append, sum_by-cons, sum_by_push}
pub use Rattle.std.proofs.lemmas.Option.{get_or_from_slice_get, slice_get-get_or, slice_get_within, unwrap_or-slice_get}
pub use Rattle.std.proofs.lemmas.Result.{IfOk-weaker, MatchResult-weaker, err_from_is_err_and, on_ok_weaker}
pub use Rattle.std.specs.List.{All, AllByRecursion, flat_map}
pub use Rattle.std.specs.Option.{MatchOption, option_map_or}
pub use Rattle.std.specs.Prelude.{slice_get, unwrap_or}
pub use Rattle.btr_item_list.proofs.Joining.{take_push}
pub use Rattle.btr_item_list.proofs.Placing.{count_map, pairs_map, places_before, places_count, places_hold, places_map, places_push, places_rise, told_at, told_long}
pub use Rattle.btr_item_list.proofs.Runs.{ascending_map, flat_of_map, grouped_map}
pub use Rattle.btr_item_list.proofs.Sorting.{ascending_all, ascending_filter, ascending_kept, ascending_sum}
pub use Rattle.btr_item_list.specs.Extents.{extent_item, inline_extent, regular_extent}
pub use Rattle.btr_item_list.specs.Groups.{ascending, grouped}
pub use Rattle.btr_item_list.specs.Lists.{joined, joined_item, offset_of}
pub use Rattle.btr_item_list.specs.Spots.{is_under}
pub use Rattle.btr_item_list.specs.btrfs_format.declared.key.TheConstants.{DIR_ITEM, INODE_EXTREF, INODE_ITEM, INODE_REF}
pub use Rattle.btr_item_list.specs.declared.spot.Spot.{Spot}
pub use Rattle.file_items.specs.Contents.{HoldsBy, HoldsDirectBytes, HoldsInline, begins_in_tail}
pub use Rattle.file_items.specs.Extents.{by_block, extents_at, file_block, is_owned_by, owner_inode, piece_bytes, pieces_of, pieces_of_volume, source_block}
pub use Rattle.file_items.specs.Gathered.{AreExtrefs, HasEntries, HasEntry, HasName, HasNames}
pub use Rattle.file_items.specs.Inodes.{inode_from}
pub use Rattle.file_items.specs.Known.{IsKnown}
pub use Rattle.file_items.specs.Names.{Indexed, IndexedLink, entries_behind, entry_behind, entry_items, entry_kind, extref, extrefs, far_record, hash_record, index_record, indexed, indexed_in, indexed_links, inode_ref, inode_refs, letters, names_in, names_of, next_index, parent_of, ref_record, root_ref, saved_entry}
pub use Rattle.file_items.specs.Orders.{AreOwners, TellsPieces}
pub use Rattle.file_items.specs.Sizes.{AreSizes, same_names}
pub use Rattle.file_items.specs.Small.{image_head}
unfoldable pub use Rattle.file_items.specs.Small.{image_items}
pub use Rattle.file_items.specs.Spots.{AreBelow, IsObjectAt, TellsPlaces}
pub use Rattle.file_items.specs.Stream.{AddsExtent, AddsSome, Begins, Comes, FitsRestBlocks, HasAddedExtents, HasContent, ahead, file_ahead, last_of, rest_ahead, tree_ahead}
pub use Rattle.file_items.specs.Tree.{Source, content_items, inline_in, ino_of, kind_in, nbytes_by, size_by, size_in, source_of, stat_in}
unfoldable pub use Rattle.file_items.specs.Tree.{file_extent_items, fs_tree_items, inode_in, name_items, object_items}
pub use Rattle.file_items.specs.declared.files.Basis.{Basis}
pub use Rattle.file_items.specs.declared.files.FileInHand.{FileInHand}
pub use Rattle.file_items.specs.declared.files.FileTree.{FileTree}
pub use Rattle.file_items.specs.declared.items.Items.{Items}
pub use Rattle.file_items.specs.declared.link_index.LinkIndex.{LinkIndex}
pub use Rattle.indexmap.specs.IndexMap.{IndexMap, get, keys}
pub use Rattle.reiser_volume.proofs.Bounds.{accepted_is_small}
pub use Rattle.reiser_volume.proofs.reiser_volume_names.Uniqueness.{links_one}
pub use Rattle.reiser_volume.specs.Inline.{is_tail, stays_in_tree}
pub use Rattle.reiser_volume.specs.Made.{kind_by, no_stat, stat_at}
pub use Rattle.reiser_volume.specs.Numbers.{AreNumbered, by_inode}
pub use Rattle.reiser_volume.specs.Opened.{IsOpened, links_in}
pub use Rattle.reiser_volume.specs.Volume.{IsAccepted, superblock, volume_items}
pub use Rattle.reiser_volume.specs.declared.inode_numbers.InodeNumbers.{InodeNumbers}
pub use Rattle.reiser_volume.specs.declared.volume.Volume.{Volume}
pub use Rattle.reiser_volume.specs.outside.History.{Image}
pub use Rattle.reiser_volume.specs.reiser_super.declared.superblock.Super.{Super}
pub use Rattle.reiser_volume.specs.reiser_volume_contents.Answers.{IsFaultOrMemory}
pub use Rattle.reiser_volume.specs.reiser_volume_names.Names.{ino_of_key, reference_size}
pub use Rattle.reiser_volume.specs.reiser_volume_names.Tally.{capped, tally}
pub use Rattle.reiser_volume.specs.reiser_walk.Items.{ReiserItem}
pub use Rattle.reiser_volume_files.specs.Runs.{block_from, extended, file_runs}
unfoldable pub use Rattle.reiser_volume_files.specs.Runs.{runs_of}
pub use Rattle.reiser_volume_objects.proofs.Tables.{and_left, and_right, same_key-self, same_key-true}
pub use Rattle.reiser_volume_objects.specs.Keys.{items_of, root, same_key}
pub use Rattle.reiser_volume_objects.specs.declared.key.ObjectKey.{ObjectKey}
pub use Rattle.reiser_volume_objects.specs.declared.naming.Naming.{Naming}
pub use Rattle.reiser_volume_objects.specs.declared.stat.ObjectStat.{ObjectStat}
pub use Rattle.reiser_volume_objects.specs.fs_rows.Kinds.{is_directory}
pub use Rattle.reiser_volume_objects.specs.fs_rows.declared.row.Kind.{Kind}
pub use Rattle.reiser_volume_objects.specs.fs_rows.declared.row.Kind.TheVariants.{Block, Character, Directory, Fifo, File, Socket, Subvolume, Symlink}
pub use Rattle.unit_plan.specs.btr_keys.DirEntry.{DirEntryValue, dir_entry_bytes, dir_entry_value}
pub use Rattle.unit_plan.specs.btr_keys.Extref.{ExtrefValue, extref_bytes}
pub use Rattle.unit_plan.specs.btr_keys.InodeRef.{InodeRefValue, inode_ref_bytes}
pub use Rattle.unit_plan.specs.btr_keys.Key.{make_key}
pub use Rattle.unit_plan.specs.btr_keys.declared.key.Key.{Key}
pub use Rattle.unit_plan.specs.btr_node.Leaf.{Item}
pub use Rattle.unit_plan.specs.declared.piece.Piece.{Piece}
