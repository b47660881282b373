-- What the proofs of btr_reader import of std, of lower crates and of its specs.
pub use Rattle.std.proofs.Common.{AllPairs, Bool, Contains, Err, IfErr, IfOk, IsSome, IsTrue, List, None, Ok, Option, Result, Some, [], ap, append_assoc, arith, codes, cond, count_by, drop, eqb, false, filter, get_or, if◌then◌else◌, inl, inr, is_some, leb, length, length-append, length-drop, length-take-le, ltb, map, nat_eq, nat_le, nat_lt, not, refl, replicate, rules, subst, suc, sym, take, true, true≢false, unwrap_or, zero, ℕ, ⊎_elim, ◌%◌, ◌&&◌, ◌*◌, ◌++◌, ◌+◌, ◌-◌, ◌/◌, ◌<◌, ◌==◌, ◌^◌, ◌||◌, ◌∙◌, ◌∷◌, ◌≡◌, ◌≤◌, ◌⊎◌}
pub use Rattle.std.proofs.lemmas.Bool.{and_parts, cases_lt, eqb-true, le-ltb, ne_eqb}
pub use Rattle.std.proofs.lemmas.Bool.Decides.{nat_tests}
pub use Rattle.std.proofs.lemmas.List.{append-nil, drop-drop, drop_at, drop_more, get_or-map, get_or-take, get_or_append_left, get_or_at, get_or_default, length-map, length-take, map-append, take_all, take_at, take_more}
pub use Rattle.std.proofs.lemmas.List.Elements.{All-append, All-cons, All-contains, All-head, All-nil, All-tail, Contains-append_cases, Contains-append_left, Contains-append_right, filter-append}
pub use Rattle.std.proofs.lemmas.List.Sorted.{IsPartitionPoint-from_clause, IsPartitionedBy-leb}
pub use Rattle.std.proofs.lemmas.Option.{get_or_from_slice_get, slice_get-get_or, slice_get_read, slice_get_within}
pub use Rattle.std.proofs.lemmas.Result.{err_from_is_err_and}
pub use Rattle.std.specs.List.{All, AllByRecursion, flat_map, list_any, range_with_len}
pub use Rattle.std.specs.Option.{option_and_then, option_map}
pub use Rattle.std.specs.Prelude.{OnOk, bytes_eq, slice_get, slice_index}
pub use Rattle.std.specs.Result.{MatchResult}
pub use Rattle.btr_reader.specs.Apart.{AreExtentsApart, AreNodesApart, IsApart, IsContentApart, IsNodeApart, IsSameOutside, IsVolumeApart, boot_map, differs, is_spare, is_spare_in, root_of, saved_tree}
pub use Rattle.btr_reader.specs.Chunks.{array_chunks, beside_refusals, chunk_in, chunk_item_refusals, chunk_refusals, chunks_refusals, entry_size, front_chunk, is_chunk_key, is_read_kind, items_refusals, lies_on, new_chunk, overlap, placed_chunk, range_of, same_chunk, second_stripe, stripe_lies_on, stripes_of, with_chunk, with_items}
unfoldable pub use Rattle.btr_reader.specs.Chunks.{chunks_within}
pub use Rattle.btr_reader.specs.Image.{ImageFile, after_pointer, after_root, block_by_extent, content_block, content_is_inline, entry_named, entry_refusals, file_block, file_if_image, file_refusals, first_key, if_there, image_at, image_below, image_entry, image_from, image_in, image_place, image_refusals, image_refusals_in, index_refusals, index_refusals_at, inode_number, is_again, is_called, is_file_mode, is_inline, is_root_directory, items_at, naming_refusals, own_index_refusals, own_refusals, pointer_in, refusals_below, refusals_from, root_refusals, saved_image, saved_location, saved_refusals, tree_number, twice_refusals}
pub use Rattle.btr_reader.specs.Laws.{AreRangesApart, BtrfsRowsAreOne, FitsArray, ItemsDecideBtrfsRows, SameExtents, array_entry, unplaced}
pub use Rattle.btr_reader.specs.Made.{IsChecked, IsMemory, IsReadTree, RefusesChecked, RefusesRows, RefusesTree, bytes_at, kind_by_inode, made_inode, own_at, row_by}
unfoldable pub use Rattle.btr_reader.specs.Made.{made_row}
pub use Rattle.btr_reader.specs.Opening.{IsAmong, IsBadArray, IsBtrfsOpened, IsSuperAnswer, IsSuperInBounds, boot_chunks, boot_list, boot_refusals, chunk_map, chunk_tree, map_from, or_later, refusals_after, root_tree, super_on, tree_of, trees_refusals}
unfoldable pub use Rattle.btr_reader.specs.Opening.{opening_refusals}
pub use Rattle.btr_reader.specs.Parts.{AreRowsOfBtrfs, HasBtrfsRows, IsBtrfsRefusal, IsRowsRefusal, ListsBtrfs, Opening, Part, RefusesBtrfsRows, SavedImage, Superblock, has_log, log_of, log_tree, own_map, own_super, unreadable, way_refusals}
pub use Rattle.btr_reader.specs.Pieces.{GathersExtents, MapsImage, TellsExtents, any_inline, block_in, holds_block, or_else, pieces_of, pieces_place, range_piece, range_pieces}
pub use Rattle.btr_reader.specs.Reading.{FindsFile, FindsNumbered, FindsSaved, FindsTree, ReadsImage}
pub use Rattle.btr_reader.specs.Roots.{HasRoots, TellsRoot, found_root, last_or, pointer_of, root_item}
pub use Rattle.btr_reader.specs.Rows.{AreBtrfsRows, AreRows, BreaksExtents, CanBeRead, IsFileTreeRefusal, IsInodeRow, IsLeastPath, IsRowOf, IsTreeRow, bad_extents, bad_names, bad_root_item, bad_tree, no_root_item, roots_on, subvolume_row, top}
pub use Rattle.btr_reader.specs.declared.chunk.ChunkAt.{ChunkAt}
pub use Rattle.btr_reader.specs.declared.gathered.Gathered.{Gathered}
pub use Rattle.btr_reader.specs.declared.mapped_extent.MappedExtent.{MappedExtent}
pub use Rattle.btr_reader.specs.declared.roots.RootItems.{RootItems}
pub use Rattle.btr_reader_contents.proofs.ExtentLists.{aligned_of, before_start, behind_end, covers_at, end_grows, extents_covered-append, extents_end-append, extents_of-one, extents_refusals-append, first, form_of_sound, holds_unless, none_left, none_right, past_end, second}
pub use Rattle.btr_reader_contents.specs.Blocks.{AreInBlocks, IsInBlocks}
pub use Rattle.btr_reader_contents.specs.Contents.{HasContents, RefusesContents, TellsContent, content_in, content_of, wanted_at, wanted_by, wanted_inode}
pub use Rattle.btr_reader_contents.specs.Extents.{at_unmapped, byte_from, byte_of_place, bytes_of_inode, content_byte, covered_after, covered_by, covers, end_after, extent_length, extent_refusals, extents_covered, extents_end, extents_of, extents_refusals, file_byte, has_form, is_aligned, is_extent_key, is_extent_of, is_hole, place_refusals, range_is_aligned, refusals_at, refused_unless, unmapped_in}
pub use Rattle.btr_reader_contents.specs.declared.wanted.Wanted.{Wanted}
pub use Rattle.btr_reader_names.proofs.Seeing.{closed_more, none_seen}
pub use Rattle.btr_reader_names.specs.Inodes.{HasKind, IsDirectoryInode, TellsInode, find_inode_item, inode_on, is_inode_of, kind_of_mode}
pub use Rattle.btr_reader_names.specs.Links.{IsNamedInode, LeadsToTarget, NamesTarget, Target, dir_indexes, entry, followed, index_entry, inode, is_followed, is_index, naming_at, naming_of, own_naming, root, tree}
pub use Rattle.btr_reader_names.specs.Passes.{BlamesTwice, DifferInName, HasSeen}
pub use Rattle.btr_reader_names.specs.Roots.{has_root, is_root_of}
pub use Rattle.btr_reader_names.specs.Rules.{AreIn, BreaksNames, IsOpen, KeepsNames, bad_inode, bad_mode, long_target, no_inode, no_root_directory, twice}
pub use Rattle.btr_reader_names.specs.Steps.{AreNamed, inode_node, links_of, node_of_target, tree_node}
pub use Rattle.btr_reader_names.specs.TreeLinks.{AreTreeLinks}
pub use Rattle.btr_reader_names.specs.declared.dir_index.DirIndex.{DirIndex}
pub use Rattle.btr_reader_names.specs.declared.table.NameTable.{NameTable}
pub use Rattle.btr_reader_walk.proofs.Events.{none_both}
pub use Rattle.btr_reader_walk.proofs.Walking.{blames_among, given_first}
pub use Rattle.btr_reader_walk.specs.Events.{TreeEvent, TreeItem, items_in_events, may_be_bare, nodes_in}
pub use Rattle.btr_reader_walk.specs.Map.{block_of_place, blocks_at, is_mapped, place}
unfoldable pub use Rattle.btr_reader_walk.specs.Map.{node_at}
pub use Rattle.btr_reader_walk.specs.Walks.{Blames, LieOn, Walks, found, fuel, met, wrong}
pub use Rattle.btr_reader_walk.specs.btr_keys.DirEntry.{DirEntryValue, dir_entry_value}
pub use Rattle.btr_reader_walk.specs.btr_keys.FileExtent.{ContentValue, FileExtentValue, Inline, Prealloc, Regular, file_extent_of, file_extent_value}
pub use Rattle.btr_reader_walk.specs.btr_keys.Inode.{inode_of}
pub use Rattle.btr_reader_walk.specs.btr_keys.declared.file_extent.DiskRange.{DiskRange}
pub use Rattle.btr_reader_walk.specs.btr_keys.declared.inode.Inode.{Inode}
pub use Rattle.btr_reader_walk.specs.btr_keys.declared.key.Key.{Key}
pub use Rattle.btr_reader_walk.specs.declared.map.MapRange.{MapRange}
pub use Rattle.btr_reader_walk.specs.declared.tree.NodePointer.{NodePointer}
pub use Rattle.btr_reader_walk.specs.declared.tree.Tree.{Tree}
pub use Rattle.btr_reader_walk.specs.outside.History.{Image, block_at}
pub use Rattle.btr_reader_walk.specs.refusals.declared.answer.BtrAnswer.{BtrAnswer}
pub use Rattle.btr_reader_walk.specs.refusals.declared.answer.BtrAnswer.TheVariants.{Fault, Memory, Refused}
pub use Rattle.btr_reader_walk.specs.refusals.declared.refusal.BtrRefusal.{BtrRefusal}
pub use Rattle.btr_reader_walk.specs.refusals.declared.refusal.BtrRefusal.TheVariants.{BadBtrfs, LogPending, Unsupported}
pub use Rattle.btr_reader_walk.specs.refusals.declared.rule.BtrRule.TheVariants.{Body, ChunkForm, ExtentForm, NameForm, NoInode, SuperCsum, SuperField, Unmapped}
pub use Rattle.btr_reader_walk.specs.refusals.declared.rule.Feature.TheVariants.{ChecksumType, ChunkType, Compression, DeviceCount, Encryption, Incompat, NodeSize, SectorSize}
pub use Rattle.btr_reader_walk.specs.vol_block.Format.{format, has_bytes_at}
pub use Rattle.btr_reader_walk.specs.vol_block.Volume.{field}
pub use Rattle.btr_space_items.specs.btrfs_format.declared.block.TheConstants.{SUPER_BLOCK, SUPER_INFO_OFFSET, SUPER_MAGIC_OFFSET}
pub use Rattle.btr_space_items.specs.btrfs_format.declared.key.TheConstants.{CHUNK_ITEM, DIR_INDEX, ROOT_ITEM}
pub use Rattle.btr_space_items.specs.btrfs_format.declared.object.TheConstants.{FIRST_CHUNK_TREE_OBJECTID, FIRST_FREE_OBJECTID, FS_TREE}
pub use Rattle.btr_super.specs.Rules.{NamesNoLog, bad_field, failing, feature_rules, field_rules, has_fields, is_node_size, is_super, super_refusals, unless_refused, unread_bits}
unfoldable pub use Rattle.btr_super.specs.Rules.{super_of}
pub use Rattle.btr_super.specs.Super.{super_in}
unfoldable pub use Rattle.btr_super.specs.Super.{super_layout}
pub use Rattle.btr_super.specs.declared.superblock.Super.{Super}
pub use Rattle.fs_paths.proofs.FirstPlaces.{both_ways, count_among, first_before, first_in, first_leads, first_within, is_least, neither_above, one_place, same_first, same_names}
pub use Rattle.fs_paths.proofs.Lists.{at_head, from_filter, from_map, head_or_tail, in_filter, in_map, in_tail}
pub use Rattle.fs_paths.proofs.Nodes.{same_name-true, same_node-true}
pub use Rattle.fs_paths.specs.Links.{AreNamedOnce, same_node}
pub use Rattle.fs_paths.specs.Paths.{ArePaths, first_path, leads_to}
pub use Rattle.fs_paths.specs.declared.node.NodeId.{NodeId}
pub use Rattle.fs_paths.specs.declared.node_link.PathTo.{PathTo}
pub use Rattle.fs_paths.specs.fs_rows.Kinds.{has_bytes, is_directory}
pub use Rattle.fs_paths.specs.fs_rows.Rows.{AscendsByPath, NameList, WholeRow, is_same_path, name_count, path_cmp, row_of}
pub use Rattle.fs_paths.specs.fs_rows.declared.content.Content.{Content}
pub use Rattle.fs_paths.specs.fs_rows.declared.row.Kind.{Kind}
pub use Rattle.fs_paths.specs.fs_rows.declared.row.Kind.TheVariants.{Block, Character, Directory, Fifo, File, Socket, Subvolume, Symlink}
pub use Rattle.fs_paths.specs.fs_rows.declared.row.Row.{Row}
pub use Rattle.indexmap.specs.IndexMap.{get}
pub use Rattle.indexmap.specs.IndexSet.{IndexSet, contains}
