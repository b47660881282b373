-- What the proofs of reiser_volume import of std, of lower crates and of its specs.
pub use Rattle.std.proofs.Common.{All, AllPairs, Bool, Contains, IsTrue, List, None, Option, Some, [], ap, arith, cond, count_by, drop, eqb, false, filter, flat_map, get_or, get_or-set_other, get_or-set_same, if◌then◌else◌, inl, inr, length, map, nat_eq, nat_lt, not, refl, replicate, set, subst, suc, sum_by, sym, take, true, true≢false, unwrap_or, zero, ℕ, ⊎_elim, ◌%◌, ◌&&◌, ◌*◌, ◌++◌, ◌+◌, ◌-◌, ◌/◌, ◌<◌, ◌==◌, ◌^◌, ◌||◌, ◌↔◌, ◌∙◌, ◌∷◌, ◌≡◌, ◌≢◌, ◌≤◌}
pub use Rattle.std.proofs.lemmas.Bool.{and_from, and_parts, cases_lt, eq-eqb, eqb-false, eqb-true, false_from_ne_true, lt-ltb, ltb-true, ne_eqb}
pub use Rattle.std.proofs.lemmas.Bool.Decides.{nat_tests}
pub use Rattle.std.proofs.lemmas.List.{append-nil, get_or-map, get_or-replicate, get_or-take, get_or_default, get_or_past, length-append, length-map, length-replicate, length-set, length-take, map-append, take_all, take_more}
pub use Rattle.std.proofs.lemmas.List.Elements.{All-cons, All-contains, All-contains_itself}
pub use Rattle.std.proofs.lemmas.List.Sums.{AllPass-from_list_all, get_or-le-sum_by, sum_by-append, sum_by-cons, sum_by-le, sum_by-le-sum_by}
pub use Rattle.std.proofs.lemmas.Map.Keys.{IsDistinct-from_apart, Less-from_sorted}
pub use Rattle.std.proofs.lemmas.Option.{get_or_from_slice_get, slice_get_read, slice_get_within, unwrap_or-slice_get}
pub use Rattle.std.proofs.lemmas.Result.{IfOk-weaker, MatchResult-weaker, err_from_is_err_and}
pub use Rattle.std.proofs.lemmas.Simd.{map-map}
pub use Rattle.std.specs.List.{AllByRecursion, list_all, list_any, range_with_len}
unfoldable pub use Rattle.std.specs.List.{IsDistinct}
pub use Rattle.std.specs.Option.{MatchOption, option_map, option_or}
pub use Rattle.std.specs.Ordering.{is_eq, is_le, is_lt, ordering_reverse}
pub use Rattle.std.specs.Prelude.{Err, IfErr, Ok, Result, codes, slice_get}
pub use Rattle.fs_paths.proofs.Counts.{count_append, count_cons, count_filter, count_map, count_once, count_same, count_twice, sum_split, sum_zero}
pub use Rattle.fs_paths.proofs.FirstPlaces.{both_ways, first_before, first_in, first_leads, is_least, names_counted, neither_above}
pub use Rattle.fs_paths.proofs.Lists.{at_head, from_filter, from_flat_map, from_map, in_filter, in_map, in_tail}
pub use Rattle.fs_paths.specs.Paths.{ArePaths, first_path}
pub use Rattle.fs_paths.specs.declared.node.NodeId.{NodeId}
pub use Rattle.fs_paths.specs.declared.node_link.PathTo.{PathTo}
pub use Rattle.fs_rows.specs.Content.{IsContent}
pub use Rattle.fs_rows.specs.Kinds.{has_bytes}
pub use Rattle.fs_rows.specs.Rows.{AscendsByPath, NameList, WholeRow, is_same_path, name_count, path_cmp, row_of}
pub use Rattle.fs_rows.specs.declared.row.Kind.{Kind}
pub use Rattle.fs_rows.specs.declared.row.Kind.TheVariants.{Block, Character, Fifo, File, Socket, Subvolume, Symlink}
pub use Rattle.indexmap.specs.IndexMap.{get, keys}
pub use Rattle.reiser_bitmap.proofs.MoreLaws.{bitmap_decided, system_pass}
pub use Rattle.reiser_bitmap.specs.Bits.{has}
pub use Rattle.reiser_bitmap.specs.Layout.{bitmap_block, bitmap_of, is_marked}
pub use Rattle.reiser_bitmap.specs.System.{NamesFreeBlock, is_system, system_blocks}
pub use Rattle.reiser_bitmap.specs.outside.History.{Image, block_at}
pub use Rattle.reiser_bitmap.specs.refusals.declared.answer.VolAnswer.{VolAnswer}
pub use Rattle.reiser_bitmap.specs.refusals.declared.answer.VolAnswer.TheVariants.{Fault, Memory, Refused}
pub use Rattle.reiser_bitmap.specs.vol_block.Format.{has_bytes_at, has_reiser_magic}
pub use Rattle.reiser_super.specs.Journal.{IsClean, pending_transactions}
pub use Rattle.reiser_super.specs.Rules.{IsCleanSuper, IsInBounds, first_refusal, superblock_refusal, superblock_rules}
pub use Rattle.reiser_super.specs.Superblock.{attrs_cleared_bit, superblock_fields}
pub use Rattle.reiser_super.specs.declared.superblock.Super.{Super}
pub use Rattle.reiser_super.specs.reiserfs_format.declared.block.TheConstants.{SUPER_BLOCK}
pub use Rattle.reiser_volume.specs.Answers.{IsBitmapOf, IsSuperOf, IsVerdict, IsVolumeAnswer, IsVolumeRule, RefusesVolume}
pub use Rattle.reiser_volume.specs.Front.{IsFrontAnswer, IsFrontOf, IsFrontRule, NamesFrontRule, RefusesFront}
pub use Rattle.reiser_volume.specs.Laws.{FrontOfSuperDecides, IsSameVolume, ItemsDecideRows, PutBackIsSame, RowsAreOne, SameButSuper, SameFileBlocks, UsedBlocksDecide, unplaced}
pub use Rattle.reiser_volume.specs.Made.{IsKnownAt, IsOfVolume, bytes_at, kind_by, no_stat, row_by, stat_at}
unfoldable pub use Rattle.reiser_volume.specs.Made.{whole_row}
pub use Rattle.reiser_volume.specs.Marks.{AreKeptMarks, IsKeptMark}
pub use Rattle.reiser_volume.specs.Opened.{IsFoundSound, IsOpened, links_in}
pub use Rattle.reiser_volume.specs.Owners.{HoldsData, MapsTellOwned, OwnersAreOne, Owns, TellsOwned}
pub use Rattle.reiser_volume.specs.Rows.{AreReiserRows, HasStat, IsLeastPath, IsRow, LeadsToObject, flag}
pub use Rattle.reiser_volume.specs.Volume.{AreRowsOf, IsAccepted, IsFrontAccepted, IsFrontRefusal, IsRefusal, IsSoundTree, MarksSystem, bitmap_rule, front_rule, journal_rule, names_rule, objects_rule, reiser_tree_of, superblock, superblock_rule, tree_rule, used_of, volume_items}
pub use Rattle.reiser_volume.specs.Ways.{HasPaths, link_of}
pub use Rattle.reiser_volume.specs.declared.row.KnownObject.{KnownObject}
pub use Rattle.reiser_volume.specs.declared.volume.Volume.{Volume}
pub use Rattle.reiser_volume_contents.proofs.Trees.{Distinct, at_each, each_is_leaf, each_leaf, items_by_leaves, leaf_blocks, leaves_distinct}
pub use Rattle.reiser_volume_contents.specs.Answers.{IsFault, IsFaultOrMemory, IsFileAnswer}
pub use Rattle.reiser_volume_contents.specs.Holds.{HoldsLink, HoldsObject, object_items}
pub use Rattle.reiser_volume_contents.specs.Laws.{SameUsed}
pub use Rattle.reiser_volume_files.proofs.Deciding.{named_decide}
pub use Rattle.reiser_volume_files.proofs.Sorts.{NamesBlock, items_name, named_place, one_sort}
pub use Rattle.reiser_volume_files.specs.Bytes.{IsAligned, block_byte, bytes_by, direct_by_kind, direct_byte, file_byte, file_bytes, first_byte, named_block, pointer_by_kind, tail_block}
pub use Rattle.reiser_volume_files.specs.Runs.{AreRunsOf, IsFileRunBefore, block_from, disk_or_hole, file_runs, is_held, is_in_run, lies_at, next_from}
pub use Rattle.reiser_volume_files.specs.declared.map.FileRun.{FileRun}
pub use Rattle.reiser_volume_names.proofs.Eaches.{if_err_to, match_err, match_ok}
pub use Rattle.reiser_volume_names.proofs.Tabling.{ascending, keys_found, known_named, object_ties, object_total, place_found, sorted_reach, stat_found, stat_there, take_next}
pub use Rattle.reiser_volume_names.proofs.Uniqueness.{links_found, links_one, same_decides, same_laws}
pub use Rattle.reiser_volume_names.specs.Known.{HasStats, is_known}
pub use Rattle.reiser_volume_names.specs.Links.{AreLinks, AreNamedKeys, object_cmp}
pub use Rattle.reiser_volume_names.specs.Names.{AreNames, KeepsNameRules, ino_of_key}
pub use Rattle.reiser_volume_names.specs.Passes.{is_link, link_list}
pub use Rattle.reiser_volume_objects.proofs.Broken.{some_same}
pub use Rattle.reiser_volume_objects.proofs.Tables.{same_key-self, same_key-true}
pub use Rattle.reiser_volume_objects.proofs.reiser_items.Lists.{entries_length, pointers_length}
pub use Rattle.reiser_volume_objects.proofs.reiser_walk.Lists.{Each, all_from_each, all_pairs_from_pairs, each_from_all, pairs_from_all_pairs}
pub use Rattle.reiser_volume_objects.proofs.reiser_walk.Rules.{sound_exactly}
pub use Rattle.reiser_volume_objects.specs.Items.{first_stat, fits_kind, stat_by_kind, stat_of_object}
pub use Rattle.reiser_volume_objects.specs.Keys.{items_of, object_key_of, root, same_key}
pub use Rattle.reiser_volume_objects.specs.Kinds.{is_directory, is_file, is_symlink, kind_of_mode, may_have}
pub use Rattle.reiser_volume_objects.specs.Names.{IsNamed, IsReachedBy, followed, is_followed, is_listed, naming_by, namings, namings_by_kind, namings_in}
pub use Rattle.reiser_volume_objects.specs.Nodes.{FitsKey, key_at, node_of}
pub use Rattle.reiser_volume_objects.specs.Rules.{AreObjects, IsDirectory, IsObject, IsObjectsRefusal}
pub use Rattle.reiser_volume_objects.specs.Table.{HasNoted}
pub use Rattle.reiser_volume_objects.specs.declared.key.ObjectKey.{ObjectKey}
pub use Rattle.reiser_volume_objects.specs.declared.naming.Naming.{Naming}
pub use Rattle.reiser_volume_objects.specs.declared.stat.ObjectStat.{ObjectStat}
pub use Rattle.reiser_volume_objects.specs.reiser_items.Entries.{EntryValue, are_entries, entries}
pub use Rattle.reiser_volume_objects.specs.reiser_items.Pointers.{pointers}
pub use Rattle.reiser_volume_objects.specs.reiser_node.Leaf.{IsLeaf, body_at, body_end, body_length, count, head_place, is_leaf, location}
pub use Rattle.reiser_volume_objects.specs.reiser_node.declared.head.ItemKind.{ItemKind}
pub use Rattle.reiser_volume_objects.specs.reiser_node.declared.head.ItemKind.TheVariants.{Direct, Directory, Indirect, Stat}
pub use Rattle.reiser_volume_objects.specs.reiser_walk.Bodies.{is_save_link}
pub use Rattle.reiser_volume_objects.specs.reiser_walk.Items.{Event, ReiserItem, blocks_named, events_of, held_by, is_indirect, is_no_hole, item_at, item_of, leaf_events, node, pointer}
pub use Rattle.reiser_volume_objects.specs.reiser_walk.Laws.{FitsHead, IsNode, KeepsRules}
pub use Rattle.reiser_volume_objects.specs.reiser_walk.Rules.{is_system_of, tree_damages}
pub use Rattle.reiser_volume_objects.specs.reiser_walk.Tree.{Visit, at_children, items_of_events, items_of_tree, reached, reached_in, tree_events, visits, visits_in}
unfoldable pub use Rattle.reiser_volume_objects.specs.reiser_walk.Tree.{node_events}
pub use Rattle.reiser_volume_objects.specs.reiser_walk.declared.block_pointer.BlockPointer.{BlockPointer}
pub use Rattle.reiser_volume_objects.specs.reiser_walk.declared.reiser_tree.ReiserTree.{ReiserTree}
