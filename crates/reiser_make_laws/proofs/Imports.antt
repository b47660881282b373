-- What the proofs of reiser_make_laws import of std, of lower crates and of its specs.
pub use Rattle.std.proofs.Common.{All, Bool, Contains, List, None, Some, [], ap, append-nil, append_assoc, arith, codes, cond, count_by, drop, eq-eqb, eqb-true, false, filter, get_or, inl, inr, length, length-append, length-drop, length-take, map, ne_eqb, not, refl, replicate, slice_index_or, subst, suc, sym, take, true, true≢false, zero, ℕ, ⊎_elim, ◌%◌, ◌&&◌, ◌*◌, ◌++◌, ◌+◌, ◌-◌, ◌/◌, ◌<◌, ◌==◌, ◌^◌, ◌||◌, ◌∙◌, ◌∷◌, ◌≡◌, ◌≢◌, ◌≤◌, ◌⊎◌}
pub use Rattle.std.proofs.Math.Seq.{drop-append-add, drop-append_seam, drop-cons, drop-length, get_or-append_seam, take-append_seam, take-length}
pub use Rattle.std.proofs.lemmas.Bool.{and_from, and_right, cases_lt, cond_both, le-ltb, not_from_false, or_cases, or_from, or_left, or_right}
pub use Rattle.std.proofs.lemmas.Bool.Decides.{nat_tests}
pub use Rattle.std.proofs.lemmas.List.{drop_all, drop_more, get_or-drop, get_or-set_other, get_or-set_same, get_or-take, length-map, length-replicate, take-append-drop, take_more}
pub use Rattle.std.proofs.lemmas.List.Elements.{All-cons, All-contains, Contains-append_left, Contains-append_right, Contains-get_or, filter-append}
pub use Rattle.std.proofs.lemmas.List.Folds.{Any-from_list_any, flat_map-map, list_any-from_Any, list_any_none}
pub use Rattle.std.proofs.lemmas.List.FromFn.{get_or-map-range_with_len, length-map-range_with_len}
pub use Rattle.std.proofs.lemmas.List.Sums.{count_by-le-length, length-filter, sum_by-append, sum_by-cons, sum_by-le, sum_by-take-le, take_while-cons}
pub use Rattle.std.specs.Cmp.Lexicographic.{pointwise, same_text, slice_cmp}
pub use Rattle.std.specs.Int.{bit_at, div_ceil, w64}
pub use Rattle.std.specs.List.{flat_map, list_any, range_with_len, sum_by}
pub use Rattle.std.specs.Option.{option_map, option_or}
pub use Rattle.std.specs.Ordering.{is_le, is_lt, nat_cmp, ordering_then}
pub use Rattle.std.specs.Prelude.{AllPairs, IsSome, Option, min, nat_eq, nat_le, nat_lt, slice_index, slice_range, slice_set, unwrap_or}
pub use Rattle.std.specs.declared.cmp.Ordering.{Ordering}
pub use Rattle.std.specs.declared.cmp.Ordering.TheVariants.{Equal, Greater, Less}
pub use Rattle.byteorder.specs.Endian.{little_bytes, little_number}
pub use Rattle.byteorder.specs.Numbers.{little_number-reads_back}
pub use Rattle.reiser_make.proofs.Counting.{leaves_bound, leaves_some}
pub use Rattle.reiser_make.proofs.Entering.{directory_short, file_short, padded_is, padded_short}
pub use Rattle.reiser_make.proofs.Placed.{data_below, node_below, place_below, system_below, total_some}
pub use Rattle.reiser_make.proofs.Rising.{nodes_some, root_low}
pub use Rattle.reiser_make.specs.Content.{IsSmallContent, contents_from, file_of, is_further_name, is_symlink, state_after}
unfoldable pub use Rattle.reiser_make.specs.Content.{content_of, contents}
pub use Rattle.reiser_make.specs.Directory.{directory_entries, directory_entry, entries_length, entry, entry_head, entry_heads, entry_names, file_entry, padded, root_entries}
unfoldable pub use Rattle.reiser_make.specs.Directory.{entries_bytes}
pub use Rattle.reiser_make.specs.Inner.{child_count, child_key, children, children_from, disk_child_bytes, end_child, first_child, first_leaf, leaf_at, level_nodes, needed, node_place, nodes_above, nodes_below, root_from, total}
unfoldable pub use Rattle.reiser_make.specs.Inner.{child, inner_bytes, root_level}
pub use Rattle.reiser_make.specs.Items.{attributes, base_time, byte_items, directory_items, file_units, first_direct_of, group_of, item, items_from, no_direct_byte, pointer_items, pointers_bytes, pointers_of_content, rest_of_content, stat_bytes, stat_item, user_of}
unfoldable pub use Rattle.reiser_make.specs.Items.{body_bytes, items, items_of_content, items_of_name}
pub use Rattle.reiser_make.specs.Layout.{Placed, bitmap_part, bitmap_placed, data_of_content, data_of_name, data_part, data_placed, inner_part, inner_placed, laid_over, leaf_part, leaf_placed, level_part, system_block, system_part, system_placed}
unfoldable pub use Rattle.reiser_make.specs.Layout.{system_row, volume_blocks}
pub use Rattle.reiser_make.specs.Leaf.{bodies, bytes_taken, head_bytes, heads_bytes, key_bytes, leaves_of, node_head, node_room, packed_behind, taken_by}
unfoldable pub use Rattle.reiser_make.specs.Leaf.{leaf_bytes, leaf_contents, leaves}
pub use Rattle.reiser_make.specs.Names.{decimal}
unfoldable pub use Rattle.reiser_make.specs.Names.{directory_name, entry_offset, file_name}
pub use Rattle.reiser_make.specs.Places.{bitmap_blocks, is_taken}
unfoldable pub use Rattle.reiser_make.specs.Places.{place}
pub use Rattle.reiser_make.specs.Rows.{content_row, directory_row, path_of, plain_row, seconds}
unfoldable pub use Rattle.reiser_make.specs.Rows.{sample_rows}
pub use Rattle.reiser_make.specs.Shape.{Shape, above_root, directory_count, directory_id, file_byte, file_id, name_count, named_by, names_in, object_count, root_id, shape, stored_before, stored_block, stored_blocks, stored_in, stored_of}
unfoldable pub use Rattle.reiser_make.specs.Shape.{sample_bytes}
pub use Rattle.reiser_make.specs.declared.inner.DiskChild.{DiskChild}
pub use Rattle.reiser_make.specs.declared.object.ObjectId.{ObjectId}
pub use Rattle.reiser_make.specs.declared.sample_entry.SampleEntry.{SampleEntry}
pub use Rattle.reiser_make.specs.declared.sample_entry.SampleEntry.TheVariants.{File, Name, Symlink}
pub use Rattle.reiser_make.specs.declared.sample_item.Body.{Body}
pub use Rattle.reiser_make.specs.declared.sample_item.Body.TheVariants.{Attributes, Bytes, Names, Pointers, Root, Target}
pub use Rattle.reiser_make.specs.declared.sample_item.Owner.TheVariants.{System, User}
pub use Rattle.reiser_make.specs.declared.sample_item.SampleItem.{SampleItem}
pub use Rattle.reiser_make_laws.specs.Laws.{FitsSample, SamplesHoldTheirBlocks, SamplesMarkSystem, SamplesMarkUsed, made}
pub use Rattle.reiser_make_laws.specs.Nodes.{FitsPointer, InnerNodesReadBack, IsWritable, LeavesReadBack, NamesChildren, ReadsAs, SampleInnerNodesReadBack, SampleLeavesReadBack}
pub use Rattle.reiser_make_laws.specs.Walk.{SampleTreesAreSound, SamplesAreWalked, SamplesAscend, SamplesFitTheirHeads, SamplesHoldTheirItems, SamplesKeepGrammar, SamplesKeepTreeRules, content, laid_content, laid_events, leaf_items, met_item}
pub use Rattle.reiser_volume.proofs.fs_paths.Lists.{from_filter, from_map, in_filter}
pub use Rattle.reiser_volume.proofs.reiser_volume_objects.Tables.{same_key-self, same_key-true}
pub use Rattle.reiser_volume.proofs.reiser_walk.Events.{items_in-append, reached_in-append, visits_in-append}
pub use Rattle.reiser_volume.proofs.reiser_walk.Lists.{Each, Pairs, all_from_each, all_pairs_from_pairs}
pub use Rattle.reiser_volume.specs.Rows.{AreReiserRows, HasStat, IsLeastPath, IsRow, LeadsToObject, flag, major_of, minor_of, time_of}
pub use Rattle.reiser_volume.specs.Volume.{reiser_tree_of, superblock, used_of, volume_items}
pub use Rattle.reiser_volume.specs.fs_rows.Rows.{AscendsByPath, NameList, WholeRow, is_same_path, path_cmp}
pub use Rattle.reiser_volume.specs.fs_rows.declared.row.Kind.{Kind}
pub use Rattle.reiser_volume.specs.outside.History.{Image, block_at}
pub use Rattle.reiser_volume.specs.reiser_bitmap.Bits.{bit_of, has}
pub use Rattle.reiser_volume.specs.reiser_bitmap.Layout.{bitmap_block, bitmap_of, is_marked}
pub use Rattle.reiser_volume.specs.reiser_bitmap.System.{is_bitmap_block, is_system, system_blocks}
pub use Rattle.reiser_volume.specs.reiser_items.Entries.{AreEntries, EntryValue, are_entries, area_end, entries, entries_from, entry_at, is_of_name, name_area, until_zero}
pub use Rattle.reiser_volume.specs.reiser_items.Order.{key_order, kind_number}
pub use Rattle.reiser_volume.specs.reiser_items.Pointers.{numbers_at, pointers}
pub use Rattle.reiser_volume.specs.reiser_items.Stat.{stat_length, stat_of}
pub use Rattle.reiser_volume.specs.reiser_items.declared.stat.StatData.{StatData}
pub use Rattle.reiser_volume.specs.reiser_node.Head.{head_at, head_of_kind, kind_at, new_kind, old_kind}
pub use Rattle.reiser_volume.specs.reiser_node.Inner.{child_block_at, is_inner}
pub use Rattle.reiser_volume.specs.reiser_node.Leaf.{IsItem, body_at, body_end, body_length, count, head_place, is_leaf, level, location}
pub use Rattle.reiser_volume.specs.reiser_node.declared.head.ItemHead.{ItemHead}
pub use Rattle.reiser_volume.specs.reiser_node.declared.head.ItemKind.{ItemKind}
pub use Rattle.reiser_volume.specs.reiser_node.declared.head.ItemKind.TheVariants.{Direct, Directory, Indirect, Stat}
pub use Rattle.reiser_volume.specs.reiser_super.Superblock.{block_size, checker_state, journal_device, mount_state, superblock_fields}
pub use Rattle.reiser_volume.specs.reiser_volume_files.Bytes.{block_byte, byte_count, direct_by_kind, direct_byte, first_byte, is_covered, named_block, pointer_by_kind}
pub use Rattle.reiser_volume.specs.reiser_volume_names.Names.{AreNames, KeepsNameRules, crowd_of, extended, extended_crowd_of, extended_sum, is_name, reference_size, saved_name}
pub use Rattle.reiser_volume.specs.reiser_volume_objects.Items.{AreItemsApart, SharesByte, first_stat, fits_kind, stat_by_kind, stat_of_object}
pub use Rattle.reiser_volume.specs.reiser_volume_objects.Keys.{items_of, object_key_of, root, same_key}
pub use Rattle.reiser_volume.specs.reiser_volume_objects.Kinds.{fits_size, kind_of_mode, may_have}
pub use Rattle.reiser_volume.specs.reiser_volume_objects.Names.{IsNamed, IsReachedBy, followed, is_followed, is_listed, is_private_name, naming_by, namings, namings_by_kind, namings_in}
pub use Rattle.reiser_volume.specs.reiser_volume_objects.Rules.{AreObjects, IsDirectory, IsObject}
pub use Rattle.reiser_volume.specs.reiser_volume_objects.declared.key.ObjectKey.{ObjectKey}
pub use Rattle.reiser_volume.specs.reiser_volume_objects.declared.naming.Naming.{Naming}
pub use Rattle.reiser_volume.specs.reiser_volume_objects.declared.stat.ObjectStat.{ObjectStat}
pub use Rattle.reiser_volume.specs.reiser_walk.Items.{Event, ReiserItem, blocks_named, events_of, held_by, is_no_hole, item_at, item_events, item_of, leaf_events, node, pointer}
pub use Rattle.reiser_volume.specs.reiser_walk.Laws.{FitsHead, IsNode}
pub use Rattle.reiser_volume.specs.reiser_walk.Tree.{Visit, at_children, items_of_events, items_of_tree, reached_in, tree_events, visits_in}
unfoldable pub use Rattle.reiser_volume.specs.reiser_walk.Tree.{node_events}
pub use Rattle.reiser_volume.specs.reiser_walk.declared.block_pointer.BlockPointer.{BlockPointer}
pub use Rattle.reiser_volume.specs.reiserfs_format.declared.block.TheConstants.{BITS_IN_BLOCK, SUPER_BLOCK}
pub use Rattle.reiser_volume.specs.vol_block.Volume.{field, zeros}
pub use Rattle.reiser_volume.specs.vol_block.declared.mode.TheConstants.{DIRECTORY_MODE}
