-- What the proofs of reiser_make import of std, of lower crates and of its specs.
pub use Rattle.std.proofs.Common.{Bool, IsTrue, List, [], add-one, add-zero, ap, append_assoc, arith, codes, drop, eq-eqb, false, get_or, length, length-append, length-drop, length-take, map, refl, replicate, subst, suc, sym, take, true, zero, ℕ, ⊎_elim, ◌%◌, ◌&&◌, ◌*◌, ◌++◌, ◌+◌, ◌-◌, ◌/◌, ◌<◌, ◌==◌, ◌||◌, ◌∙◌, ◌∷◌, ◌≡◌, ◌≤◌, ◌⊎◌}
pub use Rattle.std.proofs.lemmas.Bool.Decides.{nat_tests}
pub use Rattle.std.proofs.lemmas.List.{append-nil, at_drop_more, drop-drop, drop_at, get_or-drop, get_or_append_left, get_or_push, length-map, length-replicate, map-append, replicate-append-replicate, take-append-drop, take-append-le, take-take, take_at, take_more, take_more_set}
pub use Rattle.std.proofs.lemmas.List.Elements.{All-append, All-cons, All-head, All-nil, All-tail}
pub use Rattle.std.proofs.lemmas.List.FromFn.{length-map-range_with_len, map-range_with_len_more}
pub use Rattle.std.proofs.lemmas.List.Sums.{sum_by-append, sum_by-cons, sum_by-take-le}
pub use Rattle.std.specs.Int.{div_ceil}
pub use Rattle.std.specs.List.{All, flat_map, fold, range_with_len, slice_get, sum_by}
pub use Rattle.std.specs.Prelude.{None, Ok, Option, Result, Some, cond, nat_le, nat_lt, slice_index_or, slice_set}
pub use Rattle.fs_rows.proofs.outside.Crash.{write_only, writes_none, writes_then}
pub use Rattle.fs_rows.specs.outside.History.{History, Image, WritesBlock, WritesOnly, after, reads, wrote}
pub use Rattle.reiser_items.specs.Entries.{EntryValue}
pub use Rattle.reiser_items.specs.reiser_node.declared.head.ItemHead.{ItemHead}
pub use Rattle.reiser_items.specs.reiserfs_format.declared.block.TheConstants.{BITS_IN_BLOCK}
pub use Rattle.reiser_make.specs.Bitmap.{byte_of, is_marked}
unfoldable pub use Rattle.reiser_make.specs.Bitmap.{marks}
pub use Rattle.reiser_make.specs.Directory.{AreShortNames, directory_entry, entries_length, entry, entry_head, entry_heads, entry_names, file_entry, padded, with_dots}
unfoldable pub use Rattle.reiser_make.specs.Directory.{entries_bytes, entries_so_far}
pub use Rattle.reiser_make.specs.Finding.{BeginsAtPlace, IsToldLeaf}
pub use Rattle.reiser_make.specs.Inner.{child_count, child_key, children_from, disk_child_bytes, first_child, first_head, first_leaf, leaf_at, level_nodes, needed, node_place, nodes_above, nodes_below, root_from, total, used_by}
unfoldable pub use Rattle.reiser_make.specs.Inner.{child, inner_bytes, root_level}
pub use Rattle.reiser_make.specs.Items.{body_bytes, byte_items, items_from, pointer_items, pointers_bytes}
unfoldable pub use Rattle.reiser_make.specs.Items.{items, items_of_content, items_of_name}
pub use Rattle.reiser_make.specs.Layout.{IsUsage, IsUsed, Placed, bitmap_part, bitmap_placed, data_of_name, data_part, data_placed, inner_part, inner_placed, laid_over, leaf_part, leaf_placed, level_part, system_part, system_placed}
unfoldable pub use Rattle.reiser_make.specs.Layout.{system_row, volume_blocks}
pub use Rattle.reiser_make.specs.Leaf.{bodies, bytes_taken, head_bytes, heads_bytes, key_bytes, leaves_of, node_head, node_room, packed_behind, taken_by}
unfoldable pub use Rattle.reiser_make.specs.Leaf.{leaf_bytes, leaf_contents, leaves}
pub use Rattle.reiser_make.specs.Levels.{level_of}
pub use Rattle.reiser_make.specs.Names.{entry_offset, r5_step}
unfoldable pub use Rattle.reiser_make.specs.Names.{directory_name, file_name}
pub use Rattle.reiser_make.specs.Places.{least_size}
unfoldable pub use Rattle.reiser_make.specs.Places.{place}
pub use Rattle.reiser_make.specs.Shape.{Shape, above_root, directory_count, directory_id, file_byte, file_id, object_count, pointer, root_id, sample_bytes, stored_before, stored_blocks, stored_in, stored_of}
pub use Rattle.reiser_make.specs.Walk.{BeginsLeaves, HasFirst, HasLeafRoom, HasPutItems, IsPacked, MayPackMore, NextFits, rest_of}
unfoldable pub use Rattle.reiser_make.specs.Walk.{items_behind}
pub use Rattle.reiser_make.specs.declared.bitmap.Usage.{Usage}
pub use Rattle.reiser_make.specs.declared.inner.DiskChild.{DiskChild}
pub use Rattle.reiser_make.specs.declared.leaf.ItemPlace.{ItemPlace}
pub use Rattle.reiser_make.specs.declared.leaf.Packed.{Packed}
pub use Rattle.reiser_make.specs.declared.level.Level.{Level}
pub use Rattle.reiser_make.specs.declared.object.ObjectId.{ObjectId}
pub use Rattle.reiser_make.specs.declared.sample_entry.SampleEntry.{SampleEntry}
pub use Rattle.reiser_make.specs.declared.sample_item.SampleItem.{SampleItem}
