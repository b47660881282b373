-- What the proofs of btr_check_fields import of std, of lower crates and of its specs.
pub use Rattle.std.proofs.Common.{Bool, Err, IfOk, List, None, Ok, Option, Result, Some, [], ap, append_assoc, ap₂, arith, cond, false, get_or, if◌then◌else◌, inl, inr, leb, length, map, nat_eq, not, refl, replicate, subst, suc, sym, true, zero, ℕ, ⊎_elim, ◌%◌, ◌&&◌, ◌++◌, ◌+◌, ◌-◌, ◌==◌, ◌^◌, ◌||◌, ◌∙◌, ◌∷◌, ◌≡◌, ◌≤◌, ◌⊎◌}
pub use Rattle.std.proofs.lemmas.Bool.{both_ways, cases_Bool, eq-eqb, eqb-true, false≢true}
pub use Rattle.std.proofs.lemmas.Bool.Decides.{Decides-and, Decides-at, Decides-eqb, Decides-like, Decides-ltb, Decides-not, Decides-or, nat_tests, not_from_Decides}
pub use Rattle.std.proofs.lemmas.List.{append-nil, map-append, take_rest}
pub use Rattle.std.proofs.lemmas.List.Elements.{All-cons, All-contains, All-head, All-more, All-nil, All-tail, Contains-append_left, Contains-append_right, Contains-get_or, filter-append, filter_passes}
pub use Rattle.std.specs.Bool.{Decides}
pub use Rattle.std.specs.List.{AllPairs, Contains, flat_map, list_any, sum_by}
pub use Rattle.std.specs.Option.{is_some, option_map, option_map_or}
pub use Rattle.std.specs.Prelude.{All, drop, slice_index_or, take, ◌<◌}
pub use Rattle.btr_check_fields.specs.Failing.{Answers, FailsOf, FailsOfTwo, FailsTest, Overlaps, first_found, start_of}
pub use Rattle.btr_check_fields.specs.Nodes.{is_packed, is_packed_leaf, is_written, keeps_bytes}
pub use Rattle.btr_check_fields.specs.Noted.{HoldsRead, extents_in, groups_in, offset_of}
pub use Rattle.btr_check_fields.specs.Read.{AreReadOf, chunk_of, extent_at, extent_of, group_at, group_of, has_extent, has_extents, has_group, has_second, is_extent_of, is_group_of, is_of_chunk, is_of_second}
pub use Rattle.btr_check_fields.specs.Roots.{has_files_root, is_whole, keeps_root, keeps_some_root}
pub use Rattle.btr_check_fields.specs.declared.found.ExtentAt.{ExtentAt}
pub use Rattle.btr_check_fields.specs.declared.found.GroupAt.{GroupAt}
pub use Rattle.btr_check_rules.specs.Groups.{Apart, AreChunksApart, AreExtentsOf, AreGroupsOf, AreTotals, HasExtents, IsChunkOn, IsDeviceItem, IsExtentOf, IsGroupOf, IsOfChunk, IsOnlyDevice, IsStripe, chunk_span, group_used, second_of, stripe_bytes, stripe_spans, stripes_of}
pub use Rattle.btr_check_rules.specs.Recount.{EachAt, PairsAt, Recount, holds_files, object_of, of_kind}
pub use Rattle.btr_check_rules.specs.btr_reader.btr_keys.declared.key.Key.{Key}
pub use Rattle.btr_check_rules.specs.btr_reader.btr_node.Leaf.{Item}
pub use Rattle.btr_check_rules.specs.btr_reader.btr_space_items.BlockGroup.{block_group_of}
pub use Rattle.btr_check_rules.specs.btr_reader.btr_space_items.DevExtent.{dev_extent_of}
pub use Rattle.btr_check_rules.specs.btr_reader.btr_space_items.btrfs_format.declared.flag.TheConstants.{HEADER_FLAG_WRITTEN, MIXED_BACKREF_REV, ROOT_SUBVOL_RDONLY}
pub use Rattle.btr_check_rules.specs.btr_reader.btr_space_items.btrfs_format.declared.key.TheConstants.{BLOCK_GROUP_ITEM, DEV_EXTENT, DEV_ITEM}
pub use Rattle.btr_check_rules.specs.btr_reader.btr_space_items.btrfs_format.declared.object.TheConstants.{CHUNK_TREE, DEV_ITEMS_OBJECTID, FIRST_CHUNK_TREE_OBJECTID, FIRST_FREE_OBJECTID, TREE_RELOC}
pub use Rattle.btr_check_rules.specs.btr_reader.btr_space_items.btrfs_format.declared.size.TheConstants.{HEADER_SIZE, ITEM_SIZE}
pub use Rattle.btr_check_rules.specs.btr_reader.btr_space_items.declared.block_group.BlockGroup.{BlockGroup}
pub use Rattle.btr_check_rules.specs.btr_reader.btr_space_items.declared.dev_extent.DevExtent.{DevExtent}
pub use Rattle.btr_check_rules.specs.btr_reader.btr_space_items.declared.stripe.Stripe.{Stripe}
pub use Rattle.btr_check_rules.specs.btr_reader.btr_super.declared.superblock.Super.{Super}
pub use Rattle.btr_check_rules.specs.btr_reader.declared.chunk.ChunkAt.{ChunkAt}
pub use Rattle.btr_check_rules.specs.declared.span.Span.{Span}
