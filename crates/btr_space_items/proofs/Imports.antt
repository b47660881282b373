-- What the proofs of btr_space_items import of std, of lower crates and of its specs.
pub use Rattle.std.proofs.Common.{Bool, List, None, Option, Some, [], ap, arith, cond, drop, eq-eqb, false, get_or-drop, length, length-append, length-drop, lit<, ltb, map, refl, slice_index_or, subst, sym, take, true, ℕ, ◌*◌, ◌++◌, ◌+◌, ◌<◌, ◌==◌, ◌^◌, ◌∙◌, ◌∷◌, ◌≡◌, ◌≤◌}
pub use Rattle.std.proofs.lemmas.Bool.{le-ltb, ltb-false}
pub use Rattle.std.proofs.lemmas.List.{append-nil, drop_at, take_at}
pub use Rattle.std.specs.List.{flat_map, sum_by}
pub use Rattle.std.specs.Option.{option_map}
pub use Rattle.btr_keys.proofs.Layouts.{Reads, array_reads, part_reads, reads_back, skip, start, u16_reads, u32_reads, u64_reads, u8_reads, ◌▹◌}
pub use Rattle.btr_keys.proofs.Starts.{Shrinks, counted_end, counted_more, counted_stop, none_left, some_left, start_is_whole, start_more, start_there, start_whole, starts_end, starts_step}
unfoldable pub use Rattle.btr_keys.specs.Inode.{inode_layout}
unfoldable pub use Rattle.btr_keys.specs.Key.{key_layout}
pub use Rattle.btr_keys.specs.Repeated.{records, starts}
unfoldable pub use Rattle.btr_keys.specs.Stamp.{stamp_layout}
pub use Rattle.btr_keys.specs.btrfs_format.declared.size.TheConstants.{EXTENT_ITEM_SIZE, INLINE_BLOCK_REF_SIZE, INLINE_DATA_REF_SIZE}
pub use Rattle.btr_space_items.specs.Chunk.{chunk_bytes, make_chunk}
unfoldable pub use Rattle.btr_space_items.specs.Chunk.{chunk_layout}
pub use Rattle.btr_space_items.specs.Device.{make_device}
unfoldable pub use Rattle.btr_space_items.specs.Device.{device_layout}
pub use Rattle.btr_space_items.specs.ExtentHead.{extent_head_bytes, make_extent_head}
unfoldable pub use Rattle.btr_space_items.specs.ExtentHead.{extent_head_layout}
pub use Rattle.btr_space_items.specs.InlineRef.{FitsInline, inline_ref_bytes, inline_ref_front, inline_ref_size, make_data_ref, make_shared_block, make_shared_data, make_tree_block, ref_count, ref_kind, ref_objectid, ref_offset, ref_parent, ref_root, ref_uses, rest_of}
unfoldable pub use Rattle.btr_space_items.specs.InlineRef.{behind_inline, data_ref_layout, shared_block_layout, shared_data_layout, tree_block_layout}
pub use Rattle.btr_space_items.specs.Laws.{BlockGroupsReadBack, ChunksReadBack, DevExtentsReadBack, DevicesReadBack, ExtentHeadsReadBack, InlineRefsReadBack, RootItemsReadBack, RootRefsReadBack, StripesReadBack}
pub use Rattle.btr_space_items.specs.RootItem.{make_root_item}
unfoldable pub use Rattle.btr_space_items.specs.RootItem.{root_item_layout}
pub use Rattle.btr_space_items.specs.Stripe.{make_stripe}
unfoldable pub use Rattle.btr_space_items.specs.Stripe.{stripe_layout}
pub use Rattle.btr_space_items.specs.declared.inline_ref.InlineRef.{InlineRef}
pub use Rattle.btr_space_items.specs.declared.inline_ref.InlineRef.TheVariants.{DataRef, SharedBlock, SharedData, TreeBlock}
