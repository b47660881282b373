-- What is written is read again.
use Rattle.std.specs.Prelude.{◌≡◌, ℕ, List, ◌++◌, Some}
use Rattle.std.specs.List.{flat_map, AllByRecursion}
use Rattle.btr_keys.specs.btrfs_format.declared.size.TheConstants.{BLOCK_GROUP_ITEM_SIZE, DEV_EXTENT_SIZE, DEV_ITEM_SIZE, ROOT_ITEM_SIZE, STRIPE_SIZE}
use Rattle.btr_keys.specs.Layout.{ReadsBack}
use Rattle.btr_space_items.specs.declared.extent_head.ExtentHead.{ExtentHead}
use Rattle.btr_space_items.specs.declared.chunk.Chunk.{Chunk}
use Rattle.btr_space_items.specs.declared.inline_ref.InlineRef.{InlineRef}
use Rattle.btr_space_items.specs.BlockGroup.{block_group_layout}
use Rattle.btr_space_items.specs.DevExtent.{dev_extent_layout}
use Rattle.btr_space_items.specs.Device.{device_layout}
use Rattle.btr_space_items.specs.Stripe.{stripe_layout}
use Rattle.btr_space_items.specs.ExtentHead.{extent_head_layout, extent_head_of, extent_head_bytes}
use Rattle.btr_space_items.specs.Chunk.{chunk_layout, chunk_of, chunk_bytes}
use Rattle.btr_space_items.specs.RootItem.{root_item_layout}
use Rattle.btr_space_items.specs.RootRef.{RootRefValue, root_ref_head, root_ref_of, root_ref_bytes}
use Rattle.btr_space_items.specs.InlineRef.{FitsInline, inline_refs_of, inline_ref_bytes}

abbrev pub BlockGroupsReadBack : Type 0
BlockGroupsReadBack = ReadsBack BLOCK_GROUP_ITEM_SIZE block_group_layout

abbrev pub DevExtentsReadBack : Type 0
DevExtentsReadBack = ReadsBack DEV_EXTENT_SIZE dev_extent_layout

abbrev pub DevicesReadBack : Type 0
DevicesReadBack = ReadsBack DEV_ITEM_SIZE device_layout

abbrev pub StripesReadBack : Type 0
StripesReadBack = ReadsBack STRIPE_SIZE stripe_layout

-- whatever stands behind them
abbrev pub ExtentHeadsReadBack : Type 0
ExtentHeadsReadBack = (head : ExtentHead) (behind : List ℕ) → extent_head_layout.fits head → extent_head_of (extent_head_bytes head ++ behind) ≡ Some head

abbrev pub ChunksReadBack : Type 0
ChunksReadBack = (chunk : Chunk) → chunk_layout.fits chunk → chunk.num_stripes ≡ 1 → chunk_of (chunk_bytes chunk) ≡ Some chunk

abbrev pub RootItemsReadBack : Type 0
RootItemsReadBack = ReadsBack ROOT_ITEM_SIZE root_item_layout

abbrev pub RootRefsReadBack : Type 0
RootRefsReadBack = (r : RootRefValue) → root_ref_head.fits r → root_ref_of (root_ref_bytes r) ≡ Some r

abbrev pub InlineRefsReadBack : Type 0
InlineRefsReadBack = (refs : List InlineRef) → AllByRecursion FitsInline refs → inline_refs_of (flat_map inline_ref_bytes refs) ≡ Some refs
