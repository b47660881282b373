-- Where the parts of a converted volume lie, and how long its saved image is.
use Rattle.std.specs.Prelude.{◌≡◌, ◌<◌, ℕ, ◌^◌, length}
use Rattle.reiser_volume.specs.outside.History.{Image}
use Rattle.reiser_volume.specs.vol_block.declared.ids.Ids.{Ids}
use Rattle.btr_reader.specs.btr_node.NodeSize.{IsNodeSize}
use Rattle.convert_core.specs.Converted.{IsSomeNew}
use Rattle.convert_core_laws.specs.reading.Identifiers.{HasFsid}
use Rattle.btr_reader.specs.Apart.{IsSpareFree}
use Rattle.reiser_volume.specs.Volume.{superblock}
use Rattle.convert_trees_laws.specs.Rows.{HasBytes}
use Rattle.volume_state.specs.Saved.{image_blocks}
use Rattle.convert_core.specs.space_items.Laws.{AreIds}
use Rattle.convert_core.specs.convert_options.declared.options.Options.{Options}

-- What holds of every volume that was converted, with any of its superblock's copies: with nodes of one of the sizes, at a time below
-- 2^63, with identifiers of 16 bytes, and from blocks of bytes.
abbrev pub OfConverted : (Image → Image → Type 0) → Type 0
OfConverted P =
    (o : Options) (ids : Ids) (now : ℕ) (image other : Image) → IsSomeNew o ids now image other → IsNodeSize o.nodesize → now < 2 ^ 63 → AreIds ids → HasFsid image o.uuid → HasBytes image → P image other

-- No part of it lies in a reserved block of the device, but for the superblock.
abbrev pub ConvertedVolumesLieApart : Type 0
ConvertedVolumesLieApart = OfConverted (λ image other. IsSpareFree other)

-- The saved image has as many blocks as the volume before.
abbrev pub SavedImagesAreWhole : Type 0
SavedImagesAreWhole = OfConverted (λ image other. length (image_blocks other) ≡ (superblock image).blocks)
