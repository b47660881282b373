-- A converted volume can be rolled back.
use Rattle.std.specs.Prelude.{◌≡◌, ◌<◌, ℕ, ◌^◌}
use Rattle.reiser_volume.specs.outside.History.{Image}
use Rattle.reiser_volume.specs.vol_block.declared.ids.Ids.{Ids}
use Rattle.btr_reader.specs.btr_node.NodeSize.{IsNodeSize}
use Rattle.convert_core.specs.Converted.{IsSomeNew}
use Rattle.convert_core_laws.specs.reading.Identifiers.{HasFsid}
use Rattle.reiser_volume.specs.reiser_volume_contents.Laws.{SameUsed}
use Rattle.reiser_volume.specs.Laws.{IsSameVolume}
use Rattle.reiser_volume.specs.Volume.{used_of}
use Rattle.convert_trees_laws.specs.Rows.{HasBytes}
use Rattle.volume_state.specs.Saved.{image_blocks}
use Rattle.volume_state.specs.GoingBack.{CanGoBack, old_used}
use Rattle.convert_core.specs.space_items.Laws.{AreIds}
use Rattle.convert_core.specs.convert_options.declared.options.Options.{Options}

-- The volume before can be had back from the other disk: its saved image has each used block, and so is the same volume, with the same rows.
pub record GoesBack (image other : Image) : Type 0 where
  pub can : CanGoBack other
  pub used : old_used other ≡ used_of image
  pub blocks : SameUsed (used_of image) image (image_blocks other)
  pub volume : IsSameVolume image (image_blocks other)

-- So it can from every volume that was converted, under the premises under which such a volume opens.
abbrev pub ConvertedVolumesGoBack : Type 0
ConvertedVolumesGoBack =
    (o : Options) (ids : Ids) (now : ℕ) (image other : Image) → IsSomeNew o ids now image other → IsNodeSize o.nodesize → now < 2 ^ 63 → AreIds ids → HasFsid image o.uuid → HasBytes image
    → GoesBack image other
