-- A converted volume as a Btrfs volume.
use Rattle.std.specs.Prelude.{◌≡◌, ◌≢◌, ◌⊎◌, ◌<◌, ℕ, ◌^◌, List}
use Rattle.reiser_volume.specs.outside.Format.{format_in}
use Rattle.reiser_volume.specs.outside.History.{Image}
use Rattle.reiser_volume.specs.vol_block.declared.format.Format.TheVariants.{Btrfs}
use Rattle.reiser_volume.specs.vol_block.declared.ids.Ids.{Ids}
use Rattle.btr_reader.specs.btr_node.NodeSize.{IsNodeSize}
use Rattle.btr_reader.specs.Parts.{AreRowsOfBtrfs, HasBtrfsRows}
use Rattle.convert_core.specs.Converted.{IsEither, IsSomeNew}
use Rattle.convert_core_laws.specs.reading.Identifiers.{HasFsid}
use Rattle.convert_core_laws.specs.reading.Saved.{ReadsSavedImage}
use Rattle.reiser_volume.specs.fs_rows.Rows.{WholeRow}
use Rattle.reiser_volume.specs.Laws.{IsSameVolume}
use Rattle.reiser_volume.specs.Volume.{AreRowsOf, superblock}
use Rattle.convert_trees_laws.specs.Rows.{HasBytes}
use Rattle.convert_core.specs.space_items.Laws.{AreIds}
use Rattle.convert_core.specs.convert_options.declared.options.Options.{Options}

-- It is a Btrfs volume without a log tree whose file tree is readable. Its rows are exactly those of the volume before, and its saved
-- image is readable and has that volume: each used block, and holes elsewhere.
pub record OpensAsBefore (image other : Image) : Type 0 where
  pub format : format_in other ≡ Btrfs
  pub has_rows : HasBtrfsRows other
  pub rows : (rows : List WholeRow) → AreRowsOf image rows → AreRowsOfBtrfs other rows
  pub only : (rows others : List WholeRow) → AreRowsOf image rows → AreRowsOfBtrfs other others → others ≡ rows
  pub saved : ReadsSavedImage image other (superblock image).blocks

-- So does every volume that was converted, with any of its superblock's copies: with nodes of one of the sizes, at a time below 2^63,
-- with identifiers of 16 bytes, and from blocks of bytes.
abbrev pub ConvertedVolumesOpen : Type 0
ConvertedVolumesOpen =
    (o : Options) (ids : Ids) (now : ℕ) (image other : Image) → IsSomeNew o ids now image other → IsNodeSize o.nodesize → now < 2 ^ 63 → AreIds ids → HasFsid image o.uuid → HasBytes image
    → OpensAsBefore image other

-- The volume before stands on the other disk: that is no Btrfs volume, is accepted as the same ReiserFS volume, and has its rows.
pub record StandsAsBefore (image other : Image) : Type 0 where
  pub format : format_in other ≢ Btrfs
  pub same : IsSameVolume image other

-- What a crash leaves of a disk while it is converted is the disk as it was, or a volume that opens with the rows that were there.
abbrev pub CrashesLeaveVolumes : Type 0
CrashesLeaveVolumes =
    (o : Options) (ids : Ids) (now : ℕ) (image other : Image) → IsEither o ids now image other → IsNodeSize o.nodesize → now < 2 ^ 63 → AreIds ids → HasFsid image o.uuid → HasBytes image
    → (other ≡ image) ⊎ (StandsAsBefore image other ⊎ OpensAsBefore image other)
