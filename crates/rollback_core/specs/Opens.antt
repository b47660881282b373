-- A disk whose volume can be opened, with its rows.
use Rattle.std.specs.Prelude.{◌≡◌, List}
use Rattle.reiser_bitmap.specs.outside.Format.{format_in}
use Rattle.reiser_bitmap.specs.outside.History.{Image}
use Rattle.btr_reader.specs.Parts.{AreRowsOfBtrfs, HasBtrfsRows, IsReadable, SavedImage}
use Rattle.reiser_volume.specs.fs_rows.Rows.{WholeRow}
use Rattle.btr_reader.specs.Apart.{IsSpareFree}
use Rattle.reiser_volume.specs.Volume.{AreRowsOf, IsAccepted}
use Rattle.reiser_bitmap.specs.vol_block.declared.format.Format.{Format}
use Rattle.reiser_bitmap.specs.vol_block.declared.format.Format.TheVariants.{Reiser, Btrfs, Neither}

-- an accepted ReiserFS volume with these rows
pub record OpensAsReiser (image : Image) (rows : List WholeRow) : Type 0 where
  pub accepted : IsAccepted image
  pub rows_are : AreRowsOf image rows

-- A Btrfs volume with these rows. What lies on the way to its saved image is readable, and no part of it lies in a reserved block.
pub record OpensAsBtrfs (image : Image) (rows : List WholeRow) : Type 0 where
  pub format : format_in image ≡ Btrfs
  pub tree : HasBtrfsRows image
  pub rows_are : AreRowsOfBtrfs image rows
  pub way : IsReadable image SavedImage
  pub reserved : IsSpareFree image

abbrev pub OpensAs : Format → Image → List WholeRow → Type 0
OpensAs Reiser image rows = OpensAsReiser image rows
OpensAs Btrfs image rows = OpensAsBtrfs image rows
OpensAs Neither image rows = ⊥
