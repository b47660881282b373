-- What decides the readable parts of a Btrfs volume.
use Rattle.std.specs.Prelude.{◌≡◌, ◌↔◌, ℕ, Bool, List, length, Some}
use Rattle.btr_reader_walk.specs.outside.Format.{format_in}
use Rattle.btr_reader_walk.specs.outside.History.{Image, block_at}
use Rattle.btr_reader_walk.specs.refusals.declared.refusal.BtrRefusal.{BtrRefusal}
use Rattle.fs_paths.specs.fs_rows.Rows.{WholeRow}
use Rattle.btr_reader.specs.Image.{ImageFile, image_place, saved_image}
use Rattle.btr_reader.specs.Opening.{super_on}
use Rattle.btr_reader.specs.Parts.{AreRowsOfBtrfs, IsBtrfsRefusal, Part, log_tree, own_map, own_super}
use Rattle.btr_reader.specs.Apart.{IsSpareFree, IsSameOutside, IsVolumeApart, differs, is_spare_in}

-- The other disk holds the same volume: with the same superblock and map of addresses, the same refusals of each part, the same rows,
-- and the same saved image.
pub record IsSameBtrfs (image other : Image) : Type 0 where
  pub format : format_in other ≡ format_in image
  pub superblock : super_on other ≡ super_on image
  pub fields : own_super other ≡ own_super image
  pub map : own_map other ≡ own_map image
  pub log : log_tree other ≡ log_tree image
  pub refusals : (part : Part) (r : BtrRefusal) → IsBtrfsRefusal image part r ↔ IsBtrfsRefusal other part r
  pub rows : (rows : List WholeRow) → AreRowsOfBtrfs image rows ↔ AreRowsOfBtrfs other rows
  pub saved : saved_image other (own_super other) (own_map other) ≡ saved_image image (own_super image) (own_map image)
  pub contents : (f : ImageFile) (b place : ℕ) → saved_image image (own_super image) (own_map image) ≡ Some f → image_place (own_map image) f b ≡ Some place → block_at other place ≡ block_at image place

-- Where no part of a volume lies in some blocks, no other block decides it: what differs in these blocks alone holds the same
-- volume, and its parts don't lie there either.
pub record IsDecided (test : ℕ → Bool) (image other : Image) : Type 0 where
  pub same : IsSameBtrfs image other
  pub apart : IsVolumeApart test other

abbrev pub MetadataDecides : Type 0
MetadataDecides = (test : ℕ → Bool) (image other : Image) → IsVolumeApart test image → IsSameOutside test image other → IsDecided test image other

-- The same in other words: where two disks are as long, and no part of the volume lies in a block that differs, they hold the same volume.
abbrev pub SamePartsDecide : Type 0
SamePartsDecide = (image other : Image) → length other ≡ length image → IsVolumeApart (differs image other) image → IsDecided (differs image other) image other

-- The reserved blocks but that of the superblock decide nothing of a volume of which no part lies in one of them.
abbrev pub ReservedBlocksAreSpare : Type 0
ReservedBlocksAreSpare = (image other : Image) → IsSpareFree image → IsSameOutside (is_spare_in image) image other → IsSameBtrfs image other × IsSpareFree other
