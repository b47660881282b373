-- The identifiers of a converted volume.
use Rattle.std.specs.Prelude.{◌≡◌, ◌≤◌, length}
use Rattle.btr_reader.specs.btrfs_format.declared.block.TheConstants.{SUPER_BLOCK}
use Rattle.reiser_volume.specs.outside.History.{Image, block_at}
use Rattle.convert_core.specs.convert_steps.Making.{IsMaking, Making, new_ids}
use Rattle.convert_core.specs.space_items.Laws.{AreIds}
use Rattle.convert_core.specs.convert_options.declared.options.UuidChoice.{UuidChoice}
use Rattle.convert_core.specs.convert_options.declared.options.UuidChoice.TheVariants.{New, Copy, Given}

-- the bytes of the file system's identifier are there: in the superblock of the old volume, if that is taken, or in the given one
abbrev pub HasFsid : Image → UuidChoice → Type 0
HasFsid image New = Unit {0}
HasFsid image Copy = 100 ≤ length (block_at image SUPER_BLOCK)
HasFsid image (Given id) = length id ≡ 16

-- Then the identifiers of a converted volume have 16 bytes each, as those have that were made for it.
abbrev pub NewIdsFit : Type 0
NewIdsFit = (image : Image) (m : Making) → IsMaking image m → AreIds m.ids → HasFsid image m.options.uuid → AreIds (new_ids m)
