-- Extents as the code has them, and as the definitions do.
use Rattle.std.specs.Prelude.{◌==◌, if◌then◌else◌, []}
use Rattle.btr_check_rules.specs.btr_reader.btr_reader_walk.btr_keys.btrfs_format.declared.key.TheConstants.{BLOCK_GROUP_ITEM}
use Rattle.btr_check_rules.specs.btr_reader.btr_keys.declared.key.Key.{Key}
use Rattle.btr_check_rules.specs.Extents.{Extent, is_extent_item, is_ref_item}
use Rattle.btr_check_items.specs.declared.extent_items.ExtentTold.{ExtentTold}
use Rattle.btr_check_items.specs.declared.extent_items.ExtentTreeKind.{ExtentTreeKind}
use Rattle.btr_check_items.specs.declared.extent_items.ExtentTreeKind.TheVariants as kind

abbrev pub extent_value : ExtentTold → Extent
extent_value e = record { start = e.start; length = e.length; head = e.head; level = e.level; refs = e.refs }

-- what the item of the extent tree with this key is
abbrev pub kind_of_item : Key → ExtentTreeKind
kind_of_item key =
    if is_extent_item (key, []) then kind.Extent
    else (if is_ref_item (key, []) then kind.Reference
    else (if key.kind == BLOCK_GROUP_ITEM then kind.Group else kind.Other))
