-- Device items that were met, and the superblock's.
use Rattle.std.specs.Prelude.{◌≡◌, ℕ, ◌==◌, nat_eq, Bool, true, false, ◌&&◌, List, [], ◌++◌, Option, Some, None}
use Rattle.std.specs.Cmp.Lexicographic.{pointwise}
use Rattle.btr_check_rules.specs.btr_reader.btr_space_items.btrfs_format.declared.key.TheConstants.{DEV_ITEM}
use Rattle.btr_check_rules.specs.btr_reader.btr_space_items.btrfs_format.declared.object.TheConstants.{DEV_ITEMS_OBJECTID}
use Rattle.btr_check_rules.specs.btr_reader.btr_keys.declared.key.Key.{Key}
use Rattle.btr_check_rules.specs.btr_reader.btr_node.Leaf.{Item}
use Rattle.btr_check_rules.specs.btr_reader.btr_space_items.Device.{device_of}
use Rattle.btr_check_rules.specs.btr_reader.btr_space_items.declared.device.Device.{Device}
use Rattle.btr_check_rules.specs.btr_reader.btr_super.declared.superblock.Super.{Super}
use Rattle.btr_check_rules.specs.Groups.{IsOnlyDevice}
use Rattle.btr_check_fields.specs.declared.devices.DevicesFound.{DevicesFound}
use Rattle.btr_check_fields.specs.declared.devices.DevicesFound.TheVariants as found

abbrev pub same_device : Device → Device → Bool
same_device a b =
    (a.devid == b.devid)
    && ((a.total_bytes == b.total_bytes)
    && ((a.bytes_used == b.bytes_used)
    && ((a.io_align == b.io_align)
    && ((a.io_width == b.io_width)
    && ((a.sector_size == b.sector_size)
    && ((a.kind == b.kind)
    && ((a.generation == b.generation)
    && ((a.start_offset == b.start_offset)
    && ((a.dev_group == b.dev_group)
    && ((a.seek_speed == b.seek_speed) && ((a.bandwidth == b.bandwidth) && (pointwise nat_eq a.uuid b.uuid && pointwise nat_eq a.fsid b.fsid))))))))))))

abbrev pub is_device_key : Super → Key → Bool
is_device_key s key = (key.objectid == DEV_ITEMS_OBJECTID) && ((key.kind == DEV_ITEM) && (key.offset == s.dev_item.devid))

abbrev pub is_device_body : Super → Option Device → Bool
is_device_body s None = false
is_device_body s (Some device) = same_device device s.dev_item

abbrev pub is_device_item : Super → Key → List ℕ → Bool
is_device_item s key body = is_device_key s key && is_device_body s (device_of body)

-- what was met with one item, by whether that is the superblock's
abbrev pub first_device : Bool → DevicesFound
first_device true = found.One
first_device false = found.Wrong

-- what was met of these device items
abbrev pub FindsDevices : Super → List Item → DevicesFound → Type 0
FindsDevices s items found.None = items ≡ []
FindsDevices s items found.One = IsOnlyDevice s items
FindsDevices s items found.Wrong = (more : List Item) → ¬ IsOnlyDevice s (items ++ more)
