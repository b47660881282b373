-- Bodies of device items, as the Btrfs on-disk format documentation has them (struct btrfs_dev_item).
use Rattle.std.specs.Prelude.{ℕ, List, drop, Option}
use Rattle.btr_keys.specs.btrfs_format.declared.size.TheConstants.{DEV_ITEM_SIZE}
use Rattle.btr_keys.specs.Layout.{Layout, made_by, ◌▸◌, u8, u32, u64, array, whole, spelling}
use Rattle.btr_space_items.specs.declared.device.Device.{Device}

abbrev pub make_device : ℕ → ℕ → ℕ → ℕ → ℕ → ℕ → ℕ → ℕ → ℕ → ℕ → ℕ → ℕ → List ℕ → List ℕ → Device
make_device devid total_bytes bytes_used io_align io_width sector_size kind generation start_offset dev_group seek_speed bandwidth uuid fsid =
    record {
      devid = devid;
      total_bytes = total_bytes;
      bytes_used = bytes_used;
      io_align = io_align;
      io_width = io_width;
      sector_size = sector_size;
      kind = kind;
      generation = generation;
      start_offset = start_offset;
      dev_group = dev_group;
      seek_speed = seek_speed;
      bandwidth = bandwidth;
      uuid = uuid;
      fsid = fsid;
    }

unfoldable pub device_layout : Layout Device Device
device_layout =
    made_by make_device
    ▸ u64 (λ v. v.devid)
    ▸ u64 (λ v. v.total_bytes)
    ▸ u64 (λ v. v.bytes_used)
    ▸ u32 (λ v. v.io_align)
    ▸ u32 (λ v. v.io_width)
    ▸ u32 (λ v. v.sector_size)
    ▸ u64 (λ v. v.kind)
    ▸ u64 (λ v. v.generation)
    ▸ u64 (λ v. v.start_offset)
    ▸ u32 (λ v. v.dev_group)
    ▸ u8 (λ v. v.seek_speed)
    ▸ u8 (λ v. v.bandwidth)
    ▸ array 16 (λ v. v.uuid)
    ▸ array 16 (λ v. v.fsid)

-- the value in the 98 bytes from a place on
abbrev pub device_at : List ℕ → ℕ → Device
device_at bytes at = device_layout.read (drop at bytes)

-- the value that is the whole body
abbrev pub device_of : List ℕ → Option Device
device_of body = whole DEV_ITEM_SIZE device_layout body

-- the 98 bytes of a value
abbrev pub device_bytes : Device → List ℕ
device_bytes value = spelling device_layout value
