-- The items that tell where the bytes of a file are.
use Rattle.std.specs.Prelude.{ℕ, ◌*◌, List, length}
use Rattle.btr_node.specs.btrfs_format.declared.key.TheConstants.{EXTENT_DATA}
use Rattle.btr_node.specs.btr_keys.FileExtent.{FileExtentValue, Inline, Regular, file_extent_bytes}
use Rattle.btr_node.specs.btr_keys.Key.{make_key}
use Rattle.btr_node.specs.Leaf.{Item}

-- the extent that holds these bytes itself
abbrev pub inline_extent : List ℕ → FileExtentValue
inline_extent bytes = record { generation = 1; ram_bytes = length bytes; compression = 0; encryption = 0; other = 0; content = Inline bytes }

-- so many blocks from one of the volume on; the address of a block is its place in bytes
abbrev pub regular_extent : ℕ → ℕ → FileExtentValue
regular_extent place count = record {
  generation = 1;
  ram_bytes = 4096 * count;
  compression = 0;
  encryption = 0;
  other = 0;
  content = Regular (record { disk_bytenr = 4096 * place; disk_num_bytes = 4096 * count; offset = 0; num_bytes = 4096 * count });
}

-- an extent from a block of the file on
abbrev pub extent_item : ℕ → ℕ → FileExtentValue → Item
extent_item ino block extent = (make_key ino EXTENT_DATA (4096 * block), file_extent_bytes extent)
