-- The saved image of the volume before, as a disk of its own.
use Rattle.std.specs.Prelude.{◌≡◌, ℕ, min, List, [], map, length, Option, Some, None}
use Rattle.std.specs.List.{range_with_len}
use Rattle.reiser_bitmap.specs.outside.History.{Image, block_at}
use Rattle.reiser_bitmap.specs.vol_block.Volume.{zeros}
use Rattle.btr_reader_walk.specs.declared.map.MapRange.{MapRange}
use Rattle.btr_reader.specs.Image.{ImageFile, image_place, saved_image}
use Rattle.btr_reader.specs.Parts.{own_map, own_super}
use Rattle.btr_reader.specs.Pieces.{map_place}
use Rattle.btr_reader.specs.declared.image_map.ImageMap.{ImageMap}

-- the block of a disk at a place; a hole is zeros
abbrev pub block_or_hole : Image → Option ℕ → List ℕ
block_or_hole disk None = zeros
block_or_hole disk (Some b) = block_at disk b

-- So many blocks, each from its place on the disk. There are no more than the disk has, so that a volume which says that it is larger
-- is too short.
abbrev pub blocks_by : (ℕ → Option ℕ) → ℕ → Image → Image
blocks_by place n disk = map (λ b. block_or_hole disk (place b)) (range_with_len 0 (min n (length disk)))

-- the same by the map of an image
abbrev pub blocks_by_map : ImageMap → Image → Image
blocks_by_map m disk = blocks_by (map_place m) m.blocks disk

-- the file that is the saved image of the Btrfs volume of a disk
abbrev pub saved_file : Image → Option ImageFile
saved_file disk = saved_image disk (own_super disk) (own_map disk)

-- The entry, the tree or the file is not there, or the file has not the form of an image.
abbrev pub IsImageMissing : Image → Type 0
IsImageMissing disk = saved_file disk ≡ None

-- the place on the disk of block b of a file
abbrev pub place_by_file : List MapRange → Option ImageFile → ℕ → Option ℕ
place_by_file ranges None b = None
place_by_file ranges (Some f) b = image_place ranges f b

-- the place on the disk of block b of the saved image, None for a hole
abbrev pub saved_place : Image → ℕ → Option ℕ
saved_place disk b = place_by_file (own_map disk) (saved_file disk) b

-- how many blocks the file has
abbrev pub file_blocks : Option ImageFile → ℕ
file_blocks None = 0
file_blocks (Some f) = f.blocks

-- The blocks of the saved image.
unfoldable pub image_blocks : Image → Image
image_blocks disk = blocks_by (saved_place disk) (file_blocks (saved_file disk)) disk
