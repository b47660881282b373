-- A sample volume: which blocks are written, and with what.
use Rattle.std.specs.Prelude.{◌≡◌, ◌≤◌, ℕ, ◌+◌, ◌-◌, ◌*◌, ◌^◌, ◌==◌, nat_lt, Bool, ◌&&◌, List, [], ◌∷◌, ◌++◌, length, map, IsTrue, slice_index_or, slice_set, if◌then◌else◌}
use Rattle.std.specs.List.{range_with_len, flat_map}
use Rattle.reiser_items.specs.reiserfs_format.declared.block.TheConstants.{BITS_IN_BLOCK}
use Rattle.reiser_items.specs.vol_block.Volume.{zeros}
use Rattle.fs_rows.specs.outside.History.{Image}
use Rattle.reiser_make.specs.Bitmap.{bitmap_bytes}
use Rattle.reiser_make.specs.Inner.{needed, node_place, root_level, level_nodes, children, inner_bytes, leaf_at}
use Rattle.reiser_make.specs.Leaf.{leaves, leaf_bytes}
use Rattle.reiser_make.specs.Places.{first_free, place, is_taken, bitmap_blocks}
use Rattle.reiser_make.specs.Shape.{Shape, stored_before, stored_of, stored_block, sample_bytes}
use Rattle.reiser_make.specs.Superblock.{superblock_bytes}
use Rattle.reiser_make.specs.declared.bitmap.Usage.{Usage}
use Rattle.reiser_make.specs.declared.sample_entry.SampleEntry.{SampleEntry}
use Rattle.reiser_make.specs.declared.sample_entry.SampleEntry.TheVariants.{Name, Symlink, File}

-- a block's number, and its bytes
abbrev pub Placed : Type 0
Placed = ℕ × List ℕ

-- the blocks before the data: zeros, the superblock, the first bitmap block, and a journal of zeros
abbrev pub system_block : Shape → ℕ → ℕ → List ℕ
system_block s blocks b = if b == 16 then superblock_bytes s blocks else (if b == 17 then bitmap_bytes (needed s) blocks 0 else zeros)

abbrev pub system_placed : Shape → ℕ → ℕ → Placed
system_placed s blocks b = (b, system_block s blocks b)

-- the first n of them
unfoldable pub system_row : Shape → ℕ → ℕ → List Placed
system_row s blocks n = map (system_placed s blocks) (range_with_len 0 n)

abbrev pub system_part : Shape → ℕ → List Placed
system_part s blocks = system_row s blocks first_free

-- the j-th stored block of the file of name i
abbrev pub data_placed : Shape → ℕ → Bool → ℕ → Placed
data_placed s i sparse j = (place (stored_before s.names i + j), sample_bytes i sparse (4096 * stored_block sparse j) 4096)

abbrev pub data_of_file : Shape → ℕ → ℕ → Bool → List Placed
data_of_file s i whole sparse = map (data_placed s i sparse) (range_with_len 0 (stored_of whole sparse))

abbrev pub data_of_content : Shape → ℕ → SampleEntry → List Placed
data_of_content s i Name = []
data_of_content s i Symlink = []
data_of_content s i (File whole rest sparse) = data_of_file s i whole sparse

abbrev pub data_of_name : Shape → ℕ → List Placed
data_of_name s i = data_of_content s i (slice_index_or s.names i Name)

abbrev pub data_part : Shape → List Placed
data_part s = flat_map (data_of_name s) (range_with_len 0 (length s.names))

abbrev pub leaf_placed : Shape → ℕ → Placed
leaf_placed s m = (node_place s 1 m, leaf_bytes s (leaf_at s m))

abbrev pub leaf_part : Shape → List Placed
leaf_part s = map (leaf_placed s) (range_with_len 0 (length (leaves s)))

-- node m above a level
abbrev pub inner_placed : Shape → ℕ → ℕ → Placed
inner_placed s below m = (node_place s (below + 1) m, inner_bytes (below + 1) (children s below m))

-- the nodes above a level
abbrev pub level_part : Shape → ℕ → List Placed
level_part s below = map (inner_placed s below) (range_with_len 0 (level_nodes (length (leaves s)) (below + 1)))

abbrev pub inner_part : Shape → List Placed
inner_part s = flat_map (level_part s) (range_with_len 1 (root_level (length (leaves s)) - 1))

abbrev pub bitmap_placed : ℕ → ℕ → ℕ → Placed
bitmap_placed needed blocks k = (BITS_IN_BLOCK * k, bitmap_bytes needed blocks k)

-- the bitmap blocks behind the first
abbrev pub bitmap_part : ℕ → ℕ → List Placed
bitmap_part needed blocks = map (bitmap_placed needed blocks) (range_with_len 1 (bitmap_blocks blocks - 1))

-- all that is written, in this order
unfoldable pub volume_blocks : Shape → ℕ → List Placed
volume_blocks s blocks = system_part s blocks ++ (data_part s ++ (leaf_part s ++ (inner_part s ++ bitmap_part (needed s) blocks)))

-- an image with these blocks in their places
abbrev pub laid_over : List Placed → Image → Image
laid_over [] image = image
laid_over (p ∷ ps) image = laid_over ps (slice_set image p.0 p.1)

-- what of a volume of so many blocks is used by the sample
pub record IsUsage (s : Shape) (usage : Usage) : Type 0 where
  pub needed : usage.needed ≡ needed s
  pub fits : usage.needed ≤ usage.blocks
  pub most : usage.blocks ≤ 2 ^ 29

-- a block that the volume has as used: no other one is written
abbrev pub IsUsed : Usage → ℕ → Type 0
IsUsed usage b = IsTrue (nat_lt b usage.blocks && is_taken usage.needed b)
