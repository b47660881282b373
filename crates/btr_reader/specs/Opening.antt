-- What is read of a volume as it is opened: the superblock, the chunks and the root tree.
use Rattle.std.specs.Prelude.{◌≡◌, ℕ, ◌≤◌, List, [], ◌∷◌, ◌++◌, length, take, map, Option, Some, None, IsSome, unwrap_or, Result, Ok, Err}
use Rattle.btr_space_items.specs.btrfs_format.declared.block.TheConstants.{SUPER_BLOCK, SUPER_INFO_OFFSET}
use Rattle.btr_space_items.specs.btrfs_format.declared.object.TheConstants.{CHUNK_TREE, ROOT_TREE}
use Rattle.btr_reader_walk.specs.outside.History.{Image, block_at}
use Rattle.btr_reader_walk.specs.refusals.declared.answer.BtrAnswer.{BtrAnswer}
use Rattle.btr_reader_walk.specs.refusals.declared.answer.BtrAnswer.TheVariants.{Refused, Fault, Memory}
use Rattle.btr_reader_walk.specs.refusals.declared.refusal.BtrRefusal.{BtrRefusal}
use Rattle.btr_reader_walk.specs.refusals.declared.refusal.BtrRefusal.TheVariants.{BadBtrfs}
use Rattle.btr_reader_walk.specs.refusals.declared.rule.BtrRule.TheVariants.{ChunkForm}
use Rattle.btr_reader_walk.specs.csum_kinds.declared.kind.SumKind.TheVariants.{Crc32c}
use Rattle.btr_reader_walk.specs.btr_node.NodeSize.{IsNodeSize}
use Rattle.btr_super.specs.declared.superblock.Super.{Super}
use Rattle.btr_super.specs.Rules.{super_of, NamesNoLog}
use Rattle.btr_super.specs.Super.{node_fsid}
use Rattle.btr_super.specs.Sums.{known_kind}
use Rattle.btr_reader_walk.specs.declared.map.MapRange.{MapRange}
use Rattle.btr_reader_walk.specs.declared.tree.Form.{Form}
use Rattle.btr_reader_walk.specs.declared.tree.NodePointer.{NodePointer}
use Rattle.btr_reader_walk.specs.declared.tree.Tree.{Tree}
use Rattle.btr_reader_walk.specs.Walks.{wrong, found}
pub use Rattle.btr_reader_walk.specs.Walks.{IsAmong}
use Rattle.btr_reader.specs.declared.chunk.ChunkAt.{ChunkAt}
use Rattle.btr_reader.specs.Chunks.{range_of, array_chunks, chunks_refusals, with_items, items_refusals}

-- the superblock of a disk, which is block 16
abbrev pub super_on : Image → Result Super BtrRefusal
super_on image = super_of (block_at image SUPER_BLOCK) SUPER_BLOCK (length image)

-- what the nodes of the volume share
abbrev pub form_of : Super → Form
form_of s = record { fsid = node_fsid s; nodesize = s.nodesize; sums = unwrap_or (known_kind s.csum_type) Crc32c }

abbrev pub tree_of : Super → ℕ → NodePointer → Tree
tree_of s owner root = record { form = form_of s; root = root; owner = owner }

-- the chunk tree has the number 3, and the root tree the number 1
abbrev pub chunk_tree : Super → Tree
chunk_tree s = tree_of s CHUNK_TREE (record { address = s.chunk_root; level = s.chunk_root_level; generation = s.chunk_root_generation })

abbrev pub root_tree : Super → Tree
root_tree s = tree_of s ROOT_TREE (record { address = s.root; level = s.root_level; generation = s.generation })

-- the chunks of the bootstrap array, if it is a list of chunks
abbrev pub boot_chunks : Super → Option (List ChunkAt)
boot_chunks s = array_chunks (take s.sys_chunk_array_size s.sys_chunk_array)

-- The map of addresses: the chunks of the array, then those of the chunk tree, whose nodes lie by the array alone.
abbrev pub map_from : Image → Super → List ChunkAt → List MapRange
map_from image s boot = with_items boot (map range_of boot) (found image (map range_of boot) (chunk_tree s))

-- some first, or what comes after them
abbrev pub or_later : List BtrRefusal → List BtrRefusal → List BtrRefusal
or_later [] later = later
or_later (r ∷ rs) later = r ∷ rs

-- what is wrong from the chunk tree on, where these are the chunks of the array
abbrev pub trees_refusals : Image → Super → List ChunkAt → List BtrRefusal
trees_refusals image s boot =
    or_later (wrong image (map range_of boot) (chunk_tree s) ++ items_refusals (length image) boot (map range_of boot) (found image (map range_of boot) (chunk_tree s)))
    (wrong image (map_from image s boot) (root_tree s))

-- the chunks of an array that is a list of chunks
abbrev pub boot_list : Option (List ChunkAt) → List ChunkAt
boot_list None = []
boot_list (Some chunks) = chunks

-- what is wrong with the array

abbrev pub boot_refusals : ℕ → Option (List ChunkAt) → List BtrRefusal
boot_refusals device None = BadBtrfs SUPER_INFO_OFFSET ChunkForm ∷ []
boot_refusals device (Some chunks) = chunks_refusals device [] chunks

abbrev pub refusals_after : Image → Result Super BtrRefusal → List BtrRefusal
refusals_after image (Err r) = r ∷ []
refusals_after image (Ok s) = or_later (boot_refusals (length image) (boot_chunks s)) (trees_refusals image s (boot_list (boot_chunks s)))

-- The refusals of a volume as it is opened. Those of the superblock come before all others, and what can't be found
-- because of a refusal isn't looked at.
unfoldable pub opening_refusals : Image → List BtrRefusal
opening_refusals image = refusals_after image (super_on image)

-- the map of addresses of a volume that can be opened
abbrev pub chunk_map : Image → Super → List MapRange
chunk_map image s = map_from image s (boot_list (boot_chunks s))

-- a volume was opened: this is its superblock, and this its map
pub record IsBtrfsOpened (image : Image) (s : Super) (ranges : List MapRange) : Type 0 where
  pub sound : opening_refusals image ≡ []
  pub super : super_on image ≡ Ok s
  pub map_is : ranges ≡ chunk_map image s

-- the answer names no log tree
abbrev pub NamesNoLogTree : BtrAnswer → Type 0
NamesNoLogTree (Refused r) = NamesNoLog r
NamesNoLogTree Fault = Unit {0}
NamesNoLogTree Memory = Unit {0}

-- the array is no list of chunks, or there was no memory
abbrev pub IsBadArray : Option (List ChunkAt) → BtrAnswer → Type 0
IsBadArray chunks (Refused r) = (r ≡ BadBtrfs SUPER_INFO_OFFSET ChunkForm) × (chunks ≡ None)
IsBadArray chunks Fault = ⊥
IsBadArray chunks Memory = Unit {0}

-- bounds of a superblock that is read; its kind of checksum is known
pub record IsSuperInBounds (s : Super) : Type 0 where
  pub kind : IsSome (known_kind s.csum_type)
  pub nodesize : IsNodeSize s.nodesize
  pub root : s.root_level ≤ 7
  pub chunks : s.chunk_root_level ≤ 7
  pub array : s.sys_chunk_array_size ≤ 2048

-- the refusal is that of the superblock, or a call failed
abbrev pub IsSuperAnswer : Result Super BtrRefusal → BtrAnswer → Type 0
IsSuperAnswer read (Refused r) = read ≡ Err r
IsSuperAnswer read Fault = Unit {0}
IsSuperAnswer read Memory = ⊥
