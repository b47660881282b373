-- The extent tree: which ranges of the volume are taken, by what, and how much of each chunk.
use Rattle.std.specs.Prelude.{ℕ, ◌+◌, ◌*◌, ◌==◌, nat_le, nat_lt, Bool, ◌&&◌, ◌||◌, if◌then◌else◌, Option, Some, None, List, [], ◌∷◌, map, filter}
use Rattle.std.specs.List.{sum_by}
use Rattle.btr_space_items.specs.btrfs_format.declared.flag.TheConstants.{EXTENT_FLAG_DATA, EXTENT_FLAG_TREE_BLOCK}
use Rattle.btr_space_items.specs.btrfs_format.declared.key.TheConstants.{BLOCK_GROUP_ITEM, EXTENT_ITEM, METADATA_ITEM}
use Rattle.btr_space_items.specs.btrfs_format.declared.object.TheConstants.{CONV_IMAGE_SUBVOL, FIRST_CHUNK_TREE_OBJECTID, FS_TREE}
use Rattle.btr_tree.specs.castagnoli.Castagnoli.{data_ref_hash}
use Rattle.btr_tree.specs.btr_keys.Key.{make_key}
use Rattle.btr_tree.specs.btr_node.Leaf.{Item}
use Rattle.btr_space_items.specs.BlockGroup.{block_group_bytes}
use Rattle.btr_space_items.specs.ExtentBody.{extent_body_of}
use Rattle.btr_space_items.specs.InlineRef.{ref_kind}
use Rattle.btr_space_items.specs.declared.inline_ref.InlineRef.{InlineRef}
use Rattle.btr_space_items.specs.declared.inline_ref.InlineRef.TheVariants.{TreeBlock, SharedBlock, DataRef, SharedData}
use Rattle.space_items.specs.Merging.{merged}
use Rattle.unit_plan.specs.declared.chunk.PlannedChunk.{PlannedChunk}
use Rattle.unit_plan.specs.declared.piece.Piece.{Piece}
use Rattle.space_items.specs.declared.node.TreeNode.{TreeNode}
use Rattle.space_items.specs.Chunks.{chunk_kind}

-- one file extent refers to the data, from a byte of the file on
abbrev pub data_ref : ℕ → ℕ → ℕ → InlineRef
data_ref tree inode block = DataRef tree inode (4096 * block) 1

-- the image, inode 257 of tree 256, refers to the blocks of the volume; a file of tree 5 to what it owns
abbrev pub image_refs : Option ℕ → List InlineRef
image_refs None = []
image_refs (Some block) = data_ref CONV_IMAGE_SUBVOL 257 block ∷ []

abbrev pub owner_refs : Option (ℕ × ℕ) → List InlineRef
owner_refs None = []
owner_refs (Some owner) = data_ref FS_TREE owner.0 owner.1 ∷ []

-- by what references of one kind descend in an item
abbrev pub place_of_ref : InlineRef → ℕ
place_of_ref (TreeBlock root) = root
place_of_ref (SharedBlock parent) = parent
place_of_ref (DataRef root objectid offset count) = data_ref_hash root objectid offset
place_of_ref (SharedData parent count) = parent

-- The one belongs behind the other: in an item kinds of references ascend, and those of one kind descend (check_extent_item
-- of Linux from 6.8 on).
abbrev pub is_behind : InlineRef → InlineRef → Bool
is_behind r other = nat_lt (ref_kind other) (ref_kind r) || ((ref_kind r == ref_kind other) && nat_lt (place_of_ref r) (place_of_ref other))

-- One reference more in a list of references in the order of an item. Of two equal ones it stands first.
abbrev pub put_ref : InlineRef → List InlineRef → List InlineRef
put_ref r [] = r ∷ []
put_ref r (next ∷ refs) = if is_behind r next then next ∷ put_ref r refs else r ∷ (next ∷ refs)

abbrev pub put_refs : List InlineRef → List InlineRef → List InlineRef
put_refs [] refs = refs
put_refs (r ∷ rs) refs = put_ref r (put_refs rs refs)

-- The references to a piece. Tree 5 is before tree 256, so of equal hashes its reference stands first.
abbrev pub piece_refs : Piece → List InlineRef
piece_refs p = put_refs (owner_refs p.owner) (image_refs p.from)

-- the body of an extent that transaction 1 made
abbrev pub extent_body : ℕ → List InlineRef → List ℕ
extent_body flags refs = extent_body_of 1 flags refs

-- the extent of a piece; 1 is data
abbrev pub piece_item : Piece → Item
piece_item p = (make_key (4096 * p.place) EXTENT_ITEM (4096 * p.count), extent_body EXTENT_FLAG_DATA (piece_refs p))

-- the extent of a node; 2 is a node
abbrev pub node_item : TreeNode → Item
node_item n = (make_key n.address METADATA_ITEM n.level, extent_body EXTENT_FLAG_TREE_BLOCK (TreeBlock n.owner ∷ []))

-- an address lies in the chunk
abbrev pub is_in_chunk : PlannedChunk → ℕ → Bool
is_in_chunk c address = nat_le (4096 * c.start) address && nat_lt address (4096 * (c.start + c.length))

-- the bytes of the extents of pieces in a chunk, and of those of nodes
abbrev pub bytes_of_pieces : List Piece → PlannedChunk → ℕ
bytes_of_pieces pieces c = sum_by (λ p. 4096 * p.count) (filter (λ p. is_in_chunk c (4096 * p.place)) pieces)

abbrev pub bytes_of_nodes : List TreeNode → ℕ → PlannedChunk → ℕ
bytes_of_nodes nodes nodesize c = sum_by (λ n. nodesize) (filter (λ n. is_in_chunk c n.address) nodes)

-- the bytes of the extents of a chunk
abbrev pub used_in : List Piece → List TreeNode → ℕ → PlannedChunk → ℕ
used_in pieces nodes nodesize c = bytes_of_pieces pieces c + bytes_of_nodes nodes nodesize c

-- the block group of a chunk
abbrev pub group_item : ℕ → PlannedChunk → Item
group_item used c =
    (make_key (4096 * c.start) BLOCK_GROUP_ITEM (4096 * c.length), block_group_bytes (record { used = used; chunk_objectid = FIRST_CHUNK_TREE_OBJECTID; flags = chunk_kind c.role }))

-- The whole of it, ascending: an extent for each piece and for each node, and a block group for each chunk.
abbrev pub extent_items : List PlannedChunk → List Piece → List TreeNode → ℕ → List Item
extent_items chunks pieces nodes nodesize =
    merged (map (λ c. group_item (used_in pieces nodes nodesize c) c) chunks) (merged (map node_item nodes) (map piece_item pieces))
