-- What holds of the lists that the trees tell of.
use Rattle.std.specs.Prelude.{◌≡◌, ℕ, ◌<◌, ◌≤◌, List, length, All, AllPairs}
use Rattle.btr_tree.specs.vol_block.declared.ids.Ids.{Ids}
use Rattle.btr_tree.specs.btr_node.Leaf.{Item, keys_of}
use Rattle.btr_tree.specs.btr_node.Order.{Ascends}
use Rattle.unit_plan.specs.Chunks.{AreChunks}
use Rattle.unit_plan.specs.declared.chunk.PlannedChunk.{PlannedChunk}
use Rattle.unit_plan.specs.declared.plan.Plan.{Plan}
use Rattle.space_items.specs.Chunks.{chunk_items, device_items}
use Rattle.space_items.specs.Roots.{root_items}
use Rattle.space_items.specs.declared.node.TreeRoot.{TreeRoot}

-- a plan makes one list of chunks of a volume
abbrev pub ChunksAreOne : Type 0
ChunksAreOne = (plan : Plan) (blocks : ℕ) (chunks others : List PlannedChunk) → AreChunks plan blocks chunks → AreChunks plan blocks others → chunks ≡ others

-- identifiers of 16 bytes each
pub record AreIds (ids : Ids) : Type 0 where
  pub fsid : length ids.fsid ≡ 16
  pub device : length ids.device ≡ 16
  pub chunk_tree : length ids.chunk_tree ≡ 16
  pub subvolume : length ids.subvolume ≡ 16

-- Items of which a tree can be made: their keys ascend, and none is longer than a root item.
pub record FitTree (items : List Item) : Type 0 where
  pub ascend : Ascends (keys_of items)
  pub short : All (λ i. length i.1 ≤ 439) items

-- so are those of the chunk tree and of the device tree
abbrev pub ChunkItemsFit : Type 0
ChunkItemsFit =
    (plan : Plan) (blocks : ℕ) (ids : Ids) (chunks : List PlannedChunk) → AreIds ids → AreChunks plan blocks chunks
    → FitTree (chunk_items ids blocks chunks) × FitTree (device_items ids chunks)

-- and those of the root tree
abbrev pub RootItemsFit : Type 0
RootItemsFit =
    (list : List TreeRoot) (index : ℕ) (ids : Ids) (now nodesize : ℕ) → AreIds ids → AllPairs (λ r s. r.tree < s.tree) list → FitTree (root_items list index ids now nodesize)
