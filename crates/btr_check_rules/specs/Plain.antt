-- Volumes whose trees share no nodes. There references are counted tree by tree: the extent of a node has one, by the tree that has the
-- node, and one of data has one by each tree, inode and place in the file. What part 3 asks follows.
use Rattle.std.specs.Prelude.{◌≡◌, ◌≢◌, ◌⊎◌, ◌≤◌, ℕ, ◌%◌, ◌==◌, Bool, false, ◌&&◌, List, [], ◌∷◌, length, drop, map, Some, All, AllPairs, Contains}
use Rattle.std.specs.List.{count_by, flat_map}
use Rattle.std.specs.List.Sorted.{IsPermutation}
use Rattle.btr_reader_walk.specs.btrfs_format.declared.flag.TheConstants.{EXTENT_FLAG_DATA, EXTENT_FLAG_TREE_BLOCK}
use Rattle.btr_reader_walk.specs.btrfs_format.declared.key.TheConstants.{BLOCK_GROUP_ITEM, EXTENT_ITEM, METADATA_ITEM}
use Rattle.btr_reader_walk.specs.btrfs_format.declared.size.TheConstants.{EXTENT_ITEM_SIZE}
use Rattle.btr_reader.specs.outside.History.{Image}
use Rattle.btr_reader.specs.btr_node.Head.{head_in}
use Rattle.btr_reader.specs.btr_node.Inner.{children_in}
use Rattle.btr_reader.specs.btr_node.Leaf.{Item, items_in}
use Rattle.btr_reader.specs.btr_space_items.ExtentHead.{extent_head_of}
use Rattle.btr_reader.specs.btr_space_items.InlineRef.{inline_refs_of}
use Rattle.btr_reader.specs.btr_space_items.declared.extent_head.ExtentHead.{ExtentHead}
use Rattle.btr_reader.specs.btr_space_items.declared.inline_ref.InlineRef.{InlineRef}
use Rattle.btr_reader.specs.btr_space_items.declared.inline_ref.InlineRef.TheVariants.{TreeBlock, SharedBlock, DataRef, SharedData}
use Rattle.btr_reader.specs.btr_reader_walk.declared.tree.NodePointer.{NodePointer}
use Rattle.btr_check_rules.specs.Extents.{same_ref}
use Rattle.btr_check_rules.specs.Nodes.{is_relocated, node_bytes}
use Rattle.btr_check_rules.specs.Recount.{Recount, TreeOn, DataUse, HasItem, all_trees, data_uses, node_addresses}
use Rattle.btr_check_rules.specs.References.{FitFeatures, KeepsReferences, StandsBefore, extent_items}
use Rattle.btr_check_rules.specs.Walk.{if_inner, if_leaf}

-- ---- trees that share no nodes

-- where the children of a node lie; a leaf has none
abbrev pub child_addresses : Image → Recount → NodePointer → List ℕ
child_addresses image r p = if_inner p.level (map (λ c. c.address) (children_in (node_bytes image r p.address)))

-- the items of a leaf
abbrev pub leaf_of : Image → Recount → NodePointer → List Item
leaf_of image r p = if_leaf p.level (items_in (node_bytes image r p.address))

-- the head of a node tells the tree that has it, and its level, and no balance made it
pub record IsOwnNode (image : Image) (r : Recount) (number : ℕ) (p : NodePointer) : Type 0 where
  pub owner : (head_in (node_bytes image r p.address)).owner ≡ number
  pub level : (head_in (node_bytes image r p.address)).level ≡ p.level
  pub settled : is_relocated (head_in (node_bytes image r p.address)) ≡ false

-- Such are all nodes of the tree. Each is its root or has one pointer to it, and the items are those of the leaves.
pub record IsOwnTree (image : Image) (r : Recount) (t : TreeOn) : Type 0 where
  pub nodes : All (IsOwnNode image r t.number) t.nodes
  pub pointers : IsPermutation (node_addresses t) (t.root.address ∷ flat_map (child_addresses image r) t.nodes)
  pub items : t.items ≡ flat_map (leaf_of image r) t.nodes

-- No node is met twice, data lies apart from nodes and from other data, and no key stands twice in the extent tree.
pub record AreUnshared (image : Image) (r : Recount) : Type 0 where
  pub size : (r.super.nodesize % 4096 ≡ 0) × (r.super.nodesize ≢ 0)
  pub trees : All (IsOwnTree image r) (all_trees r)
  pub once : AllPairs (λ m n. m ≢ n) (flat_map node_addresses (all_trees r))
  pub apart : (u : DataUse) (t : TreeOn) (p : NodePointer) → Contains (data_uses r) u → Contains (all_trees r) t → Contains t.nodes p → u.start ≢ p.address
  pub ranges : (u w : DataUse) → Contains (data_uses r) u → Contains (data_uses r) w → u.start ≡ w.start → u.length ≡ w.length
  pub keys : AllPairs (λ i j. i.0 ≢ j.0) (extent_items r)

-- ---- references

-- An item of the extent tree has so many references, of this kind, and these. Its extent is not newer than the
-- superblock.
pub record TellsRefs (newest : ℕ) (body : List ℕ) (kind count : ℕ) (refs : List InlineRef) : Type 0 where
  pub head : ExtentHead
  pub head_is : extent_head_of body ≡ Some head
  pub refs_are : inline_refs_of (drop EXTENT_ITEM_SIZE body) ≡ Some refs
  pub count_is : head.refs ≡ count
  pub kind_is : head.flags ≡ kind
  pub generation : head.generation ≤ newest
  pub order : AllPairs StandsBefore refs

-- the extent of a node has one reference, of its tree
abbrev pub IsNodeItem : Recount → Item → Type 0
IsNodeItem r i =
    (t : TreeOn) × (p : NodePointer) × Contains (all_trees r) t × Contains t.nodes p
    × (i.0 ≡ record { objectid = p.address; kind = METADATA_ITEM; offset = p.level }) × TellsRefs r.super.generation i.1 EXTENT_FLAG_TREE_BLOCK 1 (TreeBlock t.number ∷ [])

-- a use is one by this reference to this disk range
abbrev pub is_use : ℕ → ℕ → ℕ → ℕ → ℕ → DataUse → Bool
is_use start length tree inode offset u =
    (u.start == start) && ((u.length == length) && ((u.tree == tree) && ((u.inode == inode) && (u.offset == offset))))

-- of the uses of a disk range so many are by this reference
abbrev pub CountsUses : Recount → ℕ → ℕ → InlineRef → Type 0
CountsUses r start length (TreeBlock root) = ⊥
CountsUses r start length (SharedBlock parent) = ⊥
CountsUses r start length (SharedData parent count) = ⊥
CountsUses r start length (DataRef root objectid offset count) =
    (count ≢ 0) × (count_by (is_use start length root objectid offset) (data_uses r) ≡ count)

abbrev pub is_of_range : ℕ → ℕ → DataUse → Bool
is_of_range start length u = (u.start == start) && (u.length == length)

-- The extent of data has each reference to it once, with its count; all counts together are those of the uses.
pub record IsDataItem (r : Recount) (i : Item) : Type 0 where
  pub is_use : DataUse
  pub used : Contains (data_uses r) is_use
  pub key : i.0 ≡ record { objectid = is_use.start; kind = EXTENT_ITEM; offset = is_use.length }
  pub refs : List InlineRef
  pub body : TellsRefs r.super.generation i.1 EXTENT_FLAG_DATA (count_by (is_of_range is_use.start is_use.length) (data_uses r)) refs
  pub each : All (CountsUses r is_use.start is_use.length) refs
  pub once : AllPairs (λ a b. same_ref a b ≡ false) refs
  pub whole : (u : DataUse) → Contains (data_uses r) u → u.start ≡ is_use.start → u.length ≡ is_use.length
      → (count : ℕ) × Contains refs (DataRef u.tree u.inode u.offset count)

abbrev pub is_group : Item → Bool
is_group i = i.0.kind == BLOCK_GROUP_ITEM

-- an extent begins and ends at multiples of 4096, and is not empty
pub record IsWhole (i : Item) : Type 0 where
  pub start : i.0.objectid % 4096 ≡ 0
  pub range : i.0.kind ≡ EXTENT_ITEM → (i.0.offset % 4096 ≡ 0) × (i.0.offset ≢ 0)

-- the extent tree has these items, one for each node and one for each range of data, and block groups
pub record ArePlainReferences (r : Recount) : Type 0 where
  pub each : All (λ i. is_group i ≡ false → (IsNodeItem r i ⊎ IsDataItem r i) × IsWhole i) (extent_items r)
  pub nodes : All (λ t. All (λ p. HasItem (extent_items r) p.address METADATA_ITEM p.level) t.nodes) (all_trees r)
  pub data_ : All (λ u. HasItem (extent_items r) u.start EXTENT_ITEM u.length) (data_uses r)

-- Then references that are counted over all nodes, each met once, are those that are counted tree by tree.
abbrev pub PlainReferencesAreKept : Type 0
PlainReferencesAreKept =
    (image : Image) (r : Recount) → AreUnshared image r → ArePlainReferences r → ((a : ℕ) → FitFeatures r a) → (a : ℕ) → KeepsReferences image r a
