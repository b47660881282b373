-- Part 3: the extent tree is the recount of all nodes and of all data that files refer to. It fails at the address of an
-- extent.
use Rattle.std.specs.Prelude.{◌≡◌, ◌≢◌, ◌⊎◌, ◌≤◌, ◌<◌, ℕ, ◌+◌, ◌%◌, ◌==◌, Bool, true, false, ◌&&◌, if◌then◌else◌, List, [], ◌∷◌, ◌++◌, filter, map, All, AllPairs, Contains, Option, Some, None, IsTrue, is_some}
use Rattle.std.specs.List.{count_by, flat_map, list_any, sum_by}
use Rattle.btr_reader_walk.specs.btrfs_format.declared.feature.TheConstants.{EXTENDED_IREF, SKINNY_METADATA}
use Rattle.btr_reader_walk.specs.btrfs_format.declared.flag.TheConstants.{BLOCK_FLAG_FULL_BACKREF, EXTENT_FLAG_DATA, EXTENT_FLAG_TREE_BLOCK}
use Rattle.btr_reader_walk.specs.btrfs_format.declared.key.TheConstants.{BLOCK_GROUP_ITEM, INODE_EXTREF, METADATA_ITEM}
use Rattle.btr_reader_walk.specs.btrfs_format.declared.object.TheConstants.{EXTENT_TREE}
use Rattle.btr_reader.specs.outside.History.{Image}
use Rattle.btr_reader.specs.btr_node.Head.{head_in}
use Rattle.btr_reader.specs.btr_node.Inner.{children_in}
use Rattle.btr_reader.specs.btr_node.Leaf.{Item, items_in}
use Rattle.btr_reader.specs.btr_node.declared.child.Child.{Child}
use Rattle.btr_reader.specs.btr_space_items.InlineRef.{ref_kind, ref_uses}
use Rattle.btr_reader.specs.btr_space_items.declared.inline_ref.InlineRef.{InlineRef}
use Rattle.btr_reader.specs.btr_space_items.declared.inline_ref.InlineRef.TheVariants.{TreeBlock, SharedBlock, DataRef, SharedData}
use Rattle.btr_check_rules.specs.Extents.{Extent, extent_of, is_extent_item, is_full, is_node, is_ref_item, ref_of_item, ref_place, refers_to_node, same_ref}
use Rattle.btr_check_rules.specs.Nodes.{is_relocated, node_bytes}
use Rattle.btr_check_rules.specs.Recount.{Recount, TreeOn, DataUse, EachAt, PairsAt, all_trees, has_feature, holds_files, node_addresses, nodes_met, object_of, of_kind, recounted_items, uses_of}

-- ---- what is told

abbrev pub extent_items : Recount → List Item
extent_items r = recounted_items r EXTENT_TREE

abbrev pub at_most_one : {A : Type 0} → Option A → List A
at_most_one None = []
at_most_one (Some x) = x ∷ []

-- the extents of the extent tree
abbrev pub extents_told : Recount → List Extent
extents_told r = flat_map (λ i. at_most_one (extent_of r.super.nodesize i)) (filter is_extent_item (extent_items r))

-- the references in items of their own to the extent at an address
abbrev pub is_ref_to : ℕ → Item → Bool
is_ref_to start i = is_ref_item i && (i.0.objectid == start)

abbrev pub own_refs : Recount → ℕ → List InlineRef
own_refs r start = flat_map (λ i. at_most_one (ref_of_item i)) (filter (is_ref_to start) (extent_items r))

-- all references to an extent that are told
abbrev pub told_refs : Recount → Extent → List InlineRef
told_refs r e = e.refs ++ own_refs r e.start

-- how often this one is told
abbrev pub told_count : Recount → Extent → InlineRef → ℕ
told_count r e ref = sum_by ref_uses (filter (same_ref ref) (told_refs r e))

-- the extent of the node at an address has the flag `full`
abbrev pub is_full_node : Recount → ℕ → Bool
is_full_node r address = list_any (λ e. (e.start == address) && is_full e) (extents_told r)

-- ---- what is there

-- A reference that is made once: to an extent of so many bytes at an address.
pub record Made : Type 0 where
  pub start : ℕ
  pub length : ℕ
  pub ref : InlineRef

-- the references that the pointers in a node make: by the owner of the node, or by its address where its extent is full
-- (process_data and add_tree_backref of `btrfs check`, __btrfs_mod_ref)
abbrev pub child_ref : ℕ → Bool → ℕ → ℕ → Child → Made
child_ref nodesize full owner address c = record { start = c.address; length = nodesize; ref = if full then SharedBlock address else TreeBlock owner }

abbrev pub use_ref : Bool → ℕ → DataUse → Made
use_ref full address u = record { start = u.start; length = u.length; ref = if full then SharedData address 1 else DataRef u.tree u.inode u.offset 1 }

abbrev pub refs_from : Recount → ℕ → List ℕ → List Made
refs_from r address bytes =
    if (head_in bytes).level == 0
    then map (use_ref (is_full_node r address) address) (uses_of (head_in bytes).owner (items_in bytes))
    else map (child_ref r.super.nodesize (is_full_node r address) (head_in bytes).owner address) (children_in bytes)

-- the root of a tree has a reference by the tree
abbrev pub root_ref : Recount → TreeOn → Made
root_ref r t = record { start = t.root.address; length = r.super.nodesize; ref = TreeBlock t.number }

-- all references, each node met once
abbrev pub refs_made : Image → Recount → List Made
refs_made image r = map (root_ref r) (all_trees r) ++ flat_map (λ address. refs_from r address (node_bytes image r address)) (nodes_met r)

abbrev pub is_made_to : Extent → Made → Bool
is_made_to e m = (m.start == e.start) && (m.length == e.length)

abbrev pub is_made_by : Extent → InlineRef → Made → Bool
is_made_by e ref m = is_made_to e m && same_ref ref m.ref

-- ---- an extent

-- In an item kinds of references ascend, and in a kind trees, nodes and hashes descend (check_extent_item from Linux 6.8 on).
abbrev pub StandsBefore : InlineRef → InlineRef → Type 0
StandsBefore a b = (ref_kind a < ref_kind b) ⊎ ((ref_kind a ≡ ref_kind b) × (ref_place b ≤ ref_place a))

-- Its references are those that are made, each once and with its count, and their sum is told ("ref mismatch" of `btrfs
-- check`). Something refers to it.
pub record HasRefs (image : Image) (r : Recount) (e : Extent) : Type 0 where
  pub each : All (λ ref. (ref_uses ref ≢ 0) × (refers_to_node ref ≡ is_node e)) (told_refs r e)
  pub once : AllPairs (λ a b. same_ref a b ≡ false) (told_refs r e)
  pub counts : (ref : InlineRef) → told_count r e ref ≡ count_by (is_made_by e ref) (refs_made image r)
  pub sum : e.head.refs ≡ count_by (is_made_to e) (refs_made image r)
  pub some : e.head.refs ≢ 0
  pub order : AllPairs StandsBefore e.refs

-- It begins and ends at multiples of 4096 and is not empty, it is not newer than the superblock, and it is of data, or of
-- a node; only that may be full (check_extent_item). Of a node it tells the level.
pub record KeepsExtentItem (image : Image) (r : Recount) (e : Extent) : Type 0 where
  pub whole : (e.start % 4096 ≡ 0) × (e.length % 4096 ≡ 0) × (e.length ≢ 0)
  pub generation : e.head.generation ≤ r.super.generation
  pub flags : (e.head.flags ≡ EXTENT_FLAG_DATA) ⊎ ((e.head.flags ≡ EXTENT_FLAG_TREE_BLOCK) ⊎ (e.head.flags ≡ EXTENT_FLAG_TREE_BLOCK + BLOCK_FLAG_FULL_BACKREF))
  pub kind : is_some e.level ≡ is_node e
  pub level : is_node e ≡ true → e.level ≡ Some (head_in (node_bytes image r e.start)).level
  pub refs : HasRefs image r e

-- ---- nodes that trees share

-- a tree with this number has the node
abbrev pub IsNodeIn : Recount → ℕ → ℕ → Type 0
IsNodeIn r number address = (t : TreeOn) × Contains (all_trees r) t × (t.number ≡ number) × Contains (node_addresses t) address

-- A node that is not full stands in the tree of its owner ("owner ref check failed" of `btrfs check`), and no balance made it. One that is
-- full is of a file tree, and where it stands in its owner's tree it is not newer than the last snapshot of that, unless a balance
-- made it ("bad full backref").
pub record IsShared (image : Image) (r : Recount) (address : ℕ) : Type 0 where
  pub owned : is_full_node r address ≡ false → IsNodeIn r (head_in (node_bytes image r address)).owner address
  pub plain : is_relocated (head_in (node_bytes image r address)) ≡ true → is_full_node r address ≡ true
  pub full : is_full_node r address ≡ true → holds_files (head_in (node_bytes image r address)).owner ≡ true
  pub older : is_full_node r address ≡ true → is_relocated (head_in (node_bytes image r address)) ≡ false
      → (t : TreeOn) → Contains (all_trees r) t → t.number ≡ (head_in (node_bytes image r address)).owner → Contains (node_addresses t) address
      → (head_in (node_bytes image r address)).generation ≤ t.last_snapshot

-- ---- the part

-- Items of the tree are extents, references to an extent that is there, and block groups, each on its grammar.
pub record IsExtentTreeItem (r : Recount) (i : Item) : Type 0 where
  pub extent : is_extent_item i ≡ true → IsTrue (is_some (extent_of r.super.nodesize i))
  pub ref : is_ref_item i ≡ true → IsTrue (is_some (ref_of_item i)) × list_any (λ e. e.start == i.0.objectid) (extents_told r) ≡ true
  pub other : is_extent_item i ≡ false → is_ref_item i ≡ false → i.0.kind ≡ BLOCK_GROUP_ITEM

-- What is made refers to an extent that is told, of the same kind ("extent item not found").
abbrev pub IsTold : Recount → Made → Type 0
IsTold r m = (e : Extent) × Contains (extents_told r) e × (m.start ≡ e.start) × (m.length ≡ e.length) × (refers_to_node m.ref ≡ is_node e)

-- items of two kinds stand for a feature of the volume (check_extent_item; extended refs)
pub record FitFeatures (r : Recount) (a : ℕ) : Type 0 where
  pub skinny : has_feature r.super SKINNY_METADATA ≡ false → All (λ i. i.0.objectid ≢ a) (of_kind METADATA_ITEM (extent_items r))
  pub extended : has_feature r.super EXTENDED_IREF ≡ false → All (λ t. All (λ i. i.0.objectid ≢ a) (of_kind INODE_EXTREF t.items)) (all_trees r)

-- What part 3 asks at an address.
pub record KeepsReferences (image : Image) (r : Recount) (a : ℕ) : Type 0 where
  pub items : EachAt object_of a (IsExtentTreeItem r) (extent_items r)
  pub extents : EachAt (λ (e : Extent). e.start) a (KeepsExtentItem image r) (extents_told r)
  -- an extent has one item
  pub once : PairsAt (λ (e : Extent). e.start) a (λ e f. e.start ≢ f.start) (extents_told r)
  pub told : EachAt (λ (m : Made). m.start) a (IsTold r) (refs_made image r)
  pub shared : EachAt (λ n. n) a (IsShared image r) (nodes_met r)
  pub features : FitFeatures r a
