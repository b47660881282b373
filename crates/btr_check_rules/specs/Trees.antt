-- Part 1: every tree is there, and its root item, its nodes and the superblock keep the rules of Linux. It fails at a
-- node, at the number of a tree where that has none, or at the address of the superblock.
use Rattle.std.specs.Prelude.{◌≡◌, ◌≢◌, ◌⊎◌, ◌≤◌, ◌<◌, ◌↔◌, ℕ, ◌+◌, ◌%◌, ◌==◌, ◌||◌, Bool, true, not, if◌then◌else◌, Option, Some, None, List, [], ◌∷◌, filter, All, Contains}
use Rattle.std.specs.List.{flat_map, list_all, list_any}
use Rattle.btr_reader_walk.specs.btrfs_format.declared.block.TheConstants.{SUPER_INFO_OFFSET}
use Rattle.btr_reader_walk.specs.btrfs_format.declared.flag.TheConstants.{BLOCK_GROUP_DUP, ROOT_SUBVOL_RDONLY}
use Rattle.btr_reader_walk.specs.btrfs_format.declared.key.TheConstants.{BLOCK_GROUP_ITEM, CHUNK_ITEM, DEV_EXTENT, DEV_ITEM, EXTENT_CSUM, EXTENT_ITEM, METADATA_ITEM, ROOT_BACKREF, ROOT_ITEM, ROOT_REF}
use Rattle.btr_reader_walk.specs.btrfs_format.declared.object.TheConstants.{CHUNK_TREE, CSUM_TREE, DATA_RELOC_TREE, DEV_TREE, EXTENT_TREE, FIRST_FREE_OBJECTID, FS_TREE, ROOT_TREE, TREE_RELOC}
use Rattle.btr_reader_walk.specs.btrfs_format.declared.size.TheConstants.{SYSTEM_CHUNK_SIZE}
use Rattle.btr_reader.specs.outside.History.{Image}
use Rattle.btr_reader.specs.refusals.declared.refusal.BtrRefusal.{BtrRefusal}
use Rattle.btr_reader.specs.refusals.declared.refusal.BtrRefusal.TheVariants.{BadBtrfs, LogPending, Unsupported}
use Rattle.btr_reader.specs.btr_node.Leaf.{Item}
use Rattle.btr_reader.specs.btr_reader_walk.Nodes.{is_file_tree as is_subvolume}
use Rattle.btr_reader.specs.Chunks.{is_chunk_key, placed_chunk, system_kind}
use Rattle.btr_reader.specs.Opening.{boot_chunks, boot_list, chunk_map, tree_of}
use Rattle.btr_reader.specs.btr_space_items.RootItem.{root_item_of}
use Rattle.btr_reader.specs.btr_space_items.declared.root_item.RootItem.{RootItem}
use Rattle.btr_reader.specs.btr_super.declared.superblock.Super.{Super}
use Rattle.btr_reader.specs.declared.chunk.ChunkAt.{ChunkAt}
use Rattle.btr_check_rules.specs.Nodes.{KeepsNodes}
use Rattle.btr_check_rules.specs.Recount.{Recount, TreeOn, EachAt, PairsAt, all_trees, file_trees, has_tree, holds_files, object_of, of_kind}
use Rattle.btr_check_rules.specs.RootFiles.{AreRootFiles}
use Rattle.btr_check_rules.specs.Walk.{walk_refusals}

-- ---- what every reader asks of trees

-- where something is wrong
abbrev pub refused_at : BtrRefusal → ℕ
refused_at (BadBtrfs address rule) = address
refused_at (LogPending address) = address
refused_at (Unsupported feature value) = SUPER_INFO_OFFSET

-- what is wrong with the nodes of a tree, and with the order of its keys
abbrev pub tree_faults : Image → Recount → TreeOn → List BtrRefusal
tree_faults image r t = walk_refusals image (chunk_map image r.super) (tree_of r.super t.number t.root)

abbrev pub IsSoundAt : Image → Recount → ℕ → TreeOn → Type 0
IsSoundAt image r a t = All (λ fault. refused_at fault ≢ a) (tree_faults image r t)

-- ---- the superblock

-- Its fields beside those that every reader looks at (btrfs_validate_super).
pub record KeepsSuper (s : Super) : Type 0 where
  pub flags : s.flags < 4
  pub roots : (s.root % 4096 ≡ 0) × (s.chunk_root % 4096 ≡ 0)
  pub sizes : (s.leafsize ≡ s.nodesize) × (s.stripesize ≡ 4096)
  pub array : SYSTEM_CHUNK_SIZE ≤ s.sys_chunk_array_size
  pub some : s.total_bytes ≢ 0
  pub generation : s.chunk_root_generation ≤ s.generation

abbrev pub is_system : ChunkAt → Bool
is_system c = (c.chunk.kind == system_kind) || (c.chunk.kind == system_kind + BLOCK_GROUP_DUP)

abbrev pub chunk_by : Option ChunkAt → List ChunkAt
chunk_by None = []
chunk_by (Some c) = c ∷ []

-- the system chunks of the chunk tree
abbrev pub system_chunks : List Item → List ChunkAt
system_chunks items = filter is_system (flat_map (λ i. chunk_by (placed_chunk i.0.offset i.1)) (filter (λ i. is_chunk_key i.0) items))

-- The bootstrap array has the system chunks as the chunk tree has them, and no others (btrfs_read_sys_array).
abbrev pub IsArray : Recount → Type 0
IsArray r = (c : ChunkAt) → Contains (boot_list (boot_chunks r.super)) c ↔ Contains (system_chunks r.chunk_tree.items) c

-- ---- trees

-- the trees without which Linux mounts no volume (btrfs_read_roots)
abbrev pub needed_trees : List ℕ
needed_trees = EXTENT_TREE ∷ (DEV_TREE ∷ (FS_TREE ∷ (CSUM_TREE ∷ (DATA_RELOC_TREE ∷ []))))

-- A root item, as the tree-checker (check_root_item) and `btrfs check` want it. Neither a removal of its tree nor a
-- balance is under way; Linux ends both when it mounts the volume.
pub record IsRootItem (s : Super) (i : Item) : Type 0 where
  pub root : RootItem
  pub root_is : root_item_of i.1 ≡ Some root
  pub generations : (root.generation ≤ s.generation) × (root.generation_v2 ≤ s.generation) × (root.last_snapshot ≤ s.generation)
  pub address : root.bytenr % 4096 ≡ 0
  pub level : root.level < 8
  pub flags : root.flags ≤ ROOT_SUBVOL_RDONLY
  pub whole : (root.drop_progress ≡ record { objectid = 0; kind = 0; offset = 0 }) × (root.drop_level ≡ 0)
  pub settled : i.0.objectid ≢ TREE_RELOC
  pub place : (i.0.offset ≡ 0) ⊎ (is_subvolume i.0.objectid ≡ true)
  pub files : holds_files i.0.objectid ≡ true → (root.refs ≡ 1) × (root.root_dirid ≡ FIRST_FREE_OBJECTID)

-- items of some kinds stand in one tree each (check_type_with_root of `btrfs check`)
abbrev pub own_kinds : List (ℕ × ℕ)
own_kinds =
    (CHUNK_ITEM, CHUNK_TREE)
    ∷ ((DEV_ITEM, CHUNK_TREE)
    ∷ ((EXTENT_ITEM, EXTENT_TREE)
    ∷ ((METADATA_ITEM, EXTENT_TREE)
    ∷ ((BLOCK_GROUP_ITEM, EXTENT_TREE)
    ∷ ((ROOT_ITEM, ROOT_TREE)
    ∷ ((DEV_EXTENT, DEV_TREE)
    ∷ ((EXTENT_CSUM, CSUM_TREE) ∷ [])))))))

abbrev pub has_own_tree : ℕ → Item → Bool
has_own_tree number i = list_all (λ own. not (i.0.kind == own.0) || (number == own.1)) own_kinds

-- A reference between two trees is told by a tree of files that is there (check_root_refs of `btrfs check`): a root ref by the tree
-- that it stands under, a root backref by the one that it names.
abbrev pub is_root_ref : Item → Bool
is_root_ref i = (i.0.kind == ROOT_REF) || (i.0.kind == ROOT_BACKREF)

abbrev pub referring : Item → ℕ
referring i = if i.0.kind == ROOT_REF then i.0.objectid else i.0.offset

-- ---- the part

-- What part 1 asks at an address or at a number.
pub record KeepsTrees (image : Image) (r : Recount) (a : ℕ) : Type 0 where
  pub sound : All (IsSoundAt image r a) (all_trees r)
  pub nodes : All (KeepsNodes image r a) (all_trees r)
  pub needed : All (λ number. number ≡ a → has_tree r number ≡ true) needed_trees
  pub root_items : EachAt object_of a (IsRootItem r.super) (of_kind ROOT_ITEM r.root_tree.items)
  -- a tree has one root item
  pub root_once : PairsAt object_of a (λ i j. i.0.objectid ≢ j.0.objectid) (of_kind ROOT_ITEM r.root_tree.items)
  pub root_refs : EachAt referring a (λ i. list_any (λ t. t.number == referring i) (file_trees r) ≡ true) (filter is_root_ref r.root_tree.items)
  pub kinds : EachAt (λ (t : TreeOn). t.number) a (λ t. All (λ i. has_own_tree t.number i ≡ true) t.items) (all_trees r)
  pub root_files : a ≡ ROOT_TREE → AreRootFiles r
  pub super : a ≡ SUPER_INFO_OFFSET → KeepsSuper r.super
  pub array : a ≡ SUPER_INFO_OFFSET → IsArray r
