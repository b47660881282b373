-- Part 10: where the superblock says that there is a free space tree, that tells of each block group which of its
-- blocks no extent takes. It fails at the address of a block group, of an item of the tree, or of the superblock.
use Rattle.std.specs.Prelude.{◌≡◌, ◌≤◌, ◌<◌, ℕ, ◌^◌, ◌==◌, Bool, true, not, bit_and, List, ◌++◌, All, Contains, length, map}
use Rattle.btr_reader_walk.specs.btrfs_format.declared.block.TheConstants.{SUPER_INFO_OFFSET}
use Rattle.btr_reader_walk.specs.btrfs_format.declared.feature.TheConstants.{FREE_SPACE_TREE as HAS_FREE_SPACE_TREE, FREE_SPACE_TREE_VALID}
use Rattle.btr_reader_walk.specs.btrfs_format.declared.key.TheConstants.{FREE_SPACE_INFO}
use Rattle.btr_reader_walk.specs.btrfs_format.declared.object.TheConstants.{FREE_SPACE_TREE}
use Rattle.btr_reader.specs.btr_node.Leaf.{Item}
use Rattle.btr_reader.specs.btr_super.declared.superblock.Super.{Super}
use Rattle.btr_reader.specs.declared.chunk.ChunkAt.{ChunkAt}
use Rattle.free_space.specs.Runs.{AreRanges, end_of, is_in, is_in_any}
use Rattle.free_space.specs.Told.{TellsGroup, told_range}
use Rattle.free_space.specs.Tree.{TellsFreeSpace}
use Rattle.free_space.specs.declared.range.Range.{Range}
use Rattle.btr_check_rules.specs.Recount.{Recount, EachAt, data_uses, has_tree, nodes_met, object_of, recounted_items}

abbrev pub chunk_range : ChunkAt → Range
chunk_range c = record { address = c.logical; length = c.chunk.length }

-- what extents take: nodes and data
abbrev pub taken_ranges : Recount → List Range
taken_ranges r = map (λ n. record { address = n; length = r.super.nodesize }) (nodes_met r) ++ map (λ u. record { address = u.start; length = u.length }) (data_uses r)

abbrev pub space_items : Recount → List Item
space_items r = recounted_items r FREE_SPACE_TREE

-- the superblock has a feature of which only those have to know that write (compat_ro)
abbrev pub has_ro_feature : Super → ℕ → Bool
has_ro_feature s bit = not (bit_and s.compat_ro bit == 0)

-- ---- the part

-- An item begins in the range of a block group's item, and before the last block group ends ("Failed to find a space
-- info key", "a space info key for a block group that doesn't exist" of `btrfs check`).
pub record IsInRange (r : Recount) (i : Item) : Type 0 where
  pub range : (j : Item) × Contains (space_items r) j × (j.0.kind ≡ FREE_SPACE_INFO) × (is_in i.0.objectid (told_range j) ≡ true)
  pub before : (c : ChunkAt) × Contains r.chunks c × (i.0.objectid < end_of (chunk_range c))

-- The tree is there and valid: Linux makes it anew otherwise. It tells of each block group what Linux loads
-- (load_free_space_tree) and what extents leave free ("cache appears valid but isn't" of `btrfs check`). What it tells
-- of ranges that meet no block group is let be: `mkfs.btrfs` leaves such.
pub record KeepsSpaceTree (r : Recount) (a : ℕ) : Type 0 where
  pub valid : a ≡ SUPER_INFO_OFFSET → has_ro_feature r.super FREE_SPACE_TREE_VALID ≡ true
  pub there : a ≡ SUPER_INFO_OFFSET → has_tree r FREE_SPACE_TREE ≡ true
  pub items : EachAt object_of a (IsInRange r) (space_items r)
  pub groups : EachAt (λ (c : ChunkAt). c.logical) a (λ c. TellsGroup (taken_ranges r) (space_items r) (chunk_range c)) r.chunks

-- What part 10 asks.
abbrev pub KeepsFreeSpace : Recount → ℕ → Type 0
KeepsFreeSpace r a = has_ro_feature r.super HAS_FREE_SPACE_TREE ≡ true → KeepsSpaceTree r a

-- ---- what is written

-- These block groups are the chunks of the recount, and its extents take what is in use.
pub record AreRecounted (r : Recount) (groups used : List Range) : Type 0 where
  pub apart : AreRanges groups
  pub chunks : All (λ c. Contains groups (chunk_range c)) r.chunks
  pub groups_ : All (λ g. (c : ChunkAt) × Contains r.chunks c × (g ≡ chunk_range c)) groups
  pub taken : (a : ℕ) → is_in_any used a ≡ is_in_any (taken_ranges r) a

-- Part 10 holds where the tree has the items that tell the free space of these.
abbrev pub WrittenFreeSpaceIsKept : Type 0
WrittenFreeSpaceIsKept =
    (r : Recount) (groups used : List Range) → has_ro_feature r.super FREE_SPACE_TREE_VALID ≡ true → has_tree r FREE_SPACE_TREE ≡ true
    → AreRecounted r groups used → TellsFreeSpace groups used (space_items r) → length (space_items r) ≤ 2 ^ 32 → (a : ℕ) → KeepsFreeSpace r a
