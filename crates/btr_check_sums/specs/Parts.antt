-- Part 5 over what a check has of a volume: the sets of blocks that its files use, and the checksum tree.
use Rattle.std.specs.Prelude.{◌≡◌, ◌⊎◌, ◌↔◌, ◌≤◌, ◌<◌, ℕ, ◌+◌, ◌*◌, ◌^◌, true, false, List, map, All, Contains}
use Rattle.number_runs.specs.Runs.{is_among}
use Rattle.btr_check_rules.specs.Inodes.{has_no_sums}
use Rattle.btr_check_rules.specs.Recount.{DataUse, Recount, data_uses, is_within, map_of, span_of}
use Rattle.btr_check_rules.specs.Sound.{Checksums, part_number}
use Rattle.btr_check_rules.specs.Sums.{IsReadBy, IsWrittenTo, KeepsSums, read_span, sum_items, sums_of}
use Rattle.btr_check_rules.specs.Walk.{owners_of, walked_items}
use Rattle.btr_check_rules.specs.btr_reader.btr_keys.declared.inode.Inode.{Inode}
use Rattle.btr_check_rules.specs.btr_reader.btr_reader_walk.Tree.{bare_item}
use Rattle.btr_check_rules.specs.btr_reader.btr_reader_walk.declared.map.MapRange.{MapRange}
use Rattle.btr_check_rules.specs.btr_reader.btr_reader_walk.declared.tree.Owners.TheVariants.{Own}
use Rattle.btr_check_rules.specs.btr_reader.btr_reader_walk.declared.tree.Tree.{Tree}
use Rattle.btr_check_rules.specs.btr_reader.outside.History.{Image}
use Rattle.btr_check_sums.specs.declared.use_of_data.UsedBlocks.{UsedBlocks}

-- ---- the blocks that files use

-- the block at an address is data, needs a checksum, or may have none
abbrev pub IsDataAt : Recount → ℕ → Type 0
IsDataAt r a = (u : DataUse) × Contains (data_uses r) u × (is_within (span_of u) a ≡ true)

abbrev pub NeedsSum : Recount → ℕ → Type 0
NeedsSum r a = (u : DataUse) × (inode : Inode) × IsReadBy r a u inode × (u.written ≡ true) × (has_no_sums inode ≡ false)

abbrev pub ForbidsSum : Recount → ℕ → Type 0
ForbidsSum r a =
    (u : DataUse) × (inode : Inode) × IsReadBy r a u inode
    × (((u.written ≡ true) × (has_no_sums inode ≡ true)) ⊎ ((u.written ≡ false) × ¬ IsWrittenTo r u.start))

-- the sets have these blocks, each whose address has 64 bits
pub record AreUsedBlocks (r : Recount) (used : UsedBlocks) : Type 0 where
  pub data_are : (n : ℕ) → (is_among used.data n ≡ true) ↔ ((n < 2 ^ 52) × IsDataAt r (4096 * n))
  pub wanted_are : (n : ℕ) → (is_among used.wanted n ≡ true) ↔ ((n < 2 ^ 52) × NeedsSum r (4096 * n))
  pub bare_are : (n : ℕ) → (is_among used.bare n ≡ true) ↔ ((n < 2 ^ 52) × ForbidsSum r (4096 * n))

-- ---- the volume

-- Chunks end at 2^64, data ends a block before that, and so does what is read of it.
pub record EndsLow (r : Recount) : Type 0 where
  pub ranges : All (λ g. g.logical + g.length ≤ 2 ^ 64) (map_of r)
  pub data_ends : (u : DataUse) → Contains (data_uses r) u → u.start + u.length + 4096 ≤ 2 ^ 64
  pub read_ends : (u : DataUse) → Contains (data_uses r) u → (read_span u).start + (read_span u).length ≤ 2 ^ 64

-- this tree is the checksum tree of the volume, which has this map of addresses
pub record IsSumTree (image : Image) (r : Recount) (ranges : List MapRange) (tree : Tree) : Type 0 where
  pub map_is : map_of r ≡ ranges
  pub items_are : sum_items r ≡ map bare_item (walked_items image ranges tree)
  pub sums_are : sums_of r ≡ tree.form.sums
  pub nodesize_is : r.super.nodesize ≡ tree.form.nodesize
  pub own : owners_of tree.owner ≡ Own

-- part 5 fails at an address
abbrev pub BreaksPart : Image → Recount → ℕ → ℕ → Type 0
BreaksPart image r part a = (part ≡ part_number Checksums) × ¬ KeepsSums image r a
