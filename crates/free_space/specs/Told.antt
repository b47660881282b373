-- What tells of a block group which of its blocks are free, as Linux reads it (load_free_space_tree): the group's item,
-- and up to the next such item ranges or bitmaps.
use Rattle.std.specs.Prelude.{◌≡◌, ◌≢◌, ◌⊎◌, ℕ, ◌+◌, ◌-◌, ◌/◌, ◌%◌, ◌==◌, nat_le, nat_lt, Bool, false, ◌&&◌, ◌||◌, List, [], ◌∷◌, ◌++◌, All, Some, length, map, slice_index}
use Rattle.std.specs.Int.{bit_at}
use Rattle.std.specs.List.{list_any}
use Rattle.btr_node.specs.btrfs_format.declared.key.TheConstants.{FREE_SPACE_BITMAP, FREE_SPACE_INFO}
use Rattle.btr_node.specs.btr_keys.Key.{make_key}
use Rattle.btr_node.specs.Leaf.{Item}
use Rattle.free_space.specs.Info.{free_info_of}
use Rattle.free_space.specs.Runs.{AreFreeRuns, end_of, is_in, is_in_any}
use Rattle.free_space.specs.Tree.{run_item}
use Rattle.free_space.specs.declared.range.Range.{Range}

-- the range that an item speaks of
abbrev pub told_range : Item → Range
told_range i = record { address = i.0.objectid; length = i.0.offset }

-- ---- bitmaps

-- a bitmap has a bit for each block of its range
pub record IsBitmap (i : Item) : Type 0 where
  pub kind : i.0.kind ≡ FREE_SPACE_BITMAP
  pub blocks : (i.0.offset % 4096 ≡ 0) × (i.0.offset ≢ 0)
  pub size : length i.1 ≡ (i.0.offset / 4096 + 7) / 8

-- bit b of some bytes is 1, the low bit of each byte first
abbrev pub has_bit : List ℕ → ℕ → Bool
has_bit body b = bit_at (slice_index body (b / 8)) (b % 8) == 1

-- a bitmap tells that the block of an address is free
abbrev pub marks : ℕ → Item → Bool
marks a i = is_in a (told_range i) && has_bit i.1 ((a - i.0.objectid) / 4096)

-- The ranges follow one another from an address to an end. Linux counts on it: it looks for the bit of any block that
-- it takes (free_space_test_bit), and reads a gap as the block before it (load_free_space_bitmaps).
abbrev pub Follow : ℕ → ℕ → List Item → Type 0
Follow at end [] = at ≡ end
Follow at end (i ∷ items) = (i.0.objectid ≡ at) × Follow (at + i.0.offset) end items

-- Bitmaps cover a block group, and mark the blocks of these runs.
pub record AreBitmaps (g : Range) (runs : List Range) (told : List Item) : Type 0 where
  pub each : All IsBitmap told
  pub follow : Follow g.address (end_of g) told
  pub exact : (a : ℕ) → list_any (marks a) told ≡ is_in_any runs a

-- ---- a block group

-- The flags of a block group say how its free runs are told: each by an item, or by bitmaps. Runs that are told by
-- items are not side by side ("is unmerged with previous" of `btrfs check`).
abbrev pub TellRuns : ℕ → Range → List Range → List Item → Type 0
TellRuns flags g runs told = ((flags ≡ 0) × (told ≡ map run_item runs)) ⊎ ((flags ≡ 1) × AreBitmaps g runs told)

-- an item begins in a block group, or its range reaches into it
abbrev pub meets : Range → Item → Bool
meets g i = nat_lt i.0.objectid (end_of g) && (nat_le g.address i.0.objectid || nat_lt g.address (end_of (told_range i)))

-- at the item of another block group, or behind the last one
abbrev pub IsAtInfo : List Item → Type 0
IsAtInfo [] = Unit {0}
IsAtInfo (i ∷ items) = i.0.kind ≡ FREE_SPACE_INFO

-- Among the items is that of the block group, with the number of its free runs. What follows tells these runs, and no
-- other item meets the block group.
pub record TellsGroup (used : List Range) (items : List Item) (g : Range) : Type 0 where
  pub before : List Item
  pub body : List ℕ
  pub told : List Item
  pub after : List Item
  pub items_are : items ≡ before ++ ((make_key g.address FREE_SPACE_INFO g.length, body) ∷ (told ++ after))
  pub at_info : IsAtInfo after
  pub apart : All (λ i. meets g i ≡ false) before × All (λ i. meets g i ≡ false) after
  pub runs : List Range
  pub are_runs : AreFreeRuns used g runs
  pub flags : ℕ
  pub info_is : free_info_of body ≡ Some (record { count = length runs; flags = flags })
  pub tells : TellRuns flags g runs told
