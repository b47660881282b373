-- Items of the checksum tree, in their order.
use Rattle.std.specs.Prelude.{◌≡◌, ◌≤◌, ◌<◌, ℕ, ◌*◌, ◌/◌, ◌%◌, ◌^◌, ◌==◌, nat_le, Bool, ◌&&◌, List, length, All, AllPairs}
use Rattle.std.specs.List.{list_any}
use Rattle.btr_reader_walk.specs.btrfs_format.declared.key.TheConstants.{EXTENT_CSUM}
use Rattle.btr_reader_walk.specs.btrfs_format.declared.object.TheConstants.{EXTENT_CSUM_OBJECTID}
use Rattle.btr_check_rules.specs.Recount.{EachAt, PairsAt}
use Rattle.btr_check_rules.specs.Sound.{Checksums, part_number}
use Rattle.btr_check_rules.specs.Sums.{IsSumItem, most_sums, sum_count, sum_end}
use Rattle.btr_check_rules.specs.btr_reader.btr_keys.declared.key.Key.{Key}
use Rattle.btr_check_rules.specs.btr_reader.btr_node.Leaf.{Item}
use Rattle.btr_check_rules.specs.btr_reader.csum_kinds.Kind.{kind_width}
use Rattle.btr_check_rules.specs.btr_reader.csum_kinds.declared.kind.SumKind.{SumKind}
use Rattle.btr_check_sums.specs.Blocks.{has_block}
use Rattle.btr_check_rules.specs.declared.span.Span.{Span}

-- the range of the blocks that an item has checksums of
abbrev pub sum_span : SumKind → Item → Span
sum_span sums i = record { start = i.0.offset; length = 4096 * sum_count sums i }

-- whether an item has its form: its key, and whole checksums, at least one and not too many
abbrev pub is_sum_key : Key → Bool
is_sum_key key = (key.objectid == EXTENT_CSUM_OBJECTID) && ((key.kind == EXTENT_CSUM) && (key.offset % 4096 == 0))

abbrev pub fits_count : ℕ → SumKind → ℕ → Bool
fits_count nodesize sums count = nat_le 1 count && nat_le count (most_sums nodesize sums)

abbrev pub has_whole_sums : ℕ → SumKind → List ℕ → Bool
has_whole_sums nodesize sums body = (length body % kind_width sums == 0) && fits_count nodesize sums (length body / kind_width sums)

abbrev pub is_sum_item : ℕ → SumKind → Item → Bool
is_sum_item nodesize sums i = is_sum_key i.0 && has_whole_sums nodesize sums i.1

-- a block has a checksum in one of these items
abbrev pub is_covered : SumKind → List Item → ℕ → Bool
is_covered sums items n = list_any (λ i. has_block (sum_span sums i) n) items

-- an item ends before another begins
abbrev pub EndsBefore : SumKind → Item → Item → Type 0
EndsBefore sums i j = sum_end sums i ≤ j.0.offset

-- the rules of single items, and of two of them, at an address
abbrev pub AreSumItemsAt : ℕ → SumKind → ℕ → List Item → Type 0
AreSumItemsAt nodesize sums a items = EachAt (λ (i : Item). i.0.offset) a (IsSumItem nodesize sums) items × PairsAt (λ (i : Item). i.0.offset) a (EndsBefore sums) items

-- each item has its form, and ends before the next one; its number is one of 64 bits
pub record AreSumItems (nodesize : ℕ) (sums : SumKind) (items : List Item) : Type 0 where
  pub forms : All (IsSumItem nodesize sums) items
  pub apart : AllPairs (EndsBefore sums) items
  pub low : All (λ i. i.0.offset < 2 ^ 64) items

-- part 5 fails there by these items
abbrev pub BreaksSumItems : ℕ → SumKind → List Item → ℕ → ℕ → Type 0
BreaksSumItems nodesize sums items part a = (part ≡ part_number Checksums) × ¬ AreSumItemsAt nodesize sums a items
