-- What is known of nodes that were met, by the blocks where they begin.
use Rattle.std.specs.Prelude.{◌≡◌, ◌≤◌, ℕ, ◌+◌, ◌-◌, ◌/◌, ◌^◌, min, nat_le, nat_lt, Bool, false, not, ◌&&◌, if◌then◌else◌, List, [], ◌∷◌, map, slice_index_or, Option, Some, None, All, AllPairs}
use Rattle.std.specs.List.{list_any}
use Rattle.std.specs.Option.{option_map}
use Rattle.btr_check_rules.specs.declared.span.Span.{Span}
use Rattle.btr_check_references.specs.declared.node_state.NodeRange.{NodeRange}
use Rattle.btr_check_references.specs.declared.node_state.NodeState.{NodeState}
use Rattle.btr_check_references.specs.declared.node_state.NodeState.TheVariants.{Unmet, Met}

-- ---- blocks that may hold nodes

-- The blocks of a range of addresses, of those that addresses of 64 bits have.
abbrev pub first_block : Span → ℕ
first_block span = span.start / 4096

abbrev pub block_count : Span → ℕ
block_count span = min (span.length / 4096) (2 ^ 52 - span.start / 4096)

abbrev pub has_block : ℕ → Span → Bool
has_block b span = nat_le (first_block span) b && nat_lt (b - first_block span) (block_count span)

-- what is known of a block at first
abbrev pub first_state : List Span → ℕ → Option NodeState
first_state spans b = if list_any (has_block b) spans then Some Unmet else None

-- a node that was not met in the tree of its owner
abbrev pub is_unowned : NodeState → Bool
is_unowned Unmet = false
is_unowned (Met level owned) = not owned

-- no node begins at the block that was not met there
abbrev pub IsOwned : Option NodeState → Type 0
IsOwned state = (s : NodeState) → state ≡ Some s → is_unowned s ≡ false

-- ---- states

abbrev pub holds_block : ℕ → NodeRange → Bool
holds_block b r = nat_le r.first b && nat_lt (b - r.first) r.count

-- where the state of a block stands
abbrev pub slot_in : List NodeRange → ℕ → Option ℕ
slot_in [] b = None
slot_in (r ∷ rs) b = if holds_block b r then Some (r.slot + (b - r.first)) else slot_in rs b

abbrev pub state_in : List NodeRange → List NodeState → ℕ → Option NodeState
state_in ranges states b = option_map (λ k. slice_index_or states k Unmet) (slot_in ranges b)

abbrev pub IsRangeBefore : NodeRange → NodeRange → Type 0
IsRangeBefore r s = r.first + r.count ≤ s.first

-- the ranges ascend, and the states of one stand before those of the next, among so many
pub record AreNodeRanges (ranges : List NodeRange) (total : ℕ) : Type 0 where
  pub apart : AllPairs IsRangeBefore ranges
  pub slots : AllPairs (λ r s. r.slot + r.count ≤ s.slot) ranges
  pub inside : All (λ r. r.slot + r.count ≤ total) ranges
  pub low : All (λ r. r.first + r.count ≤ 2 ^ 52) ranges

-- they are those of ranges of addresses
abbrev pub span_blocks : Span → ℕ × ℕ
span_blocks span = (first_block span, block_count span)

abbrev pub range_blocks : NodeRange → ℕ × ℕ
range_blocks r = (r.first, r.count)

pub record AreRangesOf (spans : List Span) (ranges : List NodeRange) (total : ℕ) : Type 0 where
  pub blocks : map range_blocks ranges ≡ map span_blocks spans
  pub slots : AllPairs (λ r s. r.slot + r.count ≤ s.slot) ranges
  pub inside : All (λ r. r.slot + r.count ≤ total) ranges
  pub low : All (λ r. r.first + r.count ≤ 2 ^ 52) ranges
