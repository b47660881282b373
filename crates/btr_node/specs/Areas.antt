-- Where the data of a leaf's items lies.
use Rattle.std.specs.Prelude.{ℕ, ◌+◌, ◌≤◌, ◌<◌, ◌==◌, nat_le, Bool, true, ◌&&◌, ◌||◌, List, [], ◌∷◌}
use Rattle.std.specs.List.{All, AllPairs, list_all}
use Rattle.btr_node.specs.declared.item.BtrItemHead.{BtrItemHead}

-- behind the heads, which end at `low`, and in the node, which ends at `high`
pub record IsWithin (low high : ℕ) (head : BtrItemHead) : Type 0 where
  pub begins : low ≤ head.offset
  pub ends : head.offset + head.size ≤ high

-- the byte at a place belongs to the item
abbrev pub Covers : BtrItemHead → ℕ → Type 0
Covers head place = (head.offset ≤ place) × (place < head.offset + head.size)

-- no byte belongs to both
abbrev pub AreBodiesApart : BtrItemHead → BtrItemHead → Type 0
AreBodiesApart a b = (place : ℕ) → Covers a place → Covers b place → ⊥

-- each item's data lies there, and no two share a byte
pub record HasAreas (low high : ℕ) (heads : List BtrItemHead) : Type 0 where
  pub within : All (IsWithin low high) heads
  pub apart : AllPairs AreBodiesApart heads

-- The same as tests.
abbrev pub is_within : ℕ → ℕ → BtrItemHead → Bool
is_within low high head = nat_le low head.offset && nat_le (head.offset + head.size) high

abbrev pub are_apart : BtrItemHead → BtrItemHead → Bool
are_apart a b = (a.size == 0) || ((b.size == 0) || (nat_le (a.offset + a.size) b.offset || nat_le (b.offset + b.size) a.offset))

abbrev pub all_apart : List BtrItemHead → Bool
all_apart [] = true
all_apart (head ∷ heads) = list_all (are_apart head) heads && all_apart heads

abbrev pub has_areas : ℕ → ℕ → List BtrItemHead → Bool
has_areas low high heads = list_all (is_within low high) heads && all_apart heads

-- The usual case: each item's data ends at or below the beginning of the one before, and the first one's at or below
-- the end.
abbrev pub descends : ℕ → ℕ → List BtrItemHead → Bool
descends low end [] = true
descends low end (head ∷ heads) = is_within low end head && descends low head.offset heads
