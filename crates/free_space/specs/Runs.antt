-- Free runs: what used ranges leave of a range of addresses.
use Rattle.std.specs.Prelude.{◌≡◌, ◌≤◌, ◌<◌, ℕ, ◌+◌, nat_le, nat_lt, Bool, not, ◌&&◌, List, All, AllPairs}
use Rattle.std.specs.List.{list_any}
use Rattle.free_space.specs.declared.range.Range.{Range}

-- the first address behind a range
abbrev pub end_of : Range → ℕ
end_of r = r.address + r.length

abbrev pub is_in : ℕ → Range → Bool
is_in a r = nat_le r.address a && nat_lt a (end_of r)

-- one of the ranges has the address
abbrev pub is_in_any : List Range → ℕ → Bool
is_in_any ranges a = list_any (is_in a) ranges

-- Ranges that are not empty, ascend and do not overlap.
pub record AreRanges (ranges : List Range) : Type 0 where
  pub some : All (λ r. 1 ≤ r.length) ranges
  pub ascending : AllPairs (λ r s. end_of r ≤ s.address) ranges

-- The maximal runs of addresses of a range that no used range has, ascending: they hold exactly the free addresses,
-- none is empty, and an address in use lies between two of them. Where all ranges are multiples of a block, these are
-- runs of blocks.
pub record AreFreeRuns (used : List Range) (within : Range) (runs : List Range) : Type 0 where
  pub exact : (a : ℕ) → is_in_any runs a ≡ (is_in a within && not (is_in_any used a))
  pub some : All (λ r. 1 ≤ r.length) runs
  pub apart : AllPairs (λ r s. end_of r < s.address) runs
