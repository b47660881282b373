-- The addresses of nodes whose extents are full.
use Rattle.std.specs.Prelude.{◌≡◌, ℕ, ◌==◌, ◌&&◌, List, filter, map}
use Rattle.std.specs.List.{list_any}
use Rattle.btr_check_rules.specs.Extents.{Extent, is_full}

-- those of some extents, in their order
abbrev pub full_starts : List Extent → List ℕ
full_starts extents = map (λ (e : Extent). e.start) (filter is_full extents)

-- a list has those of some extents, in any order
abbrev pub AreFullNodes : List Extent → List ℕ → Type 0
AreFullNodes extents addresses = (a : ℕ) → list_any (λ b. b == a) addresses ≡ list_any (λ (e : Extent). (e.start == a) && is_full e) extents
