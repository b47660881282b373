-- Bodies of indirect items, as ReiserFS has them: block numbers of 32 bits, 0 for a hole.
use Rattle.std.specs.Prelude.{ℕ, zero, suc, ◌+◌, ◌/◌, ◌%◌, ◌==◌, List, [], ◌∷◌, length, Option, Some, None, if◌then◌else◌}
use Rattle.reiser_node.specs.vol_block.Volume.{field}

-- n numbers of 32 bits, from a place on
abbrev pub numbers_at : List ℕ → ℕ → ℕ → List ℕ
numbers_at bytes at zero = []
numbers_at bytes at (suc n) = field 4 bytes at ∷ numbers_at bytes (at + 4) n

-- the whole pointers of a body
abbrev pub pointers : List ℕ → List ℕ
pointers body = numbers_at body 0 (length body / 4)

-- the pointers that are the whole body
abbrev pub pointers_of : List ℕ → Option (List ℕ)
pointers_of body = if length body % 4 == 0 then Some (pointers body) else None
