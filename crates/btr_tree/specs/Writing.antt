-- The blocks of nodes.
use Rattle.std.specs.Prelude.{◌≡◌, ℕ, ◌+◌, ◌*◌, ◌/◌, ◌≤◌, ◌<◌, List, take, drop, Any}
use Rattle.btr_node.specs.outside.History.{Image, block_at}

-- a block of the node of so many bytes at an offset of the device
abbrev pub IsInNode : ℕ → ℕ → ℕ → Type 0
IsInNode size offset b = (offset / 4096 ≤ b) × (b < offset / 4096 + size / 4096)

-- a block of a node at one of the offsets
abbrev pub IsInSlots : ℕ → List ℕ → ℕ → Type 0
IsInSlots size offsets b = Any (λ offset. IsInNode size offset b) offsets

-- the first n blocks from a number on hold these bytes
abbrev pub HoldBytes : Image → ℕ → ℕ → List ℕ → Type 0
HoldBytes image first n bytes = (j : ℕ) → j < n → block_at image (first + j) ≡ take 4096 (drop (4096 * j) bytes)
