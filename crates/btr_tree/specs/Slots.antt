-- Slots for nodes, by logical addresses and by offsets on the device.
use Rattle.std.specs.Prelude.{ℕ, List, Option, Some, None}

pub record SlotLists : Type 0 where
  pub addresses : List ℕ
  pub offsets : List ℕ

-- the offsets that are told, or else the addresses
abbrev pub offsets_or : Option (List ℕ) → List ℕ → List ℕ
offsets_or None addresses = addresses
offsets_or (Some offsets) addresses = offsets
