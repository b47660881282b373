-- Reserved blocks under bytes of the device.
use Rattle.std.specs.Prelude.{◌≤◌, ◌<◌, ℕ, ◌+◌, ◌/◌, List, Contains}
use Rattle.btr_check_rules.specs.btr_reader.btr_space_items.declared.stripe.Stripe.{Stripe}
use Rattle.btr_check_rules.specs.btr_reader.vol_block.Volume.{IsReserved}

-- one of the blocks from one to another is reserved, on a volume of so many blocks
abbrev pub HasReserved : ℕ → ℕ → ℕ → Type 0
HasReserved first last blocks = (block : ℕ) × (first ≤ block) × (block ≤ last) × IsReserved block blocks

-- one of so many bytes lies in a reserved block
abbrev pub TouchesReserved : ℕ → ℕ → ℕ → Type 0
TouchesReserved start length blocks = (p : ℕ) × (start ≤ p) × (p < start + length) × IsReserved (p / 4096) blocks

-- the same of so many bytes that lie a way behind the begin of one of these stripes
abbrev pub CopyTouches : List Stripe → ℕ → ℕ → ℕ → Type 0
CopyTouches stripes behind length blocks = (s : Stripe) × Contains stripes s × TouchesReserved (s.offset + behind) length blocks
