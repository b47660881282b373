-- What is written is read again.
use Rattle.std.specs.Prelude.{◌≡◌, ℕ, ◌*◌, ◌^◌, ◌<◌, List, [], length, Some, Ok}
use Rattle.csum_kinds.specs.declared.kind.SumKind.{SumKind}
use Rattle.btr_super.specs.declared.superblock.Super.{Super}
use Rattle.btr_super.specs.Sums.{known_kind}
use Rattle.btr_super.specs.Super.{super_layout, super_bytes, mirror_bytes}
use Rattle.btr_super.specs.Rules.{field_rules, failing, super_of}

-- A superblock whose fields keep the rules of a place on a device reads back from its block at that place.
abbrev pub SupersReadBack : Type 0
SupersReadBack =
    (s : Super) (kind : SumKind) (place device : ℕ) → super_layout.fits s → known_kind s.csum_type ≡ Some kind → place < device → failing (field_rules s place device) ≡ []
    → super_of (super_bytes s) place device ≡ Ok s

-- The copy of a superblock that is read somewhere reads at its own place on the same device as the same superblock, with
-- its own address.
abbrev pub MirrorsRead : Type 0
MirrorsRead =
    (block : List ℕ) (s : Super) (place device to : ℕ) → length block ≡ 4096 → super_of block place device ≡ Ok s → to < 2 ^ 52 → to < device
    → super_of (mirror_bytes to block) to device ≡ Ok (record s { bytenr = 4096 * to })
