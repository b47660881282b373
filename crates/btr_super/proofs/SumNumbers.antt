-- The kinds of checksums by their numbers.
use Rattle.btr_super.proofs.Imports.{◌≡◌, ◌<◌, ◌^◌, Some, refl, arith, SumKind, known_kind, csum_number}
use Rattle.csum_kinds.specs.declared.kind.SumKind.TheVariants.{Crc32c, Sha256}

-- the number of a kind names it
pub known-number : (kind : SumKind) → known_kind (csum_number kind) ≡ Some kind
known-number Crc32c = refl
known-number Sha256 = refl

pub number-small : (kind : SumKind) → csum_number kind < 2 ^ 16
number-small Crc32c = omega arith
number-small Sha256 = omega arith
