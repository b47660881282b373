-- How long checksums are.
use Rattle.std.proofs.Common.{◌≡◌, ◌≤◌, ℕ, List, length, take, refl, arith}
use Rattle.std.proofs.lemmas.List.{length-take-le}
use Rattle.sha2.proofs.Facts256.{length-sha256}
use Rattle.csum_kinds.specs.declared.kind.SumKind.{SumKind}
use Rattle.csum_kinds.specs.declared.kind.SumKind.TheVariants.{Crc32c, Sha256}
use Rattle.csum_kinds.specs.Kind.{kind_sum, kind_width}

-- the field of a checksum has 32 bytes, of each kind
pub length-kind_sum : (sums : SumKind) (bytes : List ℕ) → length (kind_sum sums bytes) ≡ 32
unfolding kind_sum
length-kind_sum Crc32c bytes = refl
length-kind_sum Sha256 bytes = length-sha256 bytes

pub kind_width-le : (sums : SumKind) → kind_width sums ≤ 32
kind_width-le Crc32c = omega arith
kind_width-le Sha256 = omega arith

-- the sum itself
pub length-sum : (sums : SumKind) (bytes : List ℕ) → length (take (kind_width sums) (kind_sum sums bytes)) ≡ kind_width sums
length-sum sums bytes =
    let long = length-kind_sum sums bytes in
    let width = kind_width-le sums in
    length-take-le (kind_width sums) (kind_sum sums bytes) (omega (arith, long, width))
