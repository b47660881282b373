-- The checksums in the body of an item.
use Rattle.btr_check_sums.proofs.Imports.{◌≡◌, ◌≤◌, ◌<◌, ◌+◌, ◌-◌, ◌*◌, ◌/◌, ℕ, List, length, take, drop, ap, ◌∙◌, arith, length-take, length-drop, kind_width, SumKind}
use Rattle.btr_check_rules.specs.btr_reader.csum_kinds.declared.kind.SumKind.TheVariants.{Crc32c, Sha256}

-- checksum number k ends in the body
pub sum_within : (sums : SumKind) (size k : ℕ) → k < size / kind_width sums → kind_width sums * k + kind_width sums ≤ size
sum_within Crc32c size k low = omega (arith, low)
sum_within Sha256 size k low = omega (arith, low)

-- how many bytes it has
pub sum_length : (sums : SumKind) (body : List ℕ) (k : ℕ) → k < length body / kind_width sums → length (take (kind_width sums) (drop (kind_width sums * k) body)) ≡ kind_width sums
sum_length sums body k low = let within = sum_within sums (length body) k low in omega (arith, within, length-take (kind_width sums) (drop (kind_width sums * k) body), length-drop (kind_width sums * k) body)

-- the part of the body that is taken
pub part_is : (sums : SumKind) (body : List ℕ) (k width : ℕ) → width ≡ kind_width sums
    → take (width * k + width - width * k) (drop (width * k) body) ≡ take (kind_width sums) (drop (kind_width sums * k) body)
part_is sums body k width is =
    let long : width * k + width - width * k ≡ width = omega arith in
    ap (λ (n : ℕ). take n (drop (width * k) body)) long ∙ ap (λ (n : ℕ). take n (drop (n * k) body)) is
