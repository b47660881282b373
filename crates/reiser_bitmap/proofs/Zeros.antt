-- Zero bytes have no bits.
use Rattle.reiser_bitmap.proofs.Imports.{[], ◌∷◌, zero, suc, ◌≤◌, bit_or, length, take, drop, ◌≡◌, ℕ, ◌+◌, ◌-◌, ◌*◌, ◌/◌, ◌%◌, ◌<◌, ◌==◌, false, List, get_or, refl, sym, ◌∙◌, ap, arith, subst, ⊎_elim, slice_index, bit_at, cases_lt, eqb-false, bit_at-zero, bit_at-lt, same_from_bits_below, le_or_l, le_or_r, get_or-take, get_or-drop, bit_of, AreZeros, HasNoBits}
use Rattle.std.proofs.Common.{length-take}
use Rattle.std.specs.Simd.Lanes.{fold_l}
use Rattle.std.specs.Int.Bits.{or_zero_l}

-- ---- the lanes of a word
-- what is left of lanes by "or" is 0 only where each lane is
or_zero : (a : ℕ) (xs : List ℕ) → fold_l bit_or a xs ≡ 0 → (a ≡ 0) × ((i : ℕ) → get_or xs i 0 ≡ 0)
or_zero a [] is = (is, λ i. refl)
or_zero a (x ∷ xs) is =
    let rest = or_zero (bit_or a x) xs is in
    let here : a ≡ 0 = omega (arith, le_or_l a x, rest.0) in
    let there : x ≡ 0 = omega (arith, le_or_r a x, rest.0) in
    (here, λ i. lane x xs there rest.1 i)
  where
    lane : (y : ℕ) (ys : List ℕ) → y ≡ 0 → ((i : ℕ) → get_or ys i 0 ≡ 0) → (i : ℕ) → get_or (y ∷ ys) i 0 ≡ 0
    lane y ys first others zero = first
    lane y ys first others (suc i) = others i

zero_or : (xs : List ℕ) → ((i : ℕ) → i < length xs → get_or xs i 0 ≡ 0) → fold_l bit_or 0 xs ≡ 0
zero_or [] each = refl
zero_or (x ∷ xs) each = ap (λ (a : ℕ). fold_l bit_or a xs) (or_zero_l x ∙ each 0 (omega arith)) ∙ zero_or xs (λ i h. each (suc i) (omega (arith, h)))

-- the n bytes from a place on, as lanes
lane_is : (bytes : List ℕ) (at i : ℕ) → i < 32 → get_or (take 32 (drop 0 (take (at + 32 - at) (drop at bytes)))) i 0 ≡ get_or bytes (at + i) 0
lane_is bytes at i inside =
    let width : at + 32 - at ≡ 32 = omega arith in
    get_or-take 32 (take (at + 32 - at) (drop at bytes)) i 0 inside
    ∙ ap (λ (n : ℕ). get_or (take n (drop at bytes)) i 0) width
    ∙ get_or-take 32 (drop at bytes) i 0 inside
    ∙ get_or-drop at bytes i 0

pub lanes_from_zeros : (bytes : List ℕ) (at : ℕ) → AreZeros bytes at 32 → fold_l bit_or 0 (take 32 (drop 0 (take (at + 32 - at) (drop at bytes)))) ≡ 0
lanes_from_zeros bytes at zeros = zero_or _ (λ i h.
    let short : length (take 32 (drop 0 (take (at + 32 - at) (drop at bytes)))) ≤ 32 = omega (arith, length-take 32 (take (at + 32 - at) (drop at bytes))) in
    let inside : i < 32 = omega (arith, short, h) in
    lane_is bytes at i inside ∙ zeros i inside)

pub zeros_from_lanes : (bytes : List ℕ) (at : ℕ) → fold_l bit_or 0 (take 32 (drop 0 (take (at + 32 - at) (drop at bytes)))) ≡ 0 → AreZeros bytes at 32
zeros_from_lanes bytes at is = λ i inside. sym (lane_is bytes at i inside) ∙ (or_zero 0 (take 32 (drop 0 (take (at + 32 - at) (drop at bytes)))) is).1 i

-- no bits in zeros
pub no_bits_from_zeros : (bytes : List ℕ) (at : ℕ) → AreZeros bytes at 32 → HasNoBits bytes (8 * at) 256
no_bits_from_zeros bytes at zeros = λ i h.
    let place : (8 * at + i) / 8 ≡ at + i / 8 = omega arith in
    let byte : slice_index bytes ((8 * at + i) / 8) ≡ 0 = ap (slice_index bytes) place ∙ zeros (i / 8) (omega arith) in
    rw (byte, bit_at-zero ((8 * at + i) % 8)) refl

-- a byte with no bits is zero
no_bits_byte : (x : ℕ) → x < 256 → ((i : ℕ) → i < 8 → (bit_at x i == 1) ≡ false) → x ≡ 0
no_bits_byte x small none =
    same_from_bits_below 8 x 0 small (omega arith) (λ i h.
    let off : bit_at x i ≡ 0 = omega (arith, bit_at-lt x i, eqb-false (bit_at x i) 1 (none i h)) in off ∙ sym (bit_at-zero i))

pub zeros_from_no_bits : (bytes : List ℕ) (at : ℕ) → ((i : ℕ) → get_or bytes i 0 < 256) → HasNoBits bytes (8 * at) 256 → AreZeros bytes at 32
zeros_from_no_bits bytes at small none = λ i h.
    no_bits_byte (slice_index bytes (at + i)) (small (at + i)) (λ k below.
    let is : 8 * at + (8 * i + k) ≡ 8 * (at + i) + k = omega arith in
    let place : (8 * at + (8 * i + k)) / 8 ≡ at + i = omega arith in
    let bit : (8 * at + (8 * i + k)) % 8 ≡ k = omega arith in
    let off : bit_of bytes (8 * at + (8 * i + k)) ≡ false = none (8 * i + k) (omega arith) in
    rw (place, bit) at off)
