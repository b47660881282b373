-- Bits of bytes under a test and a write of one.
use Rattle.reiser_bitmap.proofs.Imports.{◌≡◌, ◌≢◌, ℕ, zero, suc, ◌*◌, ◌/◌, ◌%◌, ◌^◌, ◌<◌, ◌≤◌, ◌==◌, true, false, not, nat_eq, List, length, replicate, set, get_or, bit_and, bit_or, refl, sym, ◌∙◌, arith, ⊎_elim, subst, [], ◌∷◌, bit_at, w8, and_pow, bit_at-lt, bit_at-zero, bit_at_set_same, bit_at_set_other, ext_get_or, get_or-replicate, length-replicate, length-set, get_or-set_same, get_or-set_other, zero-mul, pow-suc, get_or-map-range_with_len, length-map-range_with_len, nat_tests, eqb_tells, bit_of, bits, has}
use Rattle.std.proofs.Common.{slice_index}

pub length-bits : (n : ℕ) (bytes : List ℕ) → length (bits n bytes) ≡ n
length-bits n bytes = length-map-range_with_len (bit_of bytes) 0 n

pub has-bits : (n : ℕ) (bytes : List ℕ) (b : ℕ) → b < n → has (bits n bytes) b ≡ bit_of bytes b
has-bits n bytes b h = get_or-map-range_with_len (bit_of bytes) 0 n b b false h (omega arith)

pub mask : (k : ℕ) → k < 8 → 1 * 2 ^ k % 256 ≡ 2 ^ k
mask zero h = refl
mask (suc zero) h = refl
mask (suc (suc zero)) h = refl
mask (suc (suc (suc zero))) h = refl
mask (suc (suc (suc (suc zero)))) h = refl
mask (suc (suc (suc (suc (suc zero))))) h = refl
mask (suc (suc (suc (suc (suc (suc zero)))))) h = refl
mask (suc (suc (suc (suc (suc (suc (suc zero))))))) h = refl
mask (suc (suc (suc (suc (suc (suc (suc (suc k)))))))) h = absurd (omega arith)

positive : (k : ℕ) → 0 < 2 ^ k
positive zero = omega arith
positive (suc k) = rw pow-suc (omega (arith, positive k))

times : (b y : ℕ) → b < 2 → 0 < y → not (nat_eq (b * y) 0) ≡ (b == 1)
times zero y h p = rw zero-mul refl
times (suc zero) y h p = let e : 1 * y ≡ y = omega arith in rw e (grind (arith, nat_tests))
times (suc (suc b)) y h p = absurd (omega arith)

pub has_bit : (x k : ℕ) → k < 8 → not (nat_eq (bit_and x (1 * 2 ^ k % 256)) 0) ≡ (bit_at x k == 1)
has_bit x k h = rw (mask k h, and_pow x k) (times (bit_at x k) (2 ^ k) (bit_at-lt x k) (positive k))

zero_at : (m i : ℕ) → slice_index (replicate m 0) i ≡ 0
zero_at zero i = refl
zero_at (suc m) zero = refl
zero_at (suc m) (suc i) = zero_at m i

no_bit : (m b : ℕ) → bit_of (replicate m 0) b ≡ false
no_bit m b = rw (zero_at m (b / 8), bit_at-zero (b % 8)) refl

pub no_bits : (n m : ℕ) → bits n (replicate m 0) ≡ replicate n false
no_bits n m =
    ext_get_or false (bits n (replicate m 0)) (replicate n false) (length-bits n (replicate m 0) ∙ sym (length-replicate n false))
    (λ i h. let within : i < n = omega (arith, length-bits n (replicate m 0)) in has-bits n (replicate m 0) i within ∙ (no_bit m i ∙ sym (get_or-replicate n i false false within)))

-- what a byte with one more bit says of each block
bit_after : (bytes : List ℕ) (b x i : ℕ) → b / 8 < length bytes → x ≡ slice_index bytes (b / 8) → i ≢ b → bit_of (set bytes (b / 8) (bit_or x (1 * 2 ^ (b % 8) % 256))) i ≡ bit_of bytes i
bit_after bytes b x i room is other =
    ⊎_elim
    (λ same. let at : i / 8 ≡ b / 8 = same.1 in
    let apart : i % 8 ≢ b % 8 = λ e. other (omega (arith, at, e)) in
    rw (at, get_or-set_same bytes (b / 8) (bit_or x (1 * 2 ^ (b % 8) % 256)) 0 room, bit_at_set_other w8 x (b % 8) (omega arith) (i % 8) apart, is) refl)
    (λ differ. rw (get_or-set_other bytes (b / 8) (i / 8) (bit_or x (1 * 2 ^ (b % 8) % 256)) 0 differ.1) refl)
    (eqb_tells (i / 8) (b / 8))

bit_same : (bytes : List ℕ) (b x : ℕ) → b / 8 < length bytes → bit_of (set bytes (b / 8) (bit_or x (1 * 2 ^ (b % 8) % 256))) b ≡ true
bit_same bytes b x room =
    rw (get_or-set_same bytes (b / 8) (bit_or x (1 * 2 ^ (b % 8) % 256)) 0 room, bit_at_set_same w8 x (b % 8) (omega arith)) refl

pub bits-set : (n : ℕ) (bytes : List ℕ) (b x : ℕ) → b < n → n ≤ 8 * length bytes → x ≡ slice_index bytes (b / 8) → bits n (set bytes (b / 8) (bit_or x (1 * 2 ^ (b % 8) % 256))) ≡ set (bits n bytes) b true
bits-set n bytes b x h room is =
    let new : List ℕ = set bytes (b / 8) (bit_or x (1 * 2 ^ (b % 8) % 256)) in
    let inside : b / 8 < length bytes = omega arith in
    ext_get_or false (bits n new) (set (bits n bytes) b true) (length-bits n new ∙ sym (length-set (bits n bytes) b true ∙ length-bits n bytes))
    (λ i k. let within : i < n = omega (arith, length-bits n new) in
    has-bits n new i within
    ∙ ⊎_elim
    (λ same. let at : i ≡ b = same.1 in
    subst (λ (j : ℕ). bit_of new j ≡ get_or (set (bits n bytes) b true) j false) (sym at) (bit_same bytes b x inside ∙ sym (get_or-set_same (bits n bytes) b true false (omega (arith, length-bits n bytes)))))
    (λ differ. bit_after bytes b x i inside is differ.1 ∙ (sym (has-bits n bytes i within) ∙ sym (get_or-set_other (bits n bytes) b i true false differ.1)))
    (eqb_tells i b))

-- a read inside a list is the same whatever stands for what is past its end
pub read : (bytes : List ℕ) (i d : ℕ) → i < length bytes → d ≡ get_or bytes i d → d ≡ slice_index bytes i
read [] i d h is = absurd (omega arith)
read (x ∷ bytes) zero d h is = is
read (x ∷ bytes) (suc i) d h is = read bytes i d (omega arith) is

-- a set bit leaves every bit behind the first n at 0
pub tail-set : (n : ℕ) (bytes : List ℕ) (b x : ℕ) → b < n → n ≤ 8 * length bytes → x ≡ slice_index bytes (b / 8) → ((i : ℕ) → n ≤ i → bit_of bytes i ≡ false)
    → (i : ℕ) → n ≤ i → bit_of (set bytes (b / 8) (bit_or x (1 * 2 ^ (b % 8) % 256))) i ≡ false
tail-set n bytes b x h room is tail i past =
    let inside : b / 8 < length bytes = omega arith in
    let apart : i ≢ b = λ e. absurd (omega (arith, e)) in
    bit_after bytes b x i inside is apart ∙ tail i past
