-- The bytes of a bitmap as they are read, and the end of the last one.
use Rattle.reiser_bitmap.proofs.Imports.{◌≡◌, ◌≢◌, ℕ, ◌+◌, ◌-◌, ◌*◌, ◌/◌, ◌%◌, ◌^◌, ◌<◌, ◌≤◌, Bool, false, List, [], ◌++◌, length, take, set, get_or, map, bit_and, refl, sym, ◌∙◌, ap, arith, ⊎_elim, slice_index, bit_at, range_with_len, cases_lt, cases_eq, ext_get_or, get_or-set_same, get_or-set_other, get_or_past, get_or-append_right, get_or_append_left, get_or-take, length-append, length-take, length-set, length-map-range_with_len, get_or-map-range_with_len, bit_at-zero, bit_at-lt, bit_at_and, bit_at_ones, bit_at_ones_above, BITS_IN_BLOCK, Image, block_at, bit_of, bits, bitmap_block, is_marked, bitmap_of}
use Rattle.reiser_bitmap.specs.Stored.{IsStored}
use Rattle.reiser_bitmap.proofs.BitLemmas.{mask}

-- two tests that agree below n give the same list
pub same_tests : (p q : ℕ → Bool) (n : ℕ) → ((b : ℕ) → b < n → p b ≡ q b) → map p (range_with_len 0 n) ≡ map q (range_with_len 0 n)
same_tests p q n same =
    ext_get_or false _ _ (length-map-range_with_len p 0 n ∙ sym (length-map-range_with_len q 0 n))
    (λ i h. let inside : i < n = omega (arith, length-map-range_with_len p 0 n) in
    get_or-map-range_with_len p 0 n i i false inside (omega arith) ∙ (same i inside ∙ sym (get_or-map-range_with_len q 0 n i i false inside (omega arith))))

-- a number with all but its low bits cleared
low_kept : (x r i : ℕ) → r < 8 → i < r → bit_at (bit_and x (1 * 2 ^ r % 256 - 1)) i ≡ bit_at x i
low_kept x r i h low =
    let one : bit_at (2 ^ r - 1) i ≡ 1 = bit_at_ones r i low in
    rw (mask r h, bit_at_and x (2 ^ r - 1) i, one) (omega (arith, bit_at-lt x i))

high_cleared : (x r i : ℕ) → r < 8 → r ≤ i → bit_at (bit_and x (1 * 2 ^ r % 256 - 1)) i ≡ 0
high_cleared x r i h high =
    let none : bit_at (2 ^ r - 1) i ≡ 0 = bit_at_ones_above r i high in
    rw (mask r h, bit_at_and x (2 ^ r - 1) i, none) (omega arith)

-- bytes with the bits of byte n / 8 cleared from bit n on
unfoldable pub with_end : ℕ → List ℕ → ℕ → List ℕ
with_end n bytes x = set bytes (n / 8) (bit_and x (1 * 2 ^ (n % 8) % 256 - 1))

pub bits_kept : (n : ℕ) (bytes : List ℕ) (x : ℕ) → n / 8 < length bytes → x ≡ slice_index bytes (n / 8) → bits n (with_end n bytes x) ≡ bits n bytes
unfolding with_end
bits_kept n bytes x room is =
    same_tests (bit_of (with_end n bytes x)) (bit_of bytes) n (λ b h.
    ⊎_elim
    (λ (same : b / 8 ≡ n / 8). let low : b % 8 < n % 8 = omega (arith, same) in
    rw (same, get_or-set_same bytes (n / 8) (bit_and x (1 * 2 ^ (n % 8) % 256 - 1)) 0 room, low_kept x (n % 8) (b % 8) (omega arith) low, is) refl)
    (λ (other : b / 8 ≢ n / 8). rw (get_or-set_other bytes (n / 8) (b / 8) (bit_and x (1 * 2 ^ (n % 8) % 256 - 1)) 0 other) refl)
    (cases_eq (b / 8) (n / 8)))

pub end_cleared : (n : ℕ) (bytes : List ℕ) (x : ℕ) → length bytes ≡ (n + 7) / 8 → n / 8 < length bytes → (b : ℕ) → n ≤ b → bit_of (with_end n bytes x) b ≡ false
unfolding with_end
end_cleared n bytes x size room b past =
    ⊎_elim
    (λ (same : b / 8 ≡ n / 8). let high : n % 8 ≤ b % 8 = omega (arith, same) in
    rw (same, get_or-set_same bytes (n / 8) (bit_and x (1 * 2 ^ (n % 8) % 256 - 1)) 0 room, high_cleared x (n % 8) (b % 8) (omega arith) high) refl)
    (λ (other : b / 8 ≢ n / 8). let behind : length bytes ≤ b / 8 = omega (arith, other, size) in
    rw (get_or-set_other bytes (n / 8) (b / 8) (bit_and x (1 * 2 ^ (n % 8) % 256 - 1)) 0 other, get_or_past bytes (b / 8) 0 behind, bit_at-zero (b % 8)) refl)
    (cases_eq (b / 8) (n / 8))

pub end_stored : (n : ℕ) (bytes : List ℕ) (x : ℕ) → n < 2 ^ 64 → length bytes ≡ (n + 7) / 8 → n / 8 < length bytes → IsStored n (with_end n bytes x)
unfolding with_end
end_stored n bytes x small size room = record {
  room = omega (arith, length-set bytes (n / 8) (bit_and x (1 * 2 ^ (n % 8) % 256 - 1)), size);
  tail = end_cleared n bytes x size room;
  small = small;
}

-- the bytes so far have the bits of the image
unfoldable pub HasBitsOf : Image → List ℕ → Type 0
HasBitsOf image bytes = (b : ℕ) → b < 8 * length bytes → bit_of bytes b ≡ is_marked image b

pub none_read : (image : Image) (bytes : List ℕ) → bytes ≡ [] → HasBitsOf image bytes
unfolding HasBitsOf
none_read image bytes none = λ b h. absurd (omega (arith, ap length none))

pub more_read : (image : Image) (bytes block : List ℕ) (k count : ℕ) → length bytes ≡ 4096 * k → count ≤ 4096 → block ≡ block_at image (bitmap_block k) → HasBitsOf image bytes → HasBitsOf image (bytes ++ take count block)
unfolding HasBitsOf
more_read image bytes block k count size few is before = λ b h.
    ⊎_elim
    (λ (old : b < 8 * length bytes). rw (get_or_append_left bytes (take count block) 0 (b / 8) (omega arith)) (before b old))
    (λ (new : 8 * length bytes ≤ b).
    let inside : b / 8 - 4096 * k < count = omega (arith, length-append bytes (take count block), length-take count block, size) in
    let read : get_or (bytes ++ take count block) (b / 8) 0 ≡ get_or block (b / 8 - 4096 * k) 0 =
    get_or-append_right bytes (take count block) (4096 * k) (b / 8) 0 size (omega (arith, size)) ∙ get_or-take count block (b / 8 - 4096 * k) 0 inside in
    let which : b / BITS_IN_BLOCK ≡ k = omega (arith, size) in
    let place : b % BITS_IN_BLOCK / 8 ≡ b / 8 - 4096 * k = omega (arith, size) in
    let bit : b % BITS_IN_BLOCK % 8 ≡ b % 8 = omega arith in
    rw (read, is, which, place, bit) refl)
    (cases_lt b (8 * length bytes))

pub all_read : (image : Image) (n : ℕ) (bytes : List ℕ) → n ≤ 8 * length bytes → HasBitsOf image bytes → bits n bytes ≡ bitmap_of n image
unfolding HasBitsOf
all_read image n bytes room read = same_tests (bit_of bytes) (is_marked image) n (λ b h. read b (omega arith))
