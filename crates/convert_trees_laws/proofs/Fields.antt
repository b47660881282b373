-- Numbers in bytes are small.
use Rattle.convert_trees_laws.proofs.Imports.{◌≡◌, ◌<◌, ◌≤◌, ℕ, zero, suc, ◌+◌, ◌*◌, ◌-◌, ◌^◌, ◌==◌, Bool, true, false, List, [], ◌∷◌, get_or, take, drop, length, slice_index, slice_range, sym, ap, subst, ⊎_elim, pos, FitsSigned, if◌then◌else◌, arith, bit_at, w64, cases_lt, get_or-drop, get_or-take, length-take}
use Rattle.btr_reader.specs.vol_block.Volume.{field}

-- each of them is below 256
abbrev pub AreBytes : List ℕ → Type 0
AreBytes bytes = (i : ℕ) → slice_index bytes i < 256

pub drop_bytes : (n : ℕ) (bytes : List ℕ) → AreBytes bytes → AreBytes (drop n bytes)
drop_bytes n bytes are = λ i. subst (λ (v : ℕ). v < 256) (sym (get_or-drop n bytes i 0)) (are (n + i))

behind_end : (xs : List ℕ) (i : ℕ) → length xs ≤ i → get_or xs i 0 < 256
behind_end [] i h = omega arith
behind_end (x ∷ xs) zero h = absurd (omega (arith, h))
behind_end (x ∷ xs) (suc i) h = behind_end xs i (omega (arith, h))

pub take_bytes : (n : ℕ) (bytes : List ℕ) → AreBytes bytes → AreBytes (take n bytes)
take_bytes n bytes are = λ i.
    ⊎_elim (λ (less : i < n). subst (λ (v : ℕ). v < 256) (sym (get_or-take n bytes i 0 less)) (are i))
    (λ (more : n ≤ i). behind_end (take n bytes) i (let long = length-take n bytes in omega (arith, long, more))) (cases_lt i n)

pub range_bytes : (bytes : List ℕ) (start end : ℕ) → AreBytes bytes → AreBytes (slice_range bytes start end)
range_bytes bytes start end are = take_bytes (end - start) (drop start bytes) (drop_bytes start bytes are)

pub field_two : (bytes : List ℕ) (at : ℕ) → AreBytes bytes → field 2 bytes at < 2 ^ 16
field_two bytes at are = let a = drop_bytes at bytes are 0 in let b = drop_bytes at bytes are 1 in omega (arith, a, b)

pub field_four : (bytes : List ℕ) (at : ℕ) → AreBytes bytes → field 4 bytes at < 2 ^ 32
field_four bytes at are =
    let a = drop_bytes at bytes are 0 in
    let b = drop_bytes at bytes are 1 in
    let c = drop_bytes at bytes are 2 in
    let d = drop_bytes at bytes are 3 in
    omega (arith, a, b, c, d)

pub field_eight : (bytes : List ℕ) (at : ℕ) → AreBytes bytes → field 8 bytes at < 2 ^ 64
field_eight bytes at are =
    let a = drop_bytes at bytes are 0 in
    let b = drop_bytes at bytes are 1 in
    let c = drop_bytes at bytes are 2 in
    let d = drop_bytes at bytes are 3 in
    let e = drop_bytes at bytes are 4 in
    let f = drop_bytes at bytes are 5 in
    let g = drop_bytes at bytes are 6 in
    let h = drop_bytes at bytes are 7 in
    omega (arith, a, b, c, d, e, f, g, h)

-- ---- flags

abbrev as_number : Bool → ℕ
as_number t = if t then 1 else 0

abbrev pub packed : Bool → Bool → Bool → Bool → Bool → Bool → ℕ
packed a b c d e f = (if a then 0x1 else 0) + ((if b then 0x20 else 0) + ((if c then 0x40 else 0) + ((if d then 0x80 else 0) + ((if e then 0x100 else 0) + (if f then 0x200 else 0)))))

scaled : (t : Bool) (n : ℕ) → (if t then n else 0) ≡ n * as_number t
scaled true n = omega arith
scaled false n = omega arith

low : (t : Bool) → as_number t ≤ 1
low true = omega arith
low false = omega arith

test_is : (t : Bool) (n : ℕ) → n ≡ as_number t → (n == 1) ≡ t
test_is true n is = ap (λ (m : ℕ). m == 1) is
test_is false n is = ap (λ (m : ℕ). m == 1) is

module _ (a b c d e f : Bool) where
  packed_is : packed a b c d e f ≡ as_number a + 32 * as_number b + 64 * as_number c + 128 * as_number d + 256 * as_number e + 512 * as_number f
  packed_is =
      let one = scaled a 0x1 in
      let two = scaled b 0x20 in
      let three = scaled c 0x40 in
      let four = scaled d 0x80 in
      let five = scaled e 0x100 in
      let six = scaled f 0x200 in
      omega (arith, one, two, three, four, five, six)

  pub bit_five : (bit_at (packed a b c d e f) 5 == 1) ≡ b
  bit_five = test_is b (bit_at (packed a b c d e f) 5) (let is = packed_is in let la = low a in let lb = low b in omega (arith, is, la, lb))

  pub bit_six : (bit_at (packed a b c d e f) 6 == 1) ≡ c
  bit_six = test_is c (bit_at (packed a b c d e f) 6) (let is = packed_is in let la = low a in let lb = low b in let lc = low c in omega (arith, is, la, lb, lc))

  pub bit_seven : (bit_at (packed a b c d e f) 7 == 1) ≡ d
  bit_seven = test_is d (bit_at (packed a b c d e f) 7) (let is = packed_is in let la = low a in let lb = low b in let lc = low c in let ld = low d in omega (arith, is, la, lb, lc, ld))

  pub bit_eight : (bit_at (packed a b c d e f) 8 == 1) ≡ e
  bit_eight = test_is e (bit_at (packed a b c d e f) 8) (let is = packed_is in let la = low a in let lb = low b in let lc = low c in let ld = low d in let le = low e in omega (arith, is, la, lb, lc, ld, le))

  pub bit_nine : (bit_at (packed a b c d e f) 9 == 1) ≡ f
  bit_nine = test_is f (bit_at (packed a b c d e f) 9) (let is = packed_is in let la = low a in let lb = low b in let lc = low c in let ld = low d in let le = low e in let lf = low f in omega (arith, is, la, lb, lc, ld, le, lf))

  pub packed_low : packed a b c d e f < 1024
  packed_low = let is = packed_is in let la = low a in let lb = low b in let lc = low c in let ld = low d in let le = low e in let lf = low f in omega (arith, is, la, lb, lc, ld, le, lf)

-- ---- times

pub seconds_fit : (sec : ℕ) → sec < 2 ^ 32 → FitsSigned w64 (pos sec)
seconds_fit sec low_sec = omega (arith, low_sec)
