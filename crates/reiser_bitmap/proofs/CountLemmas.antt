-- The blocks of a set are as many as there are bits in its bytes.
use Rattle.reiser_bitmap.proofs.Imports.{◌≡◌, ℕ, zero, suc, ◌+◌, ◌-◌, ◌*◌, ◌/◌, ◌%◌, ◌^◌, ◌<◌, ◌≤◌, ◌==◌, Bool, true, false, List, [], ◌∷◌, length, take, cond, get_or, refl, sym, ◌∙◌, ap, arith, ⊎_elim, filter, sum_by, bit_at, range_with_len, cases_Bool, eqb-true, eqb-false, length-append, take_more, filter-append, ones-le, bit_at-lt, bit_at-suc, bit_at_lowest, pow-suc, length-range_with_len, length-filter, count_by-le-length, sum_by-cons, sum_by_push, bit_of, bit_count, bits, has, used_blocks}
use Rattle.std.specs.Int.Count.{ones, ones_step}
use Rattle.reiser_bitmap.proofs.BitLemmas.{length-bits, has-bits}
use Rattle.reiser_bitmap.proofs.Ranges.{range_cut, filter_range_same, filter_range_none}

-- how many numbers of a range pass
count : (ℕ → Bool) → ℕ → ℕ → ℕ
count p a n = length (filter p (range_with_len a n))

count-suc : (p : ℕ → Bool) (a n : ℕ) → count p a (suc n) ≡ cond (p a) 1 0 + count p (a + 1) n
unfolding count
count-suc p a n = ⊎_elim (λ (t : p a ≡ true). rw t (omega arith)) (λ (t : p a ≡ false). rw t (omega arith)) (cases_Bool (p a))

count-zero : (p : ℕ → Bool) (a : ℕ) → count p a 0 ≡ 0
unfolding count
count-zero p a = refl

count-add : (p : ℕ → Bool) (a m n k j : ℕ) → m + n ≡ k → a + m ≡ j → count p a k ≡ count p a m + count p j n
unfolding count
count-add p a m n k j sum at =
    ap (λ (xs : List ℕ). length (filter p xs)) (range_cut a m n k j sum at)
    ∙ (ap length (filter-append p (range_with_len a m) (range_with_len j n)) ∙ length-append (filter p (range_with_len a m)) (filter p (range_with_len j n)))

count_same : (p q : ℕ → Bool) (a n : ℕ) → ((b : ℕ) → a ≤ b → b < a + n → p b ≡ q b) → count p a n ≡ count q a n
unfolding count
count_same p q a n same = ap length (filter_range_same p q a n same)

count_none : (p : ℕ → Bool) (a n : ℕ) → ((b : ℕ) → a ≤ b → b < a + n → p b ≡ false) → count p a n ≡ 0
unfolding count
count_none p a n none = ap length (filter_range_none p a n none)

count_shifted : (p q : ℕ → Bool) (d a n j : ℕ) → a + d ≡ j → ((b : ℕ) → q b ≡ p (b + d)) → count p j n ≡ count q a n
count_shifted p q d a zero j at same = count-zero p j ∙ sym (count-zero q a)
count_shifted p q d a (suc n) j at same =
    let here : q a ≡ p j = same a ∙ ap p at in
    let rest : count p (j + 1) n ≡ count q (a + 1) n = count_shifted p q d (a + 1) n (j + 1) (omega arith) same in
    count-suc p j n ∙ (ap (λ (c : ℕ). cond (p j) 1 0 + c) rest ∙ (ap (λ (b : Bool). cond b 1 0 + count q (a + 1) n) (sym here) ∙ sym (count-suc q a n)))

-- whether bit i of x is 1
one_at : ℕ → ℕ → Bool
one_at x i = bit_at x i == 1

lowest : (x : ℕ) → cond (one_at x 0) 1 0 ≡ x % 2
unfolding one_at
lowest x =
    let is : bit_at x 0 ≡ x % 2 = bit_at_lowest x in
    ⊎_elim (λ (t : (bit_at x 0 == 1) ≡ true). rw t (sym (eqb-true _ _ t) ∙ is))
    (λ (t : (bit_at x 0 == 1) ≡ false). rw t (omega (arith, bit_at-lt x 0, eqb-false (bit_at x 0) 1 t)))
    (cases_Bool (bit_at x 0 == 1))

higher : (x i : ℕ) → one_at (x / 2) i ≡ one_at x (i + 1)
unfolding one_at
higher x i = let next : i + 1 ≡ suc i = omega arith in ap (λ (b : ℕ). b == 1) (sym (bit_at-suc x i) ∙ ap (bit_at x) (sym next))

-- the bits of a number are as many as its ones
bits_are_ones : (m x : ℕ) → x < 2 ^ m → count (one_at x) 0 m ≡ ones x
bits_are_ones zero x small = count-zero (one_at x) 0 ∙ (let none : ones x ≤ 0 = ones-le 0 x small in omega arith)
bits_are_ones (suc m) x small =
    let half : x / 2 < 2 ^ m = omega (arith, pow-suc 2 m) in
    let rest : count (one_at x) 1 m ≡ count (one_at (x / 2)) 0 m = count_shifted (one_at x) (one_at (x / 2)) 1 0 m 1 refl (higher x) in
    count-suc (one_at x) 0 m ∙ omega (arith, lowest x, rest, bits_are_ones m (x / 2) half, ones_step x)

first_byte : (x : ℕ) (bytes : List ℕ) (b : ℕ) → b < 8 → bit_of (x ∷ bytes) b ≡ one_at x b
unfolding one_at
first_byte x bytes b h =
    let byte : b / 8 ≡ 0 = omega arith in
    let bit : b % 8 ≡ b = omega arith in rw (byte, bit) refl

next_byte : (x : ℕ) (bytes : List ℕ) (b : ℕ) → bit_of bytes b ≡ bit_of (x ∷ bytes) (b + 8)
next_byte x bytes b =
    let byte : (b + 8) / 8 ≡ suc (b / 8) = omega arith in
    let bit : (b + 8) % 8 ≡ b % 8 = omega arith in rw (byte, bit) refl

-- the bits of bytes are as many as their ones
ones_in_bytes : (bytes : List ℕ) (n : ℕ) → n ≡ 8 * length bytes → ((i : ℕ) → get_or bytes i 0 < 256) → count (bit_of bytes) 0 n ≡ sum_by ones bytes
ones_in_bytes [] zero size small = count-zero (bit_of []) 0
ones_in_bytes [] (suc n) size small = absurd (omega arith)
ones_in_bytes (x ∷ bytes) n size small =
    let rest : ℕ = n - 8 in
    let first : count (bit_of (x ∷ bytes)) 0 8 ≡ count (one_at x) 0 8 = count_same (bit_of (x ∷ bytes)) (one_at x) 0 8 (λ b low high. first_byte x bytes b high) in
    let others : count (bit_of (x ∷ bytes)) 8 rest ≡ count (bit_of bytes) 0 rest = count_shifted (bit_of (x ∷ bytes)) (bit_of bytes) 8 0 rest 8 refl (next_byte x bytes) in
    let tail : count (bit_of bytes) 0 rest ≡ sum_by ones bytes = ones_in_bytes bytes rest (omega arith) (λ i. small (suc i)) in
    let byte : count (one_at x) 0 8 ≡ ones x = bits_are_ones 8 x (small 0) in
    omega (arith, count-add (bit_of (x ∷ bytes)) 0 8 rest n 8 (omega arith) refl, first, others, tail, byte, sum_by-cons ones x bytes)

pub ones_are_bits : (bytes : List ℕ) → ((i : ℕ) → get_or bytes i 0 < 256) → sum_by ones bytes ≡ bit_count bytes
unfolding bit_count count
ones_are_bits bytes small = sym (ones_in_bytes bytes (8 * length bytes) refl small)

-- a set has as many blocks as its bytes have bits
pub bits_are_used : (n : ℕ) (bytes : List ℕ) → n ≤ 8 * length bytes → ((b : ℕ) → n ≤ b → bit_of bytes b ≡ false) → bit_count bytes ≡ length (used_blocks (bits n bytes))
unfolding bit_count used_blocks count
bits_are_used n bytes room tail =
    let left : ℕ = 8 * length bytes - n in
    let whole : n + left ≡ 8 * length bytes = omega arith in
    let behind : count (bit_of bytes) n left ≡ 0 = count_none (bit_of bytes) n left (λ b low high. tail b low) in
    let all : count (bit_of bytes) 0 (8 * length bytes) ≡ count (bit_of bytes) 0 n = count-add (bit_of bytes) 0 n left (8 * length bytes) n whole (omega arith) ∙ omega (arith, behind) in
    let same : count (bit_of bytes) 0 n ≡ count (has (bits n bytes)) 0 n = count_same (bit_of bytes) (has (bits n bytes)) 0 n (λ b low high. sym (has-bits n bytes b (omega arith))) in
    let size : count (has (bits n bytes)) 0 n ≡ count (has (bits n bytes)) 0 (length (bits n bytes)) = ap (count (has (bits n bytes)) 0) (sym (length-bits n bytes)) in
    all ∙ (same ∙ size)

pub used_few : (used : List Bool) → length (used_blocks used) ≤ length used
unfolding used_blocks
used_few used =
    let all : List ℕ = range_with_len 0 (length used) in
    let kept : length (filter (has used) all) ≤ length used = omega (arith, length-filter (has used) all, count_by-le-length (has used) all, length-range_with_len 0 (length used)) in kept

-- one byte more
pub ones_more : (bytes : List ℕ) (i : ℕ) → i < length bytes → sum_by ones (take (i + 1) bytes) ≡ sum_by ones (take i bytes) + ones (get_or bytes i 0)
ones_more bytes i h = ap (sum_by ones) (take_more bytes i 0 h) ∙ sum_by_push ones (take i bytes) (get_or bytes i 0)
