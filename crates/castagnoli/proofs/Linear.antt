-- Shifts of the register are linear, so the eight of a byte are an entry of a table.
use Rattle.castagnoli.proofs.Imports.{◌++◌, ◌≡◌, ℕ, zero, suc, ◌+◌, ◌*◌, ◌/◌, ◌%◌, ◌^◌, ◌<◌, ◌≤◌, List, length, take, drop, fold, slice_index, get_or, nat_eq, length-drop, drop-cons, subst, Bool, true, cond, bit_xor, refl, sym, ap, ◌∙◌, arith, polynomial, shifted, shifted_by, after_byte, raw_crc}
use Rattle.std.proofs.Math.Nat.{mod-eq_of_lt}
use Rattle.std.proofs.lemmas.List.Sums.{fold-append}
use Rattle.std.specs.Int.Bits.{xor_assoc, xor_zero_l, xor_zero_r}
use Rattle.std.proofs.lemmas.Bool.{eqb-true, agree_below, agree_below_at}
use Rattle.std.proofs.lemmas.Nat.{xor_comm, xor_lt, xor_shr, xor_mod, xor_block}
use Rattle.std.proofs.Math.Seq.{take-add}
use Rattle.std.proofs.lemmas.List.{get_or-drop}
use Rattle.byteorder.specs.Endian.{little_from}
use Rattle.vol_block.specs.Volume.{field}

-- what a shift takes off for the bit that leaves the register
abbrev pub taken : ℕ → ℕ
taken zero = 0
taken (suc bit) = polynomial

choice-is : (half bit : ℕ) → bit < 2 → cond (nat_eq bit 1) (bit_xor half polynomial) half ≡ bit_xor half (taken bit)
choice-is half zero low = sym (xor_zero_r half)
choice-is half (suc zero) low = refl
choice-is half (suc (suc more)) low = absurd (omega arith)

shifted-is : (x : ℕ) → shifted x ≡ bit_xor (x / 2) (taken (x % 2))
unfolding shifted
shifted-is x = choice-is (x / 2) (x % 2) (omega arith)

taken-xor : (a b : ℕ) → a < 2 → b < 2 → taken (bit_xor a b) ≡ bit_xor (taken a) (taken b)
taken-xor zero b ha hb = ap taken (xor_zero_l b) ∙ sym (xor_zero_l (taken b))
taken-xor (suc zero) zero ha hb = refl
taken-xor (suc zero) (suc zero) ha hb = refl
taken-xor (suc zero) (suc (suc b)) ha hb = absurd (omega arith)
taken-xor (suc (suc a)) b ha hb = absurd (omega arith)

-- four terms in another order
regroup : (a b c d : ℕ) → bit_xor (bit_xor a b) (bit_xor c d) ≡ bit_xor (bit_xor a c) (bit_xor b d)
regroup a b c d =
    xor_assoc a b (bit_xor c d)
    ∙ ap (bit_xor a) (sym (xor_assoc b c d) ∙ ap (λ z. bit_xor z d) (xor_comm b c) ∙ xor_assoc c b d)
    ∙ sym (xor_assoc a c (bit_xor b d))

shifted-xor : (a b : ℕ) → shifted (bit_xor a b) ≡ bit_xor (shifted a) (shifted b)
shifted-xor a b =
    shifted-is (bit_xor a b)
    ∙ ap (λ z. bit_xor z (taken (bit_xor a b % 2))) (xor_shr a b 1)
    ∙ ap (λ z. bit_xor (bit_xor (a / 2) (b / 2)) (taken z)) (xor_mod a b 1)
    ∙ ap (bit_xor (bit_xor (a / 2) (b / 2))) (taken-xor (a % 2) (b % 2) (omega arith) (omega arith))
    ∙ regroup (a / 2) (b / 2) (taken (a % 2)) (taken (b % 2))
    ∙ ap (λ z. bit_xor z (bit_xor (b / 2) (taken (b % 2)))) (sym (shifted-is a))
    ∙ ap (bit_xor (shifted a)) (sym (shifted-is b))

shifted_by-xor : (n a b : ℕ) → shifted_by n (bit_xor a b) ≡ bit_xor (shifted_by n a) (shifted_by n b)
shifted_by-xor zero a b = refl
shifted_by-xor (suc n) a b = ap (shifted_by n) (shifted-xor a b) ∙ shifted_by-xor n (shifted a) (shifted b)

-- an even number moves down and nothing else
shifted-even : (half : ℕ) → shifted (2 * half) ≡ half
shifted-even half =
    let low : 2 * half % 2 ≡ 0 = omega arith in
    let down : 2 * half / 2 ≡ half = omega arith in
    shifted-is (2 * half) ∙ ap (λ z. bit_xor (2 * half / 2) (taken z)) low ∙ xor_zero_r (2 * half / 2) ∙ down

step : (n a b : ℕ) → a ≡ 2 * b → shifted_by (suc n) a ≡ shifted_by n b
step n a b e = ap (shifted_by n) (ap shifted e ∙ shifted-even b)

eight_down : (high : ℕ) → shifted_by 8 (256 * high) ≡ high
eight_down high =
    step 7 (256 * high) (128 * high) (omega arith)
    ∙ step 6 (128 * high) (64 * high) (omega arith)
    ∙ step 5 (64 * high) (32 * high) (omega arith)
    ∙ step 4 (32 * high) (16 * high) (omega arith)
    ∙ step 3 (16 * high) (8 * high) (omega arith)
    ∙ step 2 (8 * high) (4 * high) (omega arith)
    ∙ step 1 (4 * high) (2 * high) (omega arith)
    ∙ step 0 (2 * high) high (omega arith)

halves : (x : ℕ) → x ≡ bit_xor (256 * (x / 256)) (x % 256)
halves x =
    let whole : x ≡ x / 256 * 256 + x % 256 = omega arith in
    let first : x / 256 * 256 + 0 ≡ 256 * (x / 256) = omega arith in
    let second : 0 * 256 + x % 256 ≡ x % 256 = omega arith in
    whole
    ∙ ap (λ z. z * 256 + x % 256) (sym (xor_zero_r (x / 256)))
    ∙ sym (xor_block 8 (x / 256) 0 0 (x % 256) (omega arith) (omega arith))
    ∙ ap (λ z. bit_xor z (0 * 256 + x % 256)) first
    ∙ ap (bit_xor (256 * (x / 256))) second

-- The high bits move down by eight, and the low eight are shifted out.
pub shifted_by_eight : (x : ℕ) → shifted_by 8 x ≡ bit_xor (x / 256) (shifted_by 8 (x % 256))
shifted_by_eight x =
    ap (shifted_by 8) (halves x)
    ∙ shifted_by-xor 8 (256 * (x / 256)) (x % 256)
    ∙ ap (λ z. bit_xor z (shifted_by 8 (x % 256))) (eight_down (x / 256))

-- whether each entry of a table is the register after n shifts from its index
abbrev pub agrees : ℕ → List ℕ → Bool
agrees n table = agree_below (λ low. nat_eq (get_or table low 0) (shifted_by n low)) (λ _. true) 256

pub entry_of : (n : ℕ) (table : List ℕ) → agrees n table ≡ true → (low : ℕ) → low < 256 → get_or table low 0 ≡ shifted_by n low
entry_of n table right low below = eqb-true _ _ (agree_below_at (λ low. nat_eq (get_or table low 0) (shifted_by n low)) (λ _. true) 256 low right below)

-- ---- eight bytes at once
-- one byte of a word is looked up, and the others stand lower
part : (n x : ℕ) → shifted_by n (shifted_by 8 x) ≡ bit_xor (shifted_by n (shifted_by 8 (x % 256))) (shifted_by n (x / 256))
part n x =
    ap (shifted_by n) (shifted_by_eight x)
    ∙ shifted_by-xor n (x / 256) (shifted_by 8 (x % 256))
    ∙ xor_comm (shifted_by n (x / 256)) (shifted_by n (shifted_by 8 (x % 256)))

-- the eight bytes of a word, each from a table of its own
pub word_is : (x0 x1 x2 x3 x4 x5 x6 x7 : ℕ) → x1 ≡ x0 / 256 → x2 ≡ x1 / 256 → x3 ≡ x2 / 256 → x4 ≡ x3 / 256 → x5 ≡ x4 / 256 → x6 ≡ x5 / 256 → x7 ≡ x6 / 256
    → shifted_by 64 x0
    ≡ bit_xor (shifted_by 64 (x0 % 256)) (bit_xor (shifted_by 56 (x1 % 256)) (bit_xor (shifted_by 48 (x2 % 256)) (bit_xor (shifted_by 40 (x3 % 256))
    (bit_xor (shifted_by 32 (x4 % 256)) (bit_xor (shifted_by 24 (x5 % 256)) (bit_xor (shifted_by 16 (x6 % 256)) (shifted_by 8 x7)))))))
word_is x0 x1 x2 x3 x4 x5 x6 x7 e1 e2 e3 e4 e5 e6 e7 =
    part 56 x0 ∙ ap (λ z. bit_xor (shifted_by 64 (x0 % 256)) z) (ap (shifted_by 56) (sym e1)
    ∙ part 48 x1 ∙ ap (λ z. bit_xor (shifted_by 56 (x1 % 256)) z) (ap (shifted_by 48) (sym e2)
    ∙ part 40 x2 ∙ ap (λ z. bit_xor (shifted_by 48 (x2 % 256)) z) (ap (shifted_by 40) (sym e3)
    ∙ part 32 x3 ∙ ap (λ z. bit_xor (shifted_by 40 (x3 % 256)) z) (ap (shifted_by 32) (sym e4)
    ∙ part 24 x4 ∙ ap (λ z. bit_xor (shifted_by 32 (x4 % 256)) z) (ap (shifted_by 24) (sym e5)
    ∙ part 16 x5 ∙ ap (λ z. bit_xor (shifted_by 24 (x5 % 256)) z) (ap (shifted_by 16) (sym e6)
    ∙ part 8 x6 ∙ ap (λ z. bit_xor (shifted_by 16 (x6 % 256)) z) (ap (shifted_by 8) (sym e7))))))))

-- n bytes are shifted out
abbrev past : ℕ → ℕ → ℕ
past zero x = x
past (suc n) x = past n (shifted_by 8 x)

-- a byte below the bits of a number
byte_below : (b high : ℕ) → b < 256 → b + 256 * high ≡ bit_xor b (256 * high)
byte_below b high small =
    let whole : b + 256 * high ≡ 256 * high + b = omega arith in
    let x : (b + 256 * high) / 256 ≡ high = omega (arith, small) in
    let y : (b + 256 * high) % 256 ≡ b = omega (arith, small) in
    halves (b + 256 * high) ∙ ap (λ z. bit_xor (256 * z) ((b + 256 * high) % 256)) x ∙ ap (λ z. bit_xor (256 * high) z) y ∙ xor_comm (256 * high) b

after-more : (register b high : ℕ) → b < 256 → shifted_by 8 (bit_xor register (b + 256 * high)) ≡ bit_xor (after_byte register b) high
unfolding after_byte
after-more register b high small =
    ap (λ z. shifted_by 8 (bit_xor register z)) (byte_below b high small)
    ∙ ap (shifted_by 8) (sym (xor_assoc register b (256 * high)))
    ∙ shifted_by-xor 8 (bit_xor register b) (256 * high)
    ∙ ap (bit_xor (shifted_by 8 (bit_xor register b))) (eight_down high)

-- bytes that come in one after the other come in together
past-is : (n i register : ℕ) (xs : List ℕ) → i + n ≤ length xs → ((k : ℕ) → k < length xs → slice_index xs k < 256) → fold after_byte register (take n (drop i xs)) ≡ past n (bit_xor register (little_from i n xs))
past-is zero i register xs fits small = sym (xor_zero_r register)
past-is (suc n) i register xs fits small =
    let below : i < length xs = omega (arith, fits) in
    let b : ℕ = slice_index xs i in
    ap (λ (l : List ℕ). fold after_byte register (take (suc n) l)) (drop-cons xs i 0 below)
    ∙ past-is n (suc i) (after_byte register b) xs (omega (arith, fits)) small
    ∙ ap (past n) (sym (after-more register b (little_from (suc i) n xs) (small i below)))

-- eight bytes are a word
pub word_comes : (start at register word : ℕ) (bytes : List ℕ) → at + 8 ≤ length bytes → ((k : ℕ) → k < length bytes → slice_index bytes k < 256) → word ≡ field 8 bytes at → register ≡ raw_crc start (take at bytes)
    → shifted_by 64 (bit_xor register word) ≡ raw_crc start (take (at + 8) bytes)
unfolding raw_crc
word_comes start at register word bytes fits small is before =
    let room : 0 + 8 ≤ length (drop at bytes) = omega (arith, fits, length-drop at bytes) in
    let each : (k : ℕ) → k < length (drop at bytes) → slice_index (drop at bytes) k < 256 = λ k below.
    subst (λ (x : ℕ). x < 256) (sym (get_or-drop at bytes k 0)) (small (at + k) (omega (arith, below, length-drop at bytes))) in
    ap (λ z. shifted_by 64 (bit_xor register z)) is
    ∙ sym (past-is 8 0 register (drop at bytes) room each)
    ∙ ap (λ z. fold after_byte z (take 8 (drop at bytes))) before
    ∙ sym (fold-append after_byte start (take at bytes) (take 8 (drop at bytes)))
    ∙ ap (fold after_byte start) (sym (take-add at 8 bytes))

-- bytes after bytes
pub raw_crc-append : (start : ℕ) (first second : List ℕ) → raw_crc start (first ++ second) ≡ raw_crc (raw_crc start first) second
unfolding raw_crc
raw_crc-append start first second = fold-append after_byte start first second

-- a product that fits is not cut
pub high_is : (high : ℕ) → high < 2 ^ 32 → high * 2 ^ 31 % 2 ^ 64 ≡ high * 2 ^ 31
high_is high h = mod-eq_of_lt (omega arith)

pub hash_below : (high low : ℕ) → high < 2 ^ 32 → low < 2 ^ 32 → bit_xor (high * 2 ^ 31 % 2 ^ 64) low < 2 ^ 63
hash_below high low h l = rw (high_is high h) (xor_lt 63 (high * 2 ^ 31) low (omega arith) (omega arith))

-- how the hash of a data reference is put together, from parts that stand in variables
pub hash_is : (root objectid offset : List ℕ) (high half low : ℕ) → high < 2 ^ 32 → high ≡ raw_crc 0xFFFFFFFF root → half ≡ raw_crc 0xFFFFFFFF objectid → low ≡ raw_crc half offset → bit_xor (high * 2 ^ 31 % 2 ^ 64) low ≡ bit_xor (raw_crc 0xFFFFFFFF root * 2 ^ 31) (raw_crc 0xFFFFFFFF (objectid ++ offset))
hash_is root objectid offset high half low fits is-high is-half is-low =
    ap (λ z. bit_xor z low) (high_is high fits ∙ ap (λ z. z * 2 ^ 31) is-high)
    ∙ ap (bit_xor (raw_crc 0xFFFFFFFF root * 2 ^ 31)) (is-low ∙ ap (λ z. raw_crc z offset) is-half ∙ sym (raw_crc-append 0xFFFFFFFF objectid offset))
