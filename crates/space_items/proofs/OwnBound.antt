-- The bound of the number of the extent tree's own nodes holds.
use Rattle.space_items.proofs.Imports.{◌≡◌, ⊎_elim, ℕ, suc, ◌+◌, ◌-◌, ◌*◌, ◌/◌, ◌<◌, ◌≤◌, subst, arith, mul-suc, div-mul-le_self, div_ceil, lt-div-mul-add, cases_lt, div_ceil_times, NODE_BYTES, IsNodeSize, leaf_bound, node_bound, capacity}
use Rattle.std.proofs.Common.{mul_comm}
use Rattle.std.proofs.lemmas.Nat.{mul-le}

pub roomy : (n : ℕ) → IsNodeSize n → 3995 ≤ capacity n
roomy n size =
    ⊎_elim (λ (e : n ≡ 4096). omega arith) (λ rest. ⊎_elim (λ (e : n ≡ 8192). omega arith) (λ rest'. ⊎_elim (λ (e : n ≡ 16384). omega arith) (λ rest''. ⊎_elim (λ (e : n ≡ 32768). omega arith) (λ (e : n ≡ 65536). omega arith) rest'') rest') rest) size

-- a quotient of a sum: what is added adds no more than its own part, and one
quotient : (a b c : ℕ) → 3995 ≤ c → 3995 * ((a + b) / c) ≤ 3995 * (a / c) + 3995 + b
quotient a b c wide =
    let low : (a + b) / c * c ≤ a + b = div-mul-le_self (a + b) c in
    let high : a < a / c * c + c = lt-div-mul-add {a = a} {b = c} (omega arith) in
    by_size ((a + b) / c) (a / c) low high
  where
    split : (e d : ℕ) → (e + d) * c ≡ e * c + d * c
    split e d = grind arith

    by_size : (q p : ℕ) → q * c ≤ a + b → a < p * c + c → 3995 * q ≤ 3995 * p + 3995 + b
    by_size q p low high =
        ⊎_elim
        (λ (more : p + 1 < q).
        let d : ℕ = q - (p + 1) in
        let parts : q ≡ p + 1 + d = omega arith in
        let e : (p + 1 + d) * c ≡ (p + 1) * c + d * c = split (p + 1) d in
        let f : (p + 1) * c ≡ p * c + 1 * c = split p 1 in
        let step : d * 3995 ≤ d * c = mul-le d 3995 d c (omega arith) wide in
        let whole : (p + 1 + d) * c ≤ a + b = subst (λ (x : ℕ). x * c ≤ a + b) parts low in
        omega (arith, e, f, step, whole, high, parts))
        (λ (few : q ≤ p + 1). omega arith)
        (cases_lt (p + 1) q)

-- the bound rises with the bytes
pub bound_up : (a b n : ℕ) → IsNodeSize n → a ≤ b → node_bound a n ≤ node_bound b n
bound_up a b n size h =
    let low : 2 * a / capacity n * capacity n ≤ 2 * a = div-mul-le_self (2 * a) (capacity n) in
    let high : 2 * b < 2 * b / capacity n * capacity n + capacity n = lt-div-mul-add {a = 2 * b} {b = capacity n} (omega (arith, roomy n size)) in
    let leaves : 2 * a / capacity n ≤ 2 * b / capacity n = by_size (2 * a / capacity n) (2 * b / capacity n) (capacity n) (omega (arith, low, high, h)) in
    parents (leaf_bound a n) (leaf_bound b n) (omega (arith, leaves))
  where
    by_size : (q p c : ℕ) → q * c < p * c + c → q ≤ p
    by_size q p c less =
        ⊎_elim
        (λ (more : p < q).
        let step : suc p * c ≤ q * c = mul-le (suc p) c q c (omega arith) (omega arith) in
        absurd (omega (arith, step, less, mul_comm (suc p) c, mul-suc c p, mul_comm c p)))
        (λ (few : q ≤ p). few)
        (cases_lt p q)

    parents : (l m : ℕ) → l ≤ m → l + div_ceil l 64 + 8 ≤ m + div_ceil m 64 + 8
    parents l m few = omega (arith, div_ceil_times l 64 (omega arith), div_ceil_times m 64 (omega arith))

few_parents : (l : ℕ) → (l ≤ div_ceil l 64 * 64) × (div_ceil l 64 * 64 < l + 64)
few_parents l = div_ceil_times l 64 (omega arith)

-- with as many nodes as the bound says there are no more
pub bound_holds : (bytes x n : ℕ) → IsNodeSize n → x ≤ 2 * node_bound bytes n + 16 → node_bound (bytes + NODE_BYTES * x) n ≤ 2 * node_bound bytes n + 16
bound_holds bytes x n size few =
    let twice : 2 * bytes + 116 * x ≡ 2 * (bytes + NODE_BYTES * x) = omega arith in
    let grown : 3995 * ((2 * bytes + 116 * x) / capacity n) ≤ 3995 * (2 * bytes / capacity n) + 3995 + 116 * x = quotient (2 * bytes) (116 * x) (capacity n) (roomy n size) in
    let leaves : 3995 * (2 * (bytes + NODE_BYTES * x) / capacity n) ≤ 3995 * (2 * bytes / capacity n) + 3995 + 116 * x = subst (λ (b : ℕ). 3995 * (b / capacity n) ≤ 3995 * (2 * bytes / capacity n) + 3995 + 116 * x) twice grown in
    linear (2 * bytes / capacity n) (2 * (bytes + NODE_BYTES * x) / capacity n) leaves few
  where
    linear : (q p : ℕ) → 3995 * p ≤ 3995 * q + 3995 + 116 * x → x ≤ 2 * (q + 1 + div_ceil (q + 1) 64 + 8) + 16 → p + 1 + div_ceil (p + 1) 64 + 8 ≤ 2 * (q + 1 + div_ceil (q + 1) 64 + 8) + 16
    linear q p leaves few = omega (arith, few_parents (q + 1), few_parents (p + 1), leaves, few)
