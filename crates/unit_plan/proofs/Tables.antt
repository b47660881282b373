-- Numbers in a table, each of which grows.
use Rattle.unit_plan.proofs.Imports.{◌≡◌, ℕ, ◌+◌, ◌<◌, ◌≤◌, ltb, eqb, Bool, true, false, List, length, set, cond, sym, ap, arith, ⊎_elim, slice_index, cases_eq, cases_lt, eq-eqb, ne_eqb, lt-ltb, le-ltb, get_or-set_same, get_or-set_other}

-- one place of the table
pub put : (old : List ℕ) (place added value k : ℕ) → place < length old → value ≡ slice_index old place + added → slice_index (set old place value) k ≡ slice_index old k + cond (eqb place k) added 0
put old place added value k inside is =
    ⊎_elim
    (λ (same : place ≡ k).
    let on : cond {A = ℕ} (eqb place k) added 0 ≡ added = ap (λ (b : Bool). cond {A = ℕ} b added 0) (eq-eqb place k same) in
    let there : slice_index (set old place value) place ≡ value = get_or-set_same old place value 0 inside in
    omega (arith, on, there, is, ap (slice_index (set old place value)) same, ap (slice_index old) same))
    (λ (other : place ≡ k → ⊥).
    let off : cond {A = ℕ} (eqb place k) added 0 ≡ 0 = ap (λ (b : Bool). cond {A = ℕ} b added 0) (ne_eqb place k other) in
    let there : slice_index (set old place value) k ≡ slice_index old k = get_or-set_other old place k value 0 (λ e. other (sym e)) in
    omega (arith, off, there))
    (cases_eq place k)

-- one place more of those below a number
pub one_more : (place added k : ℕ) → cond (ltb k (place + 1)) added 0 ≡ cond (ltb k place) added 0 + cond (eqb place k) added 0
one_more place added k =
    ⊎_elim
    (λ (same : place ≡ k).
    let low : ltb k place ≡ false = le-ltb k place (omega (arith, same)) in
    let next : ltb k (place + 1) ≡ true = lt-ltb k (place + 1) (omega (arith, same)) in
    rw (low, next, eq-eqb place k same) (omega arith))
    (λ (other : place ≡ k → ⊥).
    ⊎_elim
    (λ (below : k < place).
    let low : ltb k place ≡ true = lt-ltb k place below in
    let next : ltb k (place + 1) ≡ true = lt-ltb k (place + 1) (omega (arith, below)) in
    rw (low, next, ne_eqb place k other) (omega arith))
    (λ (above : place ≤ k).
    let low : ltb k place ≡ false = le-ltb k place above in
    let next : ltb k (place + 1) ≡ false = le-ltb k (place + 1) (omega (arith, above, other)) in
    rw (low, next, ne_eqb place k other) (omega arith))
    (cases_lt k place))
    (cases_eq place k)

pub none_below : (added k : ℕ) → cond (ltb k 0) added 0 ≡ 0
none_below added k = ap (λ (b : Bool). cond {A = ℕ} b added 0) (le-ltb k 0 (omega arith))
