-- Records of one width, one after the other.
use Rattle.btr_node.proofs.Imports.{◌≡◌, ◌<◌, ◌≤◌, Bool, true, false, ◌&&◌, [], ℕ, zero, suc, ◌+◌, ◌*◌, List, ◌∷◌, length, drop, get_or, refl, ap, sym, ◌∙◌, arith, drop-drop, at_drop_all, at_drop_more, mul-suc, mul-zero, Layout, records_in}

pub length-records_in : {R : Type 0} (width : ℕ) (layout : Layout R R) (n : ℕ) (bytes : List ℕ) → length (records_in width layout n bytes) ≡ n
length-records_in width layout zero bytes = refl
length-records_in width layout (suc n) bytes = ap suc (length-records_in width layout n (drop width bytes))

-- record i begins at i widths
pub record_at : {R : Type 0} (width : ℕ) (layout : Layout R R) (n i : ℕ) (bytes : List ℕ) (d : R) → i < n → get_or (records_in width layout n bytes) i d ≡ layout.read (drop (width * i) bytes)
record_at width layout zero i bytes d lt = absurd (omega arith)
record_at width layout (suc n) zero bytes d lt = ap (λ (k : ℕ). layout.read (drop k bytes)) (sym (mul-zero width))
record_at width layout (suc n) (suc i) bytes d lt =
    record_at width layout n i (drop width bytes) d (omega arith)
    ∙ ap layout.read (drop-drop (width * i) width bytes ∙ ap (λ (k : ℕ). drop k bytes) (omega (arith, mul-suc width i)))

-- a function of the records that are left, one on
pub next_row : {R Y : Type 0} (F : List R → Y) (width : ℕ) (layout : Layout R R) (n i : ℕ) (bytes : List ℕ) (row : R)
    → i < n → row ≡ layout.read (drop (width * i) bytes)
    → F (drop i (records_in width layout n bytes)) ≡ F (row ∷ drop (i + 1) (records_in width layout n bytes))
next_row F width layout n i bytes row lt is =
    let rows = records_in width layout n bytes in
    at_drop_more F rows i row (omega (arith, length-records_in width layout n bytes))
    ∙ ap (λ r. F (r ∷ drop (i + 1) rows)) (record_at width layout n i bytes row lt ∙ sym is)

-- both parts of a test, and a test by its parts
pub both : (a b : Bool) → (a && b) ≡ true → (a ≡ true) × (b ≡ true)
both true b h = (refl, h)
both false b h = (cc)

pub joined : (a b : Bool) → a ≡ true → b ≡ true → (a && b) ≡ true
joined true b h k = k
joined false b h k = h

-- one test of many passed, or did not
pub passed : (test rest left all : Bool) → test ≡ true → left ≡ (test && rest) → left ≡ all → rest ≡ all
passed test rest left all p e h = ap (λ b. b && rest) (sym p) ∙ sym e ∙ h

pub failed : (test rest left all : Bool) → test ≡ false → left ≡ (test && rest) → left ≡ all → false ≡ all
failed test rest left all p e h = ap (λ b. b && rest) (sym p) ∙ sym e ∙ h

-- all tests passed
pub finished : {R : Type 0} (F : List R → Bool) (width : ℕ) (layout : Layout R R) (n i : ℕ) (bytes : List ℕ) (all : Bool)
    → n ≤ i → F [] ≡ true → F (drop i (records_in width layout n bytes)) ≡ all → true ≡ all
finished F width layout n i bytes all end none h =
    sym none ∙ sym (at_drop_all F (records_in width layout n bytes) i (omega (arith, length-records_in width layout n bytes))) ∙ h
