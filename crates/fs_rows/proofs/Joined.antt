-- A function that goes over into another one from the front.
use Rattle.fs_rows.proofs.Imports.{◌≡◌, ℕ, ◌+◌, ◌*◌, ◌<◌, ◌≤◌, ltb, if◌then◌else◌, sym, ap, ◌∙◌, arith, inl, inr, cond-true, cond-false, lt-ltb, le-ltb, cases_lt, FileBytes, block_by, HoldsBytes}
use Rattle.std.specs.Prelude.{nat_lt}
use Rattle.fs_rows.proofs.Functions.{same_block}
use Rattle.fs_rows.proofs.Holding.{replaced}

-- g below a place, and f from there on
abbrev pub joined_at : {T : Type 0} → ℕ → (ℕ → T) → (ℕ → T) → ℕ → T
joined_at at g f n = if nat_lt n at then g n else f n

pub joined_below : {T : Type 0} (at : ℕ) (g f : ℕ → T) (n : ℕ) → n < at → joined_at at g f n ≡ g n
joined_below at g f n h = cond-true (ltb n at) (g n) (f n) (lt-ltb n at h)

pub joined_above : {T : Type 0} (at : ℕ) (g f : ℕ → T) (n : ℕ) → at ≤ n → joined_at at g f n ≡ f n
joined_above at g f n h = cond-false (ltb n at) (g n) (f n) (le-ltb n at h)

-- nothing has gone over yet, where both agree so far
pub joined_start : {T : Type 0} (at : ℕ) (g f : ℕ → T) → ((n : ℕ) → n < at → g n ≡ f n) → (n : ℕ) → f n ≡ joined_at at g f n
joined_start at g f below n =
    elim (cases_lt n at) as (λ _. f n ≡ joined_at at g f n) [
      | inl h ↦ sym (joined_below at g f n h ∙ below n h)
      | inr h ↦ sym (joined_above at g f n h)
    ]

-- all has gone over, where both agree from there on
pub joined_end : {T : Type 0} (at : ℕ) (g f : ℕ → T) → ((n : ℕ) → at ≤ n → g n ≡ f n) → (n : ℕ) → joined_at at g f n ≡ g n
joined_end at g f above n =
    elim (cases_lt n at) as (λ _. joined_at at g f n ≡ g n) [
      | inl h ↦ joined_below at g f n h
      | inr h ↦ joined_above at g f n h ∙ sym (above n h)
    ]

-- it goes further, over a part on which both agree
pub joined_on : {T : Type 0} (at to : ℕ) (g f : ℕ → T) → at ≤ to → ((n : ℕ) → at ≤ n → n < to → g n ≡ f n) → (n : ℕ) → joined_at at g f n ≡ joined_at to g f n
joined_on at to g f up same n =
    elim (cases_lt n at) as (λ _. joined_at at g f n ≡ joined_at to g f n) [
      | inl h ↦ joined_below at g f n h ∙ sym (joined_below to g f n (omega (arith, h, up)))
      | inr h ↦
          elim (cases_lt n to) as (λ _. joined_at at g f n ≡ joined_at to g f n) [
            | inl h' ↦ joined_above at g f n h ∙ sym (joined_below to g f n h' ∙ same n h h')
            | inr h' ↦ joined_above at g f n h ∙ sym (joined_above to g f n h')
          ]
    ]

-- outside of a part nothing changes where it goes over that part
pub joined_outside_below : {T : Type 0} (at to : ℕ) (g f : ℕ → T) → at ≤ to → (n : ℕ) → n < at → joined_at to g f n ≡ joined_at at g f n
joined_outside_below at to g f up n h = joined_below to g f n (omega (arith, h, up)) ∙ sym (joined_below at g f n h)

pub joined_outside_above : {T : Type 0} (at to : ℕ) (g f : ℕ → T) → at ≤ to → (n : ℕ) → to ≤ n → joined_at to g f n ≡ joined_at at g f n
joined_outside_above at to g f up n h = joined_above to g f n h ∙ sym (joined_above at g f n (omega (arith, h, up)))

-- the block in hand, before and after it has gone over
pub block_before : (g f : ℕ → ℕ) (k : ℕ) → block_by (joined_at (4096 * k) g f) k ≡ block_by f k
block_before g f k = same_block (joined_at (4096 * k) g f) f k (λ n from to. joined_above (4096 * k) g f n from)

pub block_after : (g f : ℕ → ℕ) (k : ℕ) → block_by g k ≡ block_by (joined_at (4096 * (k + 1)) g f) k
block_after g f k = same_block g (joined_at (4096 * (k + 1)) g f) k (λ n from to. sym (joined_below (4096 * (k + 1)) g f n (omega (arith, to))))

-- one more block of bytes
pub piece_added : (m m' : FileBytes) (f g : ℕ → ℕ) (k : ℕ) → m'.marker ≡ m.marker → m'.next ≡ m.next → m.next ≡ k → m'.block.bytes ≡ block_by g k → HoldsBytes m (joined_at (4096 * k) g f)
    → HoldsBytes m' (joined_at (4096 * (k + 1)) g f)
piece_added m m' f g k marker next at is held =
    let up : 4096 * k ≤ 4096 * (k + 1) = omega arith in
    replaced m m' (joined_at (4096 * k) g f) (joined_at (4096 * (k + 1)) g f) marker next (λ n h. joined_outside_below (4096 * k) (4096 * (k + 1)) g f up n (omega (arith, h, at)))
    (λ n h. joined_outside_above (4096 * k) (4096 * (k + 1)) g f up n (omega (arith, h, at)))
    (is ∙ block_after g f k ∙ ap (λ (j : ℕ). block_by (joined_at (4096 * (k + 1)) g f) j) (sym at)) held
