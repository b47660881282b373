-- The blocks that pointers name go over into a file from the front.
use Rattle.reiser_volume_files.proofs.Imports.{◌≡◌, ℕ, ◌+◌, ◌-◌, ◌*◌, ◌/◌, ◌%◌, ◌<◌, ◌≤◌, min, eqb, List, length, get_or, sym, ap, ◌∙◌, arith, inl, inr, cond-false, ne_eqb, cases_lt, div_ceil, Image, block_at, ReplacesBlock, joined_at, joined_below, joined_end, joined_on, joined_outside_below, joined_outside_above, pointers, block_byte, OverlaysNamed}

-- a pointer of 0 adds nothing
pub hole_passed : (image : Image) (size first : ℕ) (body : List ℕ) (f g : ℕ → ℕ) (j : ℕ) → OverlaysNamed image size first body f g → j < length body / 4
    → get_or (pointers body) j 0 ≡ 0 → (n : ℕ) → joined_at (4096 * (first + j)) g f n ≡ joined_at (4096 * (first + (j + 1))) g f n
hole_passed image size first body f g j over within hole =
    joined_on (4096 * (first + j)) (4096 * (first + (j + 1))) g f (omega arith) (λ n low high.
    let none : f n ≡ 0 = over.empty n (omega (arith, low)) (omega (arith, high, within)) in
    let is : n / 4096 - first ≡ j = omega (arith, low, high) in
    elim (cases_lt n size) as (λ _. g n ≡ f n) [
      | inl below ↦
          over.inside n (omega (arith, low)) (omega (arith, high, within)) below
          ∙ ap (λ (i : ℕ). block_byte image (get_or (pointers body) i 0) (n % 4096)) is
          ∙ ap (λ (p : ℕ). block_byte image p (n % 4096)) hole
          ∙ sym none
      | inr past ↦ over.past n past
    ])

-- any other one names a block
pub block_replaces : (image : Image) (size first : ℕ) (body : List ℕ) (f g : ℕ → ℕ) (j block : ℕ) → OverlaysNamed image size first body f g → j < length body / 4
    → get_or (pointers body) j 0 ≡ block → (block ≡ 0 → ⊥) → ReplacesBlock size (first + j) (block_at image block) (joined_at (4096 * (first + j)) g f) (joined_at (4096 * (first + (j + 1))) g f)
block_replaces image size first body f g j block over within named some =
    let from : ℕ = 4096 * (first + j) in
    let to : ℕ = 4096 * (first + (j + 1)) in
    let up : from ≤ to = omega arith in
    record {
      inside = λ i low below.
          let n : ℕ = 4096 * (first + j) + i in
          let high : n < to = omega (arith, low) in
          let is : n / 4096 - first ≡ j = omega (arith, low) in
          let rest : n % 4096 ≡ i = omega (arith, low) in
          joined_below to g f n high
          ∙ over.inside n (omega arith) (omega (arith, low, within)) below
          ∙ ap (λ (i : ℕ). block_byte image (get_or (pointers body) i 0) (n % 4096)) is
          ∙ ap (λ (p : ℕ). block_byte image p (n % 4096)) named
          ∙ cond-false (eqb block 0) 0 (get_or (block_at image block) (n % 4096) 0) (ne_eqb block 0 some)
          ∙ ap (λ (r : ℕ). get_or (block_at image block) r 0) rest;
      past = λ i low past. joined_below to g f (4096 * (first + j) + i) (omega (arith, low)) ∙ over.past _ past ∙ over.nothing _ past;
      below = λ n h. joined_outside_below from to g f up n h;
      above = λ n h. joined_outside_above from to g f up n (omega (arith, h));
    }

-- all pointers below the size have gone over
pub pointers_end : (image : Image) (size first count : ℕ) (body : List ℕ) (f g : ℕ → ℕ) → OverlaysNamed image size first body f g → count ≡ min (length body / 4) (div_ceil size 4096 - first)
    → (n : ℕ) → joined_at (4096 * (first + count)) g f n ≡ g n
pointers_end image size first count body f g over is =
    joined_end (4096 * (first + count)) g f (λ n h.
    elim (cases_lt n size) as (λ _. g n ≡ f n) [
      | inl below ↦ over.above n (omega (arith, is, h, below))
      | inr past ↦ over.past n past
    ])
