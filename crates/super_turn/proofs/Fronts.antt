-- What is read of the first bytes of a block depends on these alone.
use Rattle.super_turn.proofs.Imports.{◌≡◌, ℕ, ◌+◌, ◌-◌, ◌≤◌, Bool, List, length, take, drop, nat_eq, sym, ◌∙◌, ap, arith, drop-take, take-take, little_number, little_from-take, has_bytes_at}
use Rattle.outside.specs.vol_block.Volume.{field}
use lib.Pointwise.{pointwise}

-- bytes that lie within the first n
pub within : (at k n : ℕ) (xs : List ℕ) → at + k ≤ n → take k (drop at (take n xs)) ≡ take k (drop at xs)
within at k n xs fits =
    let m : ℕ = n - at in
    let sum : n ≡ at + m = omega (arith, fits) in
    let short : k ≤ m = omega (arith, fits) in
    ap (λ (i : ℕ). take k (drop at (take i xs))) sum ∙ ap (take k) (drop-take at m xs) ∙ take-take k m (drop at xs) short

module _ (n : ℕ) (xs ys : List ℕ) (same : take n xs ≡ take n ys) where
  pub same_within : (at k : ℕ) → at + k ≤ n → take k (drop at xs) ≡ take k (drop at ys)
  same_within at k fits = sym (within at k n xs fits) ∙ ap (λ (zs : List ℕ). take k (drop at zs)) same ∙ within at k n ys fits

  pub same_magic : (at : ℕ) (magic : List ℕ) → at + length magic ≤ n → has_bytes_at xs at magic ≡ has_bytes_at ys at magic
  same_magic at magic fits = ap (λ (zs : List ℕ). pointwise nat_eq magic zs) (same_within at (length magic) fits)

  pub same_field : (k at : ℕ) → at + k ≤ n → field k xs at ≡ field k ys at
  same_field k at fits =
      let low : 0 + k ≤ k = omega arith in
      sym (little_from-take 0 k k (drop at xs) low) ∙ ap (little_number k) (same_within at k fits) ∙ little_from-take 0 k k (drop at ys) low
