-- Blocks put together of sectors of others.
use Rattle.outside_mem.proofs.Imports.{◌≡◌, ◌≢◌, ⊎_elim, ℕ, zero, suc, ◌+◌, ◌*◌, ◌<◌, ◌≤◌, List, [], ◌++◌, length, take, drop, refl, sym, ◌∙◌, ap, arith, length-append, cases_eq, drop_all, drop_at, take_all, take-append-le, drop-append-le, length-drop, length-take-le, sector, sectors_of}

-- behind the end there are no bytes
pub no_sector : (xs : List ℕ) (s : ℕ) → length xs ≤ s * 512 → sector xs s ≡ []
no_sector xs s short = ap (λ (ys : List ℕ). take 512 ys) (drop_all (s * 512) xs short)

pub length-sector : (xs : List ℕ) (s : ℕ) → (s + 1) * 512 ≤ length xs → length (sector xs s) ≡ 512
length-sector xs s long = length-take-le 512 (drop (s * 512) xs) (omega (arith, long, length-drop (s * 512) xs))

module _ (value : ℕ → List ℕ) where
  -- the first n values have their sectors whole
  abbrev pub AreLong : ℕ → Type 0
  AreLong n = (s : ℕ) → s < n → (s + 1) * 512 ≤ length (value s)

  pub length-sectors_of : (n : ℕ) → AreLong n → length (sectors_of value n) ≡ n * 512
  unfolding sectors_of
  length-sectors_of zero long = refl
  length-sectors_of (suc n) long =
      omega (arith, length-append (sectors_of value n) (sector (value n) n), length-sectors_of n (λ s low. long s (omega (arith, low))), length-sector (value n) n (long n (omega arith)))

  pub sector_of : (n : ℕ) → AreLong n → (s : ℕ) → s < n → sector (sectors_of value n) s ≡ sector (value s) s
  unfolding sectors_of
  sector_of zero long s below = absurd (omega (arith, below))
  sector_of (suc n) long s below = ⊎_elim last (earlier (λ low. sector_of n (λ t early. long t (omega (arith, early))) s low)) (cases_eq s n)
    where
      front : length (sectors_of value n) ≡ n * 512
      front = length-sectors_of n (λ t low. long t (omega (arith, low)))

      last : s ≡ n → sector (sectors_of value n ++ sector (value n) n) s ≡ sector (value s) s
      last same =
          ap (λ (k : ℕ). sector (sectors_of value n ++ sector (value n) n) k) same
          ∙ ap (λ (ys : List ℕ). take 512 ys) (drop_at (sectors_of value n) (sector (value n) n) (n * 512) front)
          ∙ take_all 512 (sector (value n) n) (omega (arith, length-sector (value n) n (long n (omega arith))))
          ∙ ap (λ (k : ℕ). sector (value k) k) (sym same)

      earlier : (s < n → sector (sectors_of value n) s ≡ sector (value s) s) → s ≢ n → sector (sectors_of value n ++ sector (value n) n) s ≡ sector (value s) s
      earlier before other =
          let low : s < n = omega (arith, below, other) in
          ap (λ (ys : List ℕ). take 512 ys) (drop-append-le (s * 512) (sectors_of value n) (sector (value n) n) (omega (arith, front, low)))
          ∙ take-append-le 512 (drop (s * 512) (sectors_of value n)) (sector (value n) n) (omega (arith, front, low, length-drop (s * 512) (sectors_of value n)))
          ∙ before low

  -- one sector more
  pub sectors_more : (n : ℕ) (front : List ℕ) → front ≡ sectors_of value n → front ++ sector (value n) n ≡ sectors_of value (n + 1)
  unfolding sectors_of
  sectors_more n front is =
      let one : suc n ≡ n + 1 = omega arith in
      ap (λ (ys : List ℕ). ys ++ sector (value n) n) is ∙ ap (λ (k : ℕ). sectors_of value k) one
