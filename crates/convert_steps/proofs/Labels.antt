-- The bytes before the first zero.
use Rattle.convert_steps.proofs.Imports.{◌≡◌, ◌≢◌, ℕ, suc, ◌+◌, ◌-◌, ◌≤◌, ◌<◌, Bool, true, not, cond, List, [], ◌∷◌, ◌++◌, length, take, drop, get_or, replicate, sym, ◌∙◌, ap, arith, append_assoc, take-suc, min, ⊎_elim, ◌==◌, cases_lt, ne_eqb, append-nil, drop_more, drop_all, drop-replicate, take_all, take-append-le, take-replicate, before_zero, label_field, take_while-cons}
use Rattle.std.proofs.Math.Seq.{take-append-add}

-- the bytes so far are none of them zero, and the rest may be
abbrev pub Goes : ℕ → List ℕ → Type 0
Goes i xs = before_zero xs ≡ take i xs ++ before_zero (drop i xs)

module _ (i d : ℕ) (xs : List ℕ) (within : i < length xs) (goes : Goes i xs) where
  ahead : before_zero (drop i xs) ≡ cond (not (get_or xs i d == 0)) (get_or xs i d ∷ before_zero (drop (i + 1) xs)) []
  ahead =
      ap before_zero (drop_more xs i d within) ∙ take_while-cons (λ b. not (b == 0)) (get_or xs i d) (drop (i + 1) xs)

  pub goes_on : get_or xs i d ≢ 0 → Goes (i + 1) xs
  goes_on other =
      let one : suc i ≡ i + 1 = omega arith in
      let test : not (get_or xs i d == 0) ≡ true = ap not (ne_eqb (get_or xs i d) 0 other) in
      let next : before_zero (drop i xs) ≡ get_or xs i d ∷ before_zero (drop (i + 1) xs) =
      ahead ∙ ap (λ (b : Bool). cond b (get_or xs i d ∷ before_zero (drop (i + 1) xs)) []) test in
      let taken : take (i + 1) xs ≡ take i xs ++ get_or xs i d ∷ [] = ap (λ (n : ℕ). take n xs) (sym one) ∙ take-suc xs i d within in
      goes ∙ (ap (λ (l : List ℕ). take i xs ++ l) next
      ∙ (sym (append_assoc (take i xs) (get_or xs i d ∷ []) (before_zero (drop (i + 1) xs))) ∙ ap (λ (l : List ℕ). l ++ before_zero (drop (i + 1) xs)) (sym taken)))

  pub stops : get_or xs i d ≡ 0 → take i xs ≡ before_zero xs
  stops zero =
      let none : before_zero (drop i xs) ≡ [] =
      ahead ∙ ap (λ (n : ℕ). cond (not (n == 0)) (n ∷ before_zero (drop (i + 1) xs)) []) zero in
      sym (goes ∙ (ap (λ (l : List ℕ). take i xs ++ l) none ∙ append-nil (take i xs)))

pub ends : (i : ℕ) (xs : List ℕ) → length xs ≤ i → Goes i xs → take i xs ≡ before_zero xs
ends i xs past goes =
    sym (goes ∙ (ap (λ (l : List ℕ). take i xs ++ before_zero l) (drop_all i xs past) ∙ append-nil (take i xs)))

-- bytes in a field of zeros
pub field_made : (bytes new : List ℕ) (count : ℕ) → count ≡ min (length bytes) 256 → new ≡ take count bytes → new ++ drop count (replicate 256 0) ≡ label_field bytes
field_made bytes new count few is = ⊎_elim long short (cases_lt 256 (length bytes))
  where
    zeros : drop count (replicate {A = ℕ} 256 0) ≡ replicate (256 - count) 0
    zeros = drop-replicate count 256 0

    long : 256 < length bytes → new ++ drop count (replicate 256 0) ≡ label_field bytes
    long more =
        let whole : count ≡ 256 = omega (arith, few, more) in
        let no_more : 256 - count ≡ 0 = omega (arith, whole) in
        let none : replicate {A = ℕ} (256 - count) 0 ≡ [] = ap (λ (n : ℕ). replicate n 0) no_more in
        ap (λ (l : List ℕ). new ++ l) (zeros ∙ none) ∙ (append-nil new ∙ (is ∙ (ap (λ (n : ℕ). take n bytes) whole ∙ sym (take-append-le 256 bytes (replicate 256 0) (omega (arith, more))))))

    short : length bytes ≤ 256 → new ++ drop count (replicate 256 0) ≡ label_field bytes
    short fits =
        let whole : count ≡ length bytes = omega (arith, few, fits) in
        let left : 256 ≡ length bytes + (256 - count) = omega (arith, whole, fits) in
        let all : new ≡ bytes = is ∙ (ap (λ (n : ℕ). take n bytes) whole ∙ take_all (length bytes) bytes (omega arith)) in
        let field : take (length bytes + (256 - count)) (bytes ++ replicate 256 0) ≡ bytes ++ replicate (256 - count) 0 =
        take-append-add bytes (replicate 256 0) (256 - count) ∙ ap (λ (l : List ℕ). bytes ++ l) (take-replicate (256 - count) 256 0 (omega arith)) in
        ap (λ (l : List ℕ). l ++ drop count (replicate 256 0)) all ∙ (ap (λ (l : List ℕ). bytes ++ l) zeros
        ∙ (sym field ∙ ap (λ (n : ℕ). take n (bytes ++ replicate 256 0)) (sym left)))
