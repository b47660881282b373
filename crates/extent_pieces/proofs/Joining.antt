-- When two blocks lie in one piece.
use Rattle.extent_pieces.proofs.Imports.{◌≡◌, ℕ, ◌+◌, ◌-◌, ◌/◌, ◌<◌, ◌≤◌, ◌==◌, ◌&&◌, ltb, Bool, true, false, List, Option, Some, None, refl, sym, ◌∙◌, ap, arith, ⊎_elim, eq-eqb, and_from, and_parts, and_left, and_right, cases_Bool, eqb-true, false≢true, lt-ltb, not_from_true, not_from_false, is_data, Owners, advanced, is_owner, is_joined, begins_piece}

pub is_owner_refl : (a : Option (ℕ × ℕ)) → is_owner a a ≡ true
is_owner_refl None = refl
is_owner_refl (Some a) = and_from (a.0 == a.0) (a.1 == a.1) (eq-eqb a.0 a.0 refl) (eq-eqb a.1 a.1 refl)

same_pair : (a b : ℕ × ℕ) → a.0 ≡ b.0 → a.1 ≡ b.1 → a ≡ b
same_pair a b first second = ap (λ (x : ℕ). let p : ℕ × ℕ = (x, a.1) in p) first ∙ ap (λ (y : ℕ). let p : ℕ × ℕ = (b.0, y) in p) second

pub same_owner : (a b : Option (ℕ × ℕ)) → is_owner a b ≡ true → a ≡ b
same_owner None None t = refl
same_owner None (Some b) t = absurd (false≢true t)
same_owner (Some a) None t = absurd (false≢true t)
same_owner (Some a) (Some b) t =
    let parts = and_parts (a.0 == b.0) (a.1 == b.1) t in
    ap (λ (p : ℕ × ℕ). Some p) (same_pair a b (eqb-true a.0 b.0 parts.0) (eqb-true a.1 b.1 parts.1))

pub advanced_zero : (a : Option (ℕ × ℕ)) → advanced a 0 ≡ a
advanced_zero None = refl
advanced_zero (Some a) = ap (λ (p : ℕ × ℕ). Some p) (same_pair (a.0, a.1 + 0) a refl (omega arith))

pub advanced_twice : (a : Option (ℕ × ℕ)) (m n k : ℕ) → m + n ≡ k → advanced (advanced a m) n ≡ advanced a k
advanced_twice None m n k sum = refl
advanced_twice (Some a) m n k sum = ap (λ (p : ℕ × ℕ). Some p) (same_pair (a.0, a.1 + m + n) (a.0, a.1 + k) refl (omega arith))

-- what it is that two blocks are joined
pub record Joins (used : List Bool) (owner : Owners) (b c : ℕ) : Type 0 where
  pub data_ : is_data used c ≡ true
  pub uncut : b / 32768 ≡ c / 32768
  pub owners : owner c ≡ advanced (owner b) (c - b)

pub joins : (used : List Bool) (owner : Owners) (b c : ℕ) → is_joined used owner b c ≡ true → Joins used owner b c
joins used owner b c t =
    let parts = and_parts (is_data used c) ((b / 32768 == c / 32768) && is_owner (owner c) (advanced (owner b) (c - b))) t in
    let more = and_parts (b / 32768 == c / 32768) (is_owner (owner c) (advanced (owner b) (c - b))) parts.1 in
    record {
      data_ = parts.0;
      uncut = eqb-true (b / 32768) (c / 32768) more.0;
      owners = same_owner (owner c) (advanced (owner b) (c - b)) more.1;
    }

pub is_joined_from : (used : List Bool) (owner : Owners) (b c : ℕ) → Joins used owner b c → is_joined used owner b c ≡ true
is_joined_from used owner b c is =
    and_from (is_data used c) ((b / 32768 == c / 32768) && is_owner (owner c) (advanced (owner b) (c - b))) is.data_
    (and_from (b / 32768 == c / 32768) (is_owner (owner c) (advanced (owner b) (c - b))) (eq-eqb (b / 32768) (c / 32768) is.uncut)
    (ap (λ (o : Option (ℕ × ℕ)). is_owner (owner c) o) (sym is.owners) ∙ is_owner_refl (owner c)))

pub joined_with_itself : (used : List Bool) (owner : Owners) (b : ℕ) → is_data used b ≡ true → is_joined used owner b b ≡ true
joined_with_itself used owner b t =
    let none : b - b ≡ 0 = omega arith in
    is_joined_from used owner b b (record { data_ = t; uncut = refl; owners = sym (ap (advanced (owner b)) none ∙ advanced_zero (owner b)) })

pub joined_through : (used : List Bool) (owner : Owners) (b c d : ℕ) → b ≤ c → c ≤ d → is_joined used owner b c ≡ true → is_joined used owner c d ≡ true → is_joined used owner b d ≡ true
joined_through used owner b c d first second t u =
    let low : Joins used owner b c = joins used owner b c t in
    let high : Joins used owner c d = joins used owner c d u in
    is_joined_from used owner b d (record {
      data_ = high.data_;
      uncut = low.uncut ∙ high.uncut;
      owners =
          high.owners
          ∙ (ap (λ (o : Option (ℕ × ℕ)). advanced o (d - c)) low.owners
          ∙ advanced_twice (owner b) (c - b) (d - c) (d - b) (omega arith));
    })

pub joined_between : (used : List Bool) (owner : Owners) (b c d : ℕ) → b ≤ c → c ≤ d → is_joined used owner b c ≡ true → is_joined used owner b d ≡ true → is_joined used owner c d ≡ true
joined_between used owner b c d first second t u =
    let low : Joins used owner b c = joins used owner b c t in
    let high : Joins used owner b d = joins used owner b d u in
    is_joined_from used owner c d (record {
      data_ = high.data_;
      uncut = sym low.uncut ∙ high.uncut;
      owners =
          high.owners
          ∙ (sym (advanced_twice (owner b) (c - b) (d - c) (d - b) (omega arith))
          ∙ ap (λ (o : Option (ℕ × ℕ)). advanced o (d - c)) (sym low.owners));
    })

-- where a piece begins
pub begins_from : (used : List Bool) (owner : Owners) (b : ℕ) → is_data used b ≡ true → ((k : ℕ) → k + 1 ≡ b → is_data used k ≡ true → is_joined used owner k b ≡ false) → begins_piece used owner b ≡ true
begins_from used owner b t before =
    and_from (is_data used b) _ t (not_from_false _ (
    ⊎_elim
    (λ (here : ltb 0 b ≡ true).
    let next : b - 1 + 1 ≡ b = omega (arith, ltb_says b here) in
    ⊎_elim
    (λ (d : is_data used (b - 1) ≡ true). and_right (ltb 0 b) _ (and_right (is_data used (b - 1)) _ (before (b - 1) next d)))
    (λ (d : is_data used (b - 1) ≡ false). and_right (ltb 0 b) _ (and_left (is_data used (b - 1)) _ d))
    (cases_Bool (is_data used (b - 1))))
    (λ (none : ltb 0 b ≡ false). and_left (ltb 0 b) _ none)
    (cases_Bool (ltb 0 b))))
  where
    ltb_says : (n : ℕ) → ltb 0 n ≡ true → 0 < n
    ltb_says n t = grind (arith)

pub none_begins_off : (used : List Bool) (owner : Owners) (b : ℕ) → is_data used b ≡ false → begins_piece used owner b ≡ false
none_begins_off used owner b t = and_left (is_data used b) _ t

pub none_begins_joined : (used : List Bool) (owner : Owners) (b k : ℕ) → k + 1 ≡ b → is_data used k ≡ true → is_joined used owner k b ≡ true → begins_piece used owner b ≡ false
none_begins_joined used owner b k next d t =
    let at : k ≡ b - 1 = omega arith in
    let some : ltb 0 b ≡ true = lt-ltb 0 b (omega arith) in
    let inside : (ltb 0 b && (is_data used (b - 1) && is_joined used owner (b - 1) b)) ≡ true =
    and_from (ltb 0 b) _ some (and_from (is_data used (b - 1)) _ (ap (is_data used) (sym at) ∙ d) (ap (λ (j : ℕ). is_joined used owner j b) (sym at) ∙ t)) in
    and_right (is_data used b) _ (not_from_true _ inside)
