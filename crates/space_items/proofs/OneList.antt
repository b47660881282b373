-- A plan makes one list of chunks.
use Rattle.space_items.proofs.Imports.{◌≡◌, ◌≢◌, ℕ, zero, suc, ◌+◌, ◌*◌, ◌%◌, ◌<◌, ◌≤◌, min, List, [], ◌∷◌, length, get_or, Option, Some, refl, sym, ◌∙◌, ap, subst, arith, ⊎_elim, All, AllPairs, Any, cases_lt, PlannedChunk, Role, IsChunk, HoldsUnit, AreChunksBy, role_of, usable_end, ChunksAreOne}

module _ (role : ℕ → Option Role) (usable : ℕ) where
  -- the chunks from a block on
  record AreFrom (m : ℕ) (chunks : List PlannedChunk) : Type 0 where
    each : All (IsChunk role usable) chunks
    ascending : AllPairs (λ c d. c.start + c.length ≤ d.start) chunks
    above : All (λ c. m ≤ c.start) chunks
    whole : (u : ℕ) (r : Role) → m ≤ 256 * u → role u ≡ Some r → Any (λ c. HoldsUnit c u) chunks

  start_low : (c : PlannedChunk) (cs : List PlannedChunk) → AllPairs (λ c d. c.start + c.length ≤ d.start) (c ∷ cs) → (k : ℕ) (d : PlannedChunk) → k < length (c ∷ cs) → c.start ≤ (get_or (c ∷ cs) k d).start
  start_low c cs ascend zero d h = omega arith
  start_low c cs ascend (suc k) d h = let apart : c.start + c.length ≤ (get_or (c ∷ cs) (suc k) d).start = ascend 0 (suc k) d (omega arith) h in omega (arith, apart)

  head_is : (m : ℕ) (c : PlannedChunk) (cs : List PlannedChunk) → AreFrom m (c ∷ cs) → IsChunk role usable c
  head_is m c cs are = are.each 0 c (omega arith)

  head_above : (m : ℕ) (c : PlannedChunk) (cs : List PlannedChunk) → AreFrom m (c ∷ cs) → m ≤ c.start
  head_above m c cs are = are.above 0 c (omega arith)

  -- a chunk's first unit lies in one of the others
  found : (m : ℕ) (c : PlannedChunk) (others : List PlannedChunk) → m ≤ c.start → (is : IsChunk role usable c) → AreFrom m others → Any (λ d. HoldsUnit d is.first) others
  found m c others low is are = are.whole is.first c.role (omega (arith, low, is.starts)) (is.one_role is.first (omega arith) is.some)

  none_found : (u : ℕ) → Any (λ d. HoldsUnit d u) [] → ⊥
  none_found u any = omega (arith, any.2)

  -- it begins at no lower block than the first of them
  not_below : (m : ℕ) (x y : PlannedChunk) (xs ys : List PlannedChunk) → AreFrom m (x ∷ xs) → AreFrom m (y ∷ ys) → y.start ≤ x.start
  not_below m x y xs ys first second =
      let is : IsChunk role usable x = head_is m x xs first in
      let any : Any (λ d. HoldsUnit d is.first) (y ∷ ys) = found m x (y ∷ ys) (head_above m x xs first) is second in
      let low : y.start ≤ (get_or (y ∷ ys) any.0 any.1).start = start_low y ys second.ascending any.0 any.1 any.2 in
      let at : (get_or (y ∷ ys) any.0 any.1).start ≡ any.1.start = ap (λ (d : PlannedChunk). d.start) any.3 in
      omega (arith, low, at, any.4.low, is.starts)

  -- one does not end before another that begins with it
  ends_first : (x y : PlannedChunk) (a : IsChunk role usable x) (b : IsChunk role usable y) → a.first ≡ b.first → Some x.role ≡ Some y.role → a.end < b.end → ⊥
  ends_first x y a b begin roles early =
      ⊎_elim
      (λ (cut : a.end % 1024 ≡ 0). b.uncut a.end (omega (arith, a.some, begin)) early cut)
      (λ (other : role a.end ≢ Some x.role). other (b.one_role a.end (omega (arith, a.some, begin)) early ∙ sym roles))
      a.behind

  same_end : (x y : PlannedChunk) (a : IsChunk role usable x) (b : IsChunk role usable y) → a.first ≡ b.first → Some x.role ≡ Some y.role → a.end ≡ b.end
  same_end x y a b begin roles =
      ⊎_elim (λ (less : a.end < b.end). absurd (ends_first x y a b begin roles less))
      (λ (low : b.end ≤ a.end).
      ⊎_elim (λ (more : b.end < a.end). absurd (ends_first y x b a (sym begin) (sym roles) more)) (λ (high : a.end ≤ b.end). let e : a.end ≡ b.end = omega arith in e) (cases_lt b.end a.end))
      (cases_lt a.end b.end)

  one_head : (m : ℕ) (x y : PlannedChunk) (xs ys : List PlannedChunk) → AreFrom m (x ∷ xs) → AreFrom m (y ∷ ys) → x ≡ y
  one_head m x y xs ys first second =
      let a : IsChunk role usable x = head_is m x xs first in
      let b : IsChunk role usable y = head_is m y ys second in
      let start : x.start ≡ y.start = let p = not_below m x y xs ys first second in let q = not_below m y x ys xs second first in omega (arith, p, q) in
      let begin : a.first ≡ b.first = omega (arith, a.starts, b.starts, start) in
      let roles : Some x.role ≡ Some y.role = sym (a.one_role a.first (omega arith) a.some) ∙ (ap role begin ∙ b.one_role b.first (omega arith) b.some) in
      let same_role : x.role ≡ y.role = cc in
      let end : a.end ≡ b.end = same_end x y a b begin roles in
      let ends : min usable (256 * a.end) ≡ min usable (256 * b.end) = ap (λ (e : ℕ). min usable (256 * e)) end in
      let same_length : x.length ≡ y.length = omega (arith, a.ends, b.ends, ends, start) in
      by_fields x y start same_length same_role
    where
      made : (x y : PlannedChunk) → x.start ≡ y.start → x.length ≡ y.length → x.role ≡ y.role → (let z : PlannedChunk = record { start = x.start; length = x.length; role = x.role } in z) ≡ y
      made x y p q r = rw (p, q, r) refl

      by_fields : (x y : PlannedChunk) → x.start ≡ y.start → x.length ≡ y.length → x.role ≡ y.role → x ≡ y
      by_fields x y p q r = subst (λ (z : PlannedChunk). x ≡ z) (made x y p q r) refl

  tail_from : (m : ℕ) (x : PlannedChunk) (xs : List PlannedChunk) → AreFrom m (x ∷ xs) → AreFrom (x.start + x.length) xs
  tail_from m x xs are = record {
    each = λ k d h. are.each (suc k) d (omega (arith, h));
    ascending = λ i j d l h. are.ascending (suc i) (suc j) d (omega (arith, l)) (omega (arith, h));
    above = λ k d h. are.ascending 0 (suc k) d (omega arith) (omega (arith, h));
    whole = λ u r low is. later u low (are.whole u r (omega (arith, low, head_above m x xs are)) is);
  }
    where
      later : (u : ℕ) → x.start + x.length ≤ 256 * u → Any (λ c. HoldsUnit c u) (x ∷ xs) → Any (λ c. HoldsUnit c u) xs
      later u low any = by_place any.0 any.1 any.2 any.3 any.4
        where
          by_place : (k : ℕ) (c : PlannedChunk) → k < length (x ∷ xs) → get_or (x ∷ xs) k c ≡ c → HoldsUnit c u → Any (λ c. HoldsUnit c u) xs
          by_place zero c h is holds = let ends : x.start + x.length ≡ c.start + c.length = ap (λ (d : PlannedChunk). d.start + d.length) is in absurd (omega (arith, ends, holds.high, low))
          by_place (suc k) c h is holds = (k, c, omega (arith, h), is, holds)

  one_list : (m : ℕ) (xs ys : List PlannedChunk) → AreFrom m xs → AreFrom m ys → xs ≡ ys
  one_list m [] [] first second = refl
  one_list m [] (y ∷ ys) first second = let is : IsChunk role usable y = head_is m y ys second in absurd (none_found is.first (found m y [] (head_above m y ys second) is first))
  one_list m (x ∷ xs) [] first second = let is : IsChunk role usable x = head_is m x xs first in absurd (none_found is.first (found m x [] (head_above m x xs first) is second))
  one_list m (x ∷ xs) (y ∷ ys) first second =
      let head : x ≡ y = one_head m x y xs ys first second in
      let tail : AreFrom (x.start + x.length) ys = subst (λ (c : PlannedChunk). AreFrom (c.start + c.length) ys) (sym head) (tail_from m y ys second) in
      ap (λ (c : PlannedChunk). c ∷ xs) head ∙ ap (λ (cs : List PlannedChunk). y ∷ cs) (one_list (x.start + x.length) xs ys (tail_from m x xs first) tail)

  pub chunks_one_by : (xs ys : List PlannedChunk) → AreChunksBy role usable xs → AreChunksBy role usable ys → xs ≡ ys
  chunks_one_by xs ys first second = one_list 0 xs ys (from_start xs first) (from_start ys second)
    where
      from_start : (cs : List PlannedChunk) → AreChunksBy role usable cs → AreFrom 0 cs
      from_start cs are = record { each = are.each; ascending = are.ascending; above = λ k d h. omega arith; whole = λ u r low is. are.whole u r is }

-- two lists of chunks of one plan are equal
pub chunks_one : ChunksAreOne
chunks_one plan blocks chunks others first second = chunks_one_by (role_of plan blocks) (usable_end blocks) chunks others first second
