-- Why a chunk begins at a unit, and how often that can be.
use Rattle.unit_plan.proofs.Imports.{◌≡◌, ◌⊎◌, ℕ, suc, ◌+◌, ◌-◌, ◌*◌, ◌/◌, ◌<◌, ◌≤◌, ◌&&◌, ltb, eqb, not, Bool, true, false, List, [], ◌∷◌, ◌++◌, length, take, drop, get_or, inl, inr, refl, sym, ◌∙◌, ap, arith, length-append, ⊎_elim, Contains, AllPairs, filter, range_with_len, list_any, list_all, cases_Bool, cases_lt, and_parts, and_from, and_cases, and_left, not-true, not_from_false, both_ways, eqb-true, eq-eqb, lt-ltb, get_or_at, get_or-take, get_or-drop, get_or_default, get_or_past, length-take, length-drop, filter-append, Any-from_list_any, list_any_at, list_any_none, IsReserved, is_reserved, has, IsFreeUnit, is_free_block, are_free_blocks, is_free_unit, decides_free_unit, range_cut, range_contains, all_from_contains, is_data, holds_data, is_among}
use Rattle.reiser_bitmap.proofs.vol_block.Reserved.{decides_reserved}

-- lists and their test
pub among_contains : (xs : List ℕ) (u : ℕ) → is_among xs u ≡ true → Contains xs u
among_contains xs u t =
    let found = Any-from_list_any (λ v. eqb v u) xs t in
    let same : found.1 ≡ u = eqb-true found.1 u found.4 in
    (found.0, found.2, get_or_default xs found.0 u found.1 found.2 ∙ (found.3 ∙ same))

pub contains_among : (xs : List ℕ) (u : ℕ) → Contains xs u → is_among xs u ≡ true
contains_among xs u h = list_any_at (λ v. eqb v u) xs h.0 u h.1 (eq-eqb (get_or xs h.0 u) u h.2)

-- the place of a number in what a filter keeps of a range
unfoldable pub rank : (ℕ → Bool) → ℕ → ℕ
rank p u = length (filter p (range_with_len 0 u))

pub record IsRanked (p : ℕ → Bool) (m u : ℕ) : Type 0 where
  pub below : rank p u < length (filter p (range_with_len 0 m))
  pub at : (d : ℕ) → get_or (filter p (range_with_len 0 m)) (rank p u) d ≡ u

pub ranked : (p : ℕ → Bool) (m u : ℕ) → u < m → p u ≡ true → IsRanked p m u
unfolding rank
ranked p m u inside t =
    let front : List ℕ = filter p (range_with_len 0 u) in
    let back : List ℕ = filter p (range_with_len (u + 1) (m - u - 1)) in
    let one : filter p (range_with_len u (suc (m - u - 1))) ≡ u ∷ back = rw t refl in
    let cut : filter p (range_with_len 0 m) ≡ front ++ u ∷ back =
    ap (filter p) (range_cut 0 u (suc (m - u - 1)) m u (omega arith) (omega arith))
    ∙ (filter-append p (range_with_len 0 u) (range_with_len u (suc (m - u - 1))) ∙ ap (λ xs. front ++ xs) one) in
    record {
      below = omega (arith, ap length cut, length-append front (u ∷ back));
      at = λ d. ap (λ xs. get_or xs (length front) d) cut ∙ get_or_at front u back d (length front) refl;
    }

pub rank_next : (p : ℕ → Bool) (u : ℕ) → p u ≡ true → rank p (u + 1) ≡ rank p u + 1
unfolding rank
rank_next p u t =
    let one : filter p (u ∷ []) ≡ u ∷ [] = rw t refl in
    ap length (ap (filter p) (range_cut 0 u 1 (u + 1) u refl (omega arith)) ∙ (filter-append p (range_with_len 0 u) (u ∷ []) ∙ ap (λ xs. filter p (range_with_len 0 u) ++ xs) one))
    ∙ length-append (filter p (range_with_len 0 u)) (u ∷ [])

-- which numbers are in a part of what a filter keeps
pub in_part : (p : ℕ → Bool) (m s w u : ℕ) → u < m → p u ≡ true → s ≤ rank p u → rank p u < s + w → Contains (take w (drop s (filter p (range_with_len 0 m)))) u
in_part p m s w u inside t low high =
    let xs : List ℕ = filter p (range_with_len 0 m) in
    let place : IsRanked p m u = ranked p m u inside t in
    let k : ℕ = rank p u - s in
    let at : s + k ≡ rank p u = omega arith in (
      k,
      omega (arith, length-take w (drop s xs), length-drop s xs, place.below),
      get_or-take w (drop s xs) k u (omega arith) ∙ (get_or-drop s xs k u ∙ (ap (λ (i : ℕ). get_or xs i u) at ∙ place.at u)),
    )

one_place : (p : ℕ → Bool) (m i j d : ℕ) → ((i j : ℕ) → i < j → j < length (filter p (range_with_len 0 m)) → get_or (filter p (range_with_len 0 m)) i d < get_or (filter p (range_with_len 0 m)) j d)
    → i < length (filter p (range_with_len 0 m)) → j < length (filter p (range_with_len 0 m)) → get_or (filter p (range_with_len 0 m)) i d ≡ get_or (filter p (range_with_len 0 m)) j d → i ≡ j
one_place p m i j d ascend first second same =
    ⊎_elim (λ (below : i < j). absurd (omega (arith, ascend i j below second)))
    (λ (rest : j ≤ i). ⊎_elim (λ (above : j < i). absurd (omega (arith, ascend j i above first))) (λ (end : i ≤ j). let e : i ≡ j = omega arith in e) (cases_lt j i))
    (cases_lt i j)

pub part_rank : (p : ℕ → Bool) (m s w u : ℕ) → AllPairs (λ x y. x < y) (filter p (range_with_len 0 m)) → u < m → p u ≡ true
    → Contains (take w (drop s (filter p (range_with_len 0 m)))) u → (s ≤ rank p u) × (rank p u < s + w)
part_rank p m s w u ascend inside t h =
    let xs : List ℕ = filter p (range_with_len 0 m) in
    let place : IsRanked p m u = ranked p m u inside t in
    let k : ℕ = h.0 in
    let few : k < w = omega (arith, h.1, length-take w (drop s xs)) in
    let there : s + k < length xs = omega (arith, h.1, length-take w (drop s xs), length-drop s xs) in
    let is : get_or xs (s + k) u ≡ u = sym (get_or-drop s xs k u) ∙ (sym (get_or-take w (drop s xs) k u few) ∙ h.2) in
    let same : s + k ≡ rank p u = one_place p m (s + k) (rank p u) u (λ i j before last. ascend i j u before last) there place.below (is ∙ sym (place.at u)) in
    (omega arith, omega arith)

-- a free unit holds no data
pub free_no_data : (used : List Bool) (u : ℕ) → is_free_unit used u ≡ true → holds_data used u ≡ false
unfolding holds_data
free_no_data used u t =
    let free : IsFreeUnit used u = (decides_free_unit used u).0 t in
    list_any_none (is_data used) (range_with_len (256 * u) 256)
    (all_from_contains (λ b. is_data used b ≡ false) (range_with_len (256 * u) 256)
    (λ b h. let inside = range_contains (256 * u) 256 b h in
    let unit : b / 256 ≡ u = omega (arith, inside.0, inside.1) in and_left (has used b) (not (is_reserved b (length used))) (free.unused b unit)))

some_fails : (p : ℕ → Bool) (xs : List ℕ) → list_all p xs ≡ false → (x : ℕ) × Contains xs x × (p x ≡ false)
some_fails p [] f = absurd (both_ways true f refl)
some_fails p (x ∷ xs) f =
    ⊎_elim (λ (here : p x ≡ false). (x, (0, omega arith, refl), here))
    (λ (later : list_all p xs ≡ false). let rest = some_fails p xs later in (rest.0, (suc rest.1.0, omega (arith, rest.1.1), rest.1.2), rest.2))
    (and_cases (p x) (list_all p xs) f)

-- a block with data
pub record HasData (used : List Bool) (u d : ℕ) : Type 0 where
  pub low : 256 * u ≤ d
  pub high : d < 256 * u + 256
  pub inside : d < length used
  pub unreserved : IsReserved d (length used) → ⊥

pub data_there : (used : List Bool) (u : ℕ) → holds_data used u ≡ true → (d : ℕ) × HasData used u d
unfolding holds_data
data_there used u t =
    let found = Any-from_list_any (is_data used) (range_with_len (256 * u) 256) t in
    let d : ℕ = found.1 in
    let range = range_contains (256 * u) 256 d (found.0, found.2, found.3) in
    let parts = and_parts (has used d) (not (is_reserved d (length used))) found.4 in
    let off : is_reserved d (length used) ≡ false = not-true (is_reserved d (length used)) parts.1 in (
      d,
      record {
        low = range.0;
        high = range.1;
        inside = ⊎_elim (λ (h : d < length used). h) (λ (past : length used ≤ d). absurd (both_ways (has used d) (get_or_past used d false past) parts.0)) (cases_lt d (length used));
        unreserved = λ reserved. both_ways (is_reserved d (length used)) off ((decides_reserved d (length used)).1 reserved);
      },
    )

-- Before a unit with data, a unit that is not free and holds no data is one in which reserved blocks begin.
pub odd_unit : (used : List Bool) (v d : ℕ) → is_free_unit used v ≡ false → holds_data used v ≡ false → HasData used (v + 1) d → (v ≡ 0) ⊎ ((v ≡ 64) ⊎ (v ≡ 262144))
unfolding is_free_unit are_free_blocks holds_data
odd_unit used v d taken none data_ =
    let failing = some_fails (is_free_block used) (range_with_len (256 * v) 256) taken in
    let b : ℕ = failing.0 in
    let range = range_contains (256 * v) 256 b failing.1 in
    let within : b < length used = omega (arith, range.1, data_.low, data_.inside) in
    let fails : (not (has used b) && not (is_reserved b (length used))) ≡ false =
    ⊎_elim (λ (past : ltb b (length used) ≡ false). absurd (both_ways (ltb b (length used)) past (lt-ltb b (length used) within))) (λ rest. rest)
    (and_cases (ltb b (length used)) (not (has used b) && not (is_reserved b (length used))) failing.2) in
    let no_data : is_data used b ≡ false =
    ⊎_elim (λ (t : is_data used b ≡ true). absurd (both_ways (list_any (is_data used) (range_with_len (256 * v) 256)) none
    (list_any_at (is_data used) (range_with_len (256 * v) 256) failing.1.0 b failing.1.1 (ap (is_data used) failing.1.2 ∙ t)))) (λ f. f) (cases_Bool (is_data used b)) in
    let reserved : is_reserved b (length used) ≡ true =
    ⊎_elim (λ (t : is_reserved b (length used) ≡ true). t)
    (λ (f : is_reserved b (length used) ≡ false).
    ⊎_elim
    (λ (t : has used b ≡ true). absurd (both_ways (is_data used b) no_data (and_from (has used b) (not (is_reserved b (length used))) t (not_from_false _ f))))
    (λ (f' : has used b ≡ false). absurd (both_ways (not (has used b) && not (is_reserved b (length used))) fails (and_from (not (has used b)) (not (is_reserved b (length used))) (not_from_false _ f') (not_from_false _ f))))
    (cases_Bool (has used b)))
    (cases_Bool (is_reserved b (length used))) in
    ⊎_elim (λ first. inl (let e : v ≡ 0 = omega (arith, range.0, first) in e))
    (λ rest. ⊎_elim (λ second. inr (inl (let e : v ≡ 64 = omega (arith, range.0, range.1, second.0, second.1) in e)))
    (λ rest'. ⊎_elim (λ third. inr (inr (let e : v ≡ 262144 = omega (arith, range.0, range.1, third.0, third.1) in e)))
    (λ end. absurd (data_.unreserved (inr (inr (inr (omega (arith, end.0, range.1, data_.low), data_.inside))))))
    rest')
    rest)
    ((decides_reserved b (length used)).0 reserved)
