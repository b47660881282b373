-- Pairs of elements of a list, the earlier one first.
use Rattle.rows_laws.proofs.Imports.{ℕ, ◌+◌, ◌<◌, ◌≡◌, Bool, true, List, ◌++◌, map, filter, length, get_or, take, drop, AllPairs, sym, ap, subst, ◌∙◌, arith, drop_more, get_or-map, get_or-take, get_or_default, length-map, length-take, take-append-drop, Contains-get_or, filter_passes, AllPairs-filter, from_map, AreIn}

module _ {X : Type 0} where
  in_turn : (xs : List X) (i j : ℕ) (d : X) → i < j → j < length xs → AreIn xs (get_or xs i d) (get_or xs j d)
  in_turn xs i j d below within =
      let long = length-take j xs in
      record {
        before = take j xs;
        after = drop (j + 1) xs;
        split = sym (take-append-drop j xs) ∙ ap (λ (l : List X). take j xs ++ l) (drop_more xs j d within);
        earlier = (i, omega (arith, below, within, long), get_or-take j xs i (get_or xs i d) below ∙ get_or_default xs i (get_or xs i d) d (omega (arith, below, within)));
      }

  -- what holds of each two elements
  pub pairs_of : (R : X → X → Type 0) (xs : List X) → ((x y : X) → AreIn xs x y → R x y) → AllPairs R xs
  pairs_of R xs each i j d below within = each (get_or xs i d) (get_or xs j d) (in_turn xs i j d below within)

  -- of two that pass
  pub pairs_passing : (R : X → X → Type 0) (p : X → Bool) (xs : List X) → AllPairs (λ x y. p x ≡ true → p y ≡ true → R x y) xs → AllPairs R (filter p xs)
  pairs_passing R p xs all i j d below within =
      AllPairs-filter (λ x y. p x ≡ true → p y ≡ true → R x y) p xs all i j d below within (filter_passes p xs i d (omega (arith, below, within))) (filter_passes p xs j d within)

-- of what two elements are made into
pub pairs_map : {X Y : Type 0} (R : Y → Y → Type 0) (f : X → Y) (xs : List X) → AllPairs (λ x y. R (f x) (f y)) xs → AllPairs R (map f xs)
pairs_map R f xs all i j d below within =
    let long = length-map xs f in
    let x = (from_map f xs (get_or (map f xs) j d) (Contains-get_or (map f xs) j d within)).0 in
    let first = get_or-map f xs i x d (omega (arith, below, within, long)) in
    let second = get_or-map f xs j x d (omega (arith, within, long)) in
    subst (λ y. R y (get_or (map f xs) j d)) (sym first) (subst (R (f (get_or xs i x))) (sym second) (all i j x below (omega (arith, within, long))))
