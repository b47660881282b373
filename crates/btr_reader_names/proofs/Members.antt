-- Members of lists that are made of others, and pairs among them.
use Rattle.btr_reader_names.proofs.Imports.{◌≡◌, ℕ, ◌+◌, ◌<◌, ◌≤◌, Bool, true, false, cond, append_assoc, List, [], ◌∷◌, ◌++◌, map, filter, length, get_or, take, drop, Contains, AllPairs, ⊎_elim, refl, sym, ap, subst, ◌∙◌, arith, cases_lt, get_or_default, take-append-drop, take_more, map-append, length-append, filter-append, in_filter, AreIn}
use Rattle.std.proofs.Math.Seq.{get_or-append_seam}
use Rattle.std.proofs.Math.ListN.{get_or-append}

-- two that pass are two among those that pass
pub filter_in : {X : Type 0} (p : X → Bool) (xs : List X) (x y : X) → p x ≡ true → p y ≡ true → AreIn xs x y → AreIn (filter p xs) x y
filter_in p xs x y px py a = record {
  before = filter p a.before;
  after = filter p a.after;
  split = ap (filter p) a.split ∙ (filter-append p a.before (y ∷ a.after) ∙ ap (λ (b : Bool). filter p a.before ++ cond b (y ∷ filter p a.after) (filter p a.after)) py);
  earlier = in_filter p a.before x a.earlier px;
}

-- what holds of all pairs holds of these two
pub pair_of : {X : Type 0} (R : X → X → Type 0) (xs : List X) (x y : X) → AllPairs R xs → AreIn xs x y → R x y
pair_of R xs x y all a =
    let k = a.earlier.0 in
    let split = ap (λ l. length l) a.split ∙ length-append a.before (y ∷ a.after) in
    let first = ap (λ l. get_or l k x) a.split ∙ (get_or-append a.before (y ∷ a.after) x k a.earlier.1 ∙ a.earlier.2) in
    let second = ap (λ l. get_or l (length a.before) x) a.split ∙ get_or-append_seam a.before y a.after x in
    subst (λ z. R z y) first (subst (R (get_or xs k x)) second (all k (length a.before) x a.earlier.1 (omega (arith, split))))

-- two among some first elements are two among all
pub in_more : {X : Type 0} (part more all : List X) (x y : X) → all ≡ part ++ more → AreIn part x y → AreIn all x y
in_more part more all x y is a = record {
  before = a.before;
  after = a.after ++ more;
  split = is ∙ (ap (λ l. l ++ more) a.split ∙ append_assoc a.before (y ∷ a.after) more);
  earlier = a.earlier;
}

module _ {X : Type 0} (P : X → Type 0) where
  -- what holds of the first elements, and of the next, holds of one more
  pub each_more : (xs : List X) (i : ℕ) (x : X) → ((k : ℕ) (d : X) → k < i → P (get_or xs k d)) → i < length xs → x ≡ get_or xs i x → P x → (k : ℕ) (d : X) → k < i + 1 → P (get_or xs k d)
  each_more xs i x each within at here k d below =
      ⊎_elim (λ before. each k d before) (λ not_before. let same : k ≡ i = omega arith in subst P (sym (ap (λ (j : ℕ). get_or xs j d) same ∙ (get_or_default xs i d x within ∙ sym at))) here) (cases_lt k i)

  -- and of each element, once they are all
  pub each_among : (xs : List X) (i : ℕ) → length xs ≤ i → ((k : ℕ) (d : X) → k < i → P (get_or xs k d)) → (x : X) → Contains xs x → P x
  each_among xs i all each x among = subst P among.2 (each among.0 x (omega (arith, among.1)))

-- the element at an index is one of the list
pub indexed : {X : Type 0} (xs : List X) (i : ℕ) (x : X) → i < length xs → x ≡ get_or xs i x → Contains xs x
indexed xs i x within at = (i, within, sym at)

-- the first elements with the next one
pub one_more : {X : Type 0} (xs : List X) (i : ℕ) (x : X) → i < length xs → x ≡ get_or xs i x → take (i + 1) xs ≡ take i xs ++ x ∷ []
one_more xs i x within at = take_more xs i x within ∙ ap (λ y. take i xs ++ y ∷ []) (sym at)

-- and those behind them
pub with_rest : {X : Type 0} (xs : List X) (i : ℕ) (x : X) → i < length xs → x ≡ get_or xs i x → xs ≡ (take i xs ++ x ∷ []) ++ drop (i + 1) xs
with_rest xs i x within at = sym (take-append-drop (i + 1) xs) ∙ ap (λ l. l ++ drop (i + 1) xs) (one_more xs i x within at)

-- what is made of those that pass among the first elements, with the next one
pub map_kept : {X Y : Type 0} (f : X → Y) (p : X → Bool) (xs : List X) (i : ℕ) (x : X) → i < length xs → x ≡ get_or xs i x → map f (filter p (take (i + 1) xs)) ≡ map f (filter p (take i xs)) ++ cond (p x) (f x ∷ []) []
map_kept f p xs i x within at =
    ap (λ l. map f (filter p l)) (one_more xs i x within at)
    ∙ (ap (map f) (filter-append p (take i xs) (x ∷ [])) ∙ (map-append f (filter p (take i xs)) (cond (p x) (x ∷ []) []) ∙ ap (λ l. map f (filter p (take i xs)) ++ l) (by (p x))))
  where
    by : (b : Bool) → map f (cond b (x ∷ []) []) ≡ cond b (f x ∷ []) []
    by true = refl
    by false = refl
