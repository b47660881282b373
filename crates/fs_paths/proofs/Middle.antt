-- What is equal to something sought stands together in a list that ascends.
use Rattle.fs_paths.proofs.Imports.{◌≡◌, ℕ, ◌+◌, ◌-◌, ◌<◌, ◌≤◌, Bool, true, false, cond, List, [], ◌∷◌, ◌++◌, length, get_or, take, drop, filter, All, Ordering, Less, Equal, Greater, is_lt, is_le, is_eq, refl, sym, ap, ◌∙◌, ⊎_elim, true≢false, leb, ltb, get_or-take, get_or-drop, arith, AllWithin, IsPartitionedBy, IsPartitionPoint, IsNonDecreasingBy, ordering_index, cases_lt, take-append-drop, length-take, length-drop, append-nil, All-head, All-tail, filter-append, IsPartitionedBy-leb, IsPartitionedBy-ltb}

lt_index : (o : Ordering) → ltb (ordering_index o) 1 ≡ is_lt o
lt_index Less = refl
lt_index Equal = refl
lt_index Greater = refl

le_index : (o : Ordering) → leb (ordering_index o) 1 ≡ is_le o
le_index Less = refl
le_index Equal = refl
le_index Greater = refl

-- how each element compares with what is sought, in a list where that only rises
module _ {X : Type 0} (order : X → Ordering) (xs : List X) (rises : IsNonDecreasingBy (λ (x : X). ordering_index (order x)) xs) where
  pub parted_lt : IsPartitionedBy (λ (x : X). is_lt (order x)) xs
  parted_lt i j d before within later =
      sym (lt_index (order (get_or xs i d)))
      ∙ IsPartitionedBy-ltb (λ (x : X). ordering_index (order x)) xs 1 rises i j d before within (lt_index (order (get_or xs j d)) ∙ later)

  pub parted_le : IsPartitionedBy (λ (x : X). is_le (order x)) xs
  parted_le i j d before within later =
      sym (le_index (order (get_or xs i d)))
      ∙ IsPartitionedBy-leb (λ (x : X). ordering_index (order x)) xs 1 rises i j d before within (le_index (order (get_or xs j d)) ∙ later)

filter_all : {X : Type 0} (p : X → Bool) (xs : List X) → All (λ x. p x ≡ true) xs → filter p xs ≡ xs
filter_all p [] all = refl
filter_all p (x ∷ xs) all =
    ap (λ (b : Bool). cond b (x ∷ filter p xs) (filter p xs)) (All-head (λ y. p y ≡ true) x xs all) ∙ ap (λ t. x ∷ t) (filter_all p xs (All-tail (λ y. p y ≡ true) x xs all))

filter_none : {X : Type 0} (p : X → Bool) (xs : List X) → All (λ x. p x ≡ false) xs → filter p xs ≡ []
filter_none p [] none = refl
filter_none p (x ∷ xs) none =
    ap (λ (b : Bool). cond b (x ∷ filter p xs) (filter p xs)) (All-head (λ y. p y ≡ false) x xs none) ∙ filter_none p xs (All-tail (λ y. p y ≡ false) x xs none)

-- What passes stands in the middle.
filter_middle : {X : Type 0} (p : X → Bool) (xs : List X) (i j : ℕ) → i ≤ j → j ≤ length xs → AllWithin (λ x. p x ≡ false) xs 0 i → AllWithin (λ x. p x ≡ true) xs i j → AllWithin (λ x. p x ≡ false) xs j (length xs)
    → take (j - i) (drop i xs) ≡ filter p xs
filter_middle {X} p xs i j below within front middle back = sym (split xs i ∙ (ap (λ (t : List X). t ++ filter p (drop i xs)) none_front ∙ (split (drop i xs) (j - i) ∙ (ap (λ (t : List X). t ++ filter p (drop (j - i) (drop i xs))) all_middle ∙ (ap (λ (t : List X). take (j - i) (drop i xs) ++ t) none_back ∙ append-nil (take (j - i) (drop i xs)))))))
  where
    split : (ys : List X) (n : ℕ) → filter p ys ≡ filter p (take n ys) ++ filter p (drop n ys)
    split ys n = ap (filter p) (sym (take-append-drop n ys)) ∙ filter-append p (take n ys) (drop n ys)

    none_front : filter p (take i xs) ≡ []
    none_front = filter_none p (take i xs) (λ k d h. let long = length-take i xs in let less : k < i = omega arith in rw (get_or-take i xs k d less) (front k d (omega arith) less))

    all_middle : filter p (take (j - i) (drop i xs)) ≡ take (j - i) (drop i xs)
    all_middle = filter_all p (take (j - i) (drop i xs)) (λ k d h.
        let long = length-take (j - i) (drop i xs) in
        let less : k < j - i = omega arith in
        rw (get_or-take (j - i) (drop i xs) k d less, get_or-drop i xs k d) (middle (i + k) d (omega arith) (omega arith)))

    none_back : filter p (drop (j - i) (drop i xs)) ≡ []
    none_back = filter_none p (drop (j - i) (drop i xs)) (λ k d h.
        let long = length-drop (j - i) (drop i xs) in
        let rest = length-drop i xs in
        rw (get_or-drop (j - i) (drop i xs) k d, get_or-drop i xs (j - i + k) d) (back (i + (j - i + k)) d (omega arith) (omega arith)))

lt_le : (o : Ordering) → is_lt o ≡ true → is_le o ≡ false → ⊥
lt_le Less lt le = true≢false le
lt_le Equal lt le = true≢false (sym lt)
lt_le Greater lt le = true≢false (sym lt)

lt_other : (o : Ordering) → is_lt o ≡ true → is_eq o ≡ false
lt_other Less lt = refl
lt_other Equal lt = absurd (true≢false (sym lt))
lt_other Greater lt = refl

gt_other : (o : Ordering) → is_le o ≡ false → is_eq o ≡ false
gt_other Less le = refl
gt_other Equal le = absurd (true≢false le)
gt_other Greater le = refl

eq_both : (o : Ordering) → is_lt o ≡ false → is_le o ≡ true → is_eq o ≡ true
eq_both Less lt le = absurd (true≢false lt)
eq_both Equal lt le = refl
eq_both Greater lt le = absurd (true≢false (sym le))

one_of : {X : Type 0} (xs : List X) → 0 < length xs → X
one_of [] some = absurd (omega arith)
one_of (x ∷ xs) some = x

-- the part between the first that is not less and the first that is greater
module _ {X : Type 0} (order : X → Ordering) (xs : List X) (first end : ℕ) (within_first : first ≤ length xs) (within_end : end ≤ length xs)
    (parts_first : IsPartitionPoint (λ (x : X). is_lt (order x) ≡ true) (λ (x : X). is_lt (order x) ≡ false) xs first)
    (parts_end : IsPartitionPoint (λ (x : X). is_le (order x) ≡ true) (λ (x : X). is_le (order x) ≡ false) xs end) where
  pub in_order : first ≤ end
  in_order = ⊎_elim (λ less. absurd (crossed less)) (λ not_less. not_less) (cases_lt end first)
    where
      crossed : end < first → ⊥
      crossed less = let any : X = one_of xs (omega arith) in lt_le (order (get_or xs end any)) (parts_first.0 end any (omega arith) less) (parts_end.1 end any (omega arith) (omega arith))

  pub middle_is : (p : X → Bool) → ((x : X) → p x ≡ is_eq (order x)) → take (end - first) (drop first xs) ≡ filter p xs
  middle_is p same = filter_middle p xs first end in_order within_end
      (λ k d low high. same (get_or xs k d) ∙ lt_other (order (get_or xs k d)) (parts_first.0 k d low high))
      (λ k d low high. same (get_or xs k d) ∙ eq_both (order (get_or xs k d)) (parts_first.1 k d low (omega arith)) (parts_end.0 k d (omega arith) high))
      (λ k d low high. same (get_or xs k d) ∙ gt_other (order (get_or xs k d)) (parts_end.1 k d low high))
