-- Entries that are sorted, and joined where neighbours are the same.
use Rattle.btr_check_references.proofs.Imports.{append-nil, ◌≡◌, ◌≢◌, ◌<◌, ◌≤◌, ◌⊎◌, inl, inr, ⊎_elim, ℕ, ◌+◌, ◌-◌, Bool, true, false, Less, Greater, is_lt, IsPermutation, IsSortedBy, List, [], ◌∷◌, ◌++◌, length, map, take, drop, get_or, refl, sym, ap, subst, ◌∙◌, arith, true≢false, All, AllPairs, length-append, if◌then◌else◌, cases_lt, get_or-map, map-append, get_or_append_left, get_or_default, get_or-drop, drop-drop, drop_all, length-map, take_all, All-contains, All-push, All-weaker, Contains-push, all_pairs_push, All-permutation, ranks_by, sorted_far, sum_by-IsPermutation, Made, AreOrdered, CountsAs, IsJoinedWith, IsTestOfRefs, count_if, counted, is_same, made_in, order_of, MadeCount}
use Rattle.std.proofs.lemmas.List.Sums.{sum_by_more, sum_by_push}
use Rattle.btr_check_references.proofs.Order.{before, not_behind, order_total}

abbrev IsBefore : Made → Made → Type 0
IsBefore a b = order_of a b ≡ Less

abbrev IsNotZero : MadeCount → Type 0
IsNotZero e = e.count ≢ 0

-- one comes behind none of the entries from number i on
abbrev StandsLow : List MadeCount → ℕ → Made → Type 0
StandsLow xs i m = (j : ℕ) (d : MadeCount) → i ≤ j → j < length xs → order_of m (made_in (get_or xs j d)) ≢ Greater

-- what an entry adds to a count
abbrev part : (Made → Bool) → MadeCount → ℕ
part test e = if test (made_in e) then e.count else 0

-- the first i entries were joined to these
pub record IsJoinOf (xs : List MadeCount) (i : ℕ) (done : List MadeCount) : Type 0 where
  pub counts : (test : Made → Bool) → IsTestOfRefs test → count_if test done ≡ count_if test (take i xs)
  pub some : All IsNotZero xs → All IsNotZero done
  pub ascend : AreOrdered xs → AllPairs IsBefore (map made_in done)
  pub low : AreOrdered xs → All (StandsLow xs i) (map made_in done)

pub join_of_none : (xs : List MadeCount) → IsJoinOf xs 0 []
join_of_none xs = record {
  counts = λ test of_refs. refl;
  some = λ all k d within. absurd (omega arith);
  ascend = λ up i j d below within. absurd (omega arith);
  low = λ up k d within. absurd (omega arith);
}

-- ---- one entry more

sum_part : (test : Made → Bool) (last e : MadeCount) → test (made_in last) ≡ test (made_in e) → part test (counted last e.count) ≡ part test last + part test e
sum_part test last e same = by (test (made_in last)) (test (made_in e)) same
  where
    by : (b c : Bool) → b ≡ c → (if b then last.count + e.count else 0) ≡ (if b then last.count else 0) + (if c then e.count else 0)
    by true true is = refl
    by false false is = refl
    by true false is = absurd (true≢false is)
    by false true is = absurd (true≢false (sym is))

joined_counts : (test : Made → Bool) → IsTestOfRefs test → (done next : List MadeCount) (e : MadeCount) → IsJoinedWith done e next → count_if test next ≡ count_if test done + part test e
joined_counts test of_refs done next e (inl (other, is)) = ap (count_if test) is ∙ sum_by_push (part test) done e
joined_counts test of_refs done next e (inr (front, last, ends, same, is)) =
    let whole : count_if test done ≡ count_if test front + part test last = ap (count_if test) ends ∙ sum_by_push (part test) front last in
    let with_more : count_if test next ≡ count_if test front + part test (counted last e.count) = ap (count_if test) is ∙ sum_by_push (part test) front (counted last e.count) in
    let both = sum_part test last e (of_refs (made_in last) (made_in e) same) in
    omega (arith, whole, with_more, both)

front_of : {A : Type 0} (P : A → Type 0) (xs : List A) (y : A) → All P (xs ++ y ∷ []) → All P xs
front_of P xs y all k d within = subst P (get_or_append_left xs (y ∷ []) d k within) (all k d (grind (arith, length-append)))

last_of : {A : Type 0} (P : A → Type 0) (xs : List A) (y : A) → All P (xs ++ y ∷ []) → P y
last_of P xs y all = All-contains P (xs ++ y ∷ []) y all (Contains-push xs y)

joined_some : (done next : List MadeCount) (e : MadeCount) → IsJoinedWith done e next → All IsNotZero done → IsNotZero e → All IsNotZero next
joined_some done next e (inl (other, is)) all here = subst (All IsNotZero) (sym is) (All-push IsNotZero done e all here)
joined_some done next e (inr (front, last, ends, same, is)) all here =
    let whole : All IsNotZero (front ++ last ∷ []) = subst (All IsNotZero) ends all in
    let sum : last.count + e.count ≢ 0 = λ none. here (omega arith) in
    subst (All IsNotZero) (sym is) (All-push IsNotZero front (counted last e.count) (front_of IsNotZero front last whole) sum)

-- the references of entries to which one was added are the same, or one more
joined_refs : (done next : List MadeCount) (e : MadeCount) → IsJoinedWith done e next
    → (map made_in next ≡ map made_in done)
    ⊎ ((map made_in next ≡ map made_in done ++ made_in e ∷ []) × ((d : MadeCount) → 0 < length done → is_same (made_in (get_or done (length done - 1) d)) (made_in e) ≡ false))
joined_refs done next e (inl (other, is)) = inr (ap (map made_in) is ∙ map-append made_in done (e ∷ []), other)
joined_refs done next e (inr (front, last, ends, same, is)) =
    inl (ap (map made_in) is ∙ map-append made_in front (counted last e.count ∷ []) ∙ sym (map-append made_in front (last ∷ [])) ∙ sym (ap (map made_in) ends))

at_or_below : (k n : ℕ) → k ≤ n → (k ≡ n) ⊎ (k < n)
at_or_below k n le = ⊎_elim (λ (low : k < n). inr low) (λ (high : n ≤ k). inl (omega arith)) (cases_lt k n)

module _ (xs : List MadeCount) (i : ℕ) (done : List MadeCount) (e : MadeCount) (within : i < length xs) (here : e ≡ get_or xs i e) (of : IsJoinOf xs i done) where
  -- one of them does not come behind the entry
  low_here : AreOrdered xs → (k : ℕ) (d : Made) → k < length (map made_in done) → order_of (get_or (map made_in done) k d) (made_in e) ≢ Greater
  low_here up k d inside = subst (λ x. order_of (get_or (map made_in done) k d) (made_in x) ≢ Greater) (sym here) (of.low up k d inside i e (omega arith) within)

  all_before : AreOrdered xs → ((d : MadeCount) → 0 < length done → is_same (made_in (get_or done (length done - 1) d)) (made_in e) ≡ false)
      → (k : ℕ) (d : Made) → k < length (map made_in done) → IsBefore (get_or (map made_in done) k d) (made_in e)
  all_before up other k d inside =
      let long : length (map made_in done) ≡ length done = length-map done made_in in
      let same_last : get_or (map made_in done) (length done - 1) d ≡ made_in (get_or done (length done - 1) e) = get_or-map made_in done (length done - 1) e d (omega arith) in
      let last_before : IsBefore (get_or (map made_in done) (length done - 1) d) (made_in e) =
      before (get_or (map made_in done) (length done - 1) d) (made_in e) (low_here up (length done - 1) d (omega arith)) (subst (λ m. is_same m (made_in e) ≡ false) (sym same_last) (other e (omega arith))) in
      ⊎_elim (λ (at_end : k ≡ length done - 1). subst (λ j. IsBefore (get_or (map made_in done) j d) (made_in e)) (sym at_end) last_before)
      (λ (early : k < length done - 1). order_total.trans (get_or (map made_in done) k d) (get_or (map made_in done) (length done - 1) d) (made_in e) (of.ascend up k (length done - 1) d early (omega arith)) last_before)
      (at_or_below k (length done - 1) (omega arith))

  low_next : AreOrdered xs → StandsLow xs (i + 1) (made_in e)
  low_next up j d high inside =
      subst (λ x. order_of (made_in x) (made_in (get_or xs j d)) ≢ Greater) (get_or_default xs i d e within ∙ sym here) (up.ascend i j d (omega arith) inside)

  lower : (m : Made) → StandsLow xs i m → StandsLow xs (i + 1) m
  lower m low j d high inside = low j d (omega arith) inside

  -- the entries with the next one joined to them
  pub join_more : (next : List MadeCount) → IsJoinedWith done e next → IsJoinOf xs (i + 1) next
  join_more next with_it = record {
    counts = λ test of_refs.
        let more = sum_by_more (part test) xs i e within in
        let joined = joined_counts test of_refs done next e with_it in
        let so_far = of.counts test of_refs in
        let one : part test e ≡ part test (get_or xs i e) = ap (part test) here in
        omega (arith, more, joined, so_far, one);
    some = λ all. joined_some done next e with_it (of.some all) (subst IsNotZero (sym here) (all i e within));
    ascend = λ up. ⊎_elim
        (λ (is : map made_in next ≡ map made_in done). subst (AllPairs IsBefore) (sym is) (of.ascend up))
        (λ is. subst (AllPairs IsBefore) (sym is.0) (all_pairs_push IsBefore (map made_in done) (made_in e) (of.ascend up) (all_before up is.1)))
        (joined_refs done next e with_it);
    low = λ up. ⊎_elim
        (λ (is : map made_in next ≡ map made_in done). subst (All (StandsLow xs (i + 1))) (sym is) (All-weaker (StandsLow xs i) (StandsLow xs (i + 1)) lower (map made_in done) (of.low up)))
        (λ is. subst (All (StandsLow xs (i + 1))) (sym is.0)
        (All-push (StandsLow xs (i + 1)) (map made_in done) (made_in e) (All-weaker (StandsLow xs i) (StandsLow xs (i + 1)) lower (map made_in done) (of.low up)) (low_next up)))
        (joined_refs done next e with_it);
  }

-- ---- in place

-- in ys, which began as xs, the first i entries of xs were joined to the first ones, and from number i on nothing has changed
pub record IsJoinedUpTo (xs ys : List MadeCount) (i kept : ℕ) : Type 0 where
  pub few : kept ≤ i
  pub long : length ys ≡ length xs
  pub rest : drop i ys ≡ drop i xs
  pub joined : IsJoinOf xs i (take kept ys)

-- what two lists share from a place on, they share from one behind that on
same_behind : {A : Type 0} (xs ys : List A) (n m : ℕ) → n ≤ m → drop n xs ≡ drop n ys → drop m xs ≡ drop m ys
same_behind xs ys n m le same =
    let is : n + (m - n) ≡ m = omega arith in
    subst (λ k. drop k xs ≡ drop k ys) is (sym (drop-drop (m - n) n xs) ∙ ap (drop (m - n)) same ∙ drop-drop (m - n) n ys)

same_at : {A : Type 0} (xs ys : List A) (n : ℕ) (d : A) → drop n xs ≡ drop n ys → get_or xs n d ≡ get_or ys n d
same_at xs ys n d same =
    let is : n + 0 ≡ n = omega arith in
    subst (λ k. get_or xs k d ≡ get_or ys k d) is (sym (get_or-drop n xs 0 d) ∙ ap (λ zs. get_or zs 0 d) same ∙ get_or-drop n ys 0 d)

pub joined_more : (xs ys zs : List MadeCount) (i kept n : ℕ) (e : MadeCount) → i < length xs → e ≡ get_or ys i e → IsJoinedUpTo xs ys i kept
    → length zs ≡ length ys → drop (kept + 1) zs ≡ drop (kept + 1) ys → n ≤ kept + 1 → IsJoinedWith (take kept ys) e (take n zs) → IsJoinedUpTo xs zs (i + 1) n
joined_more xs ys zs i kept n e within here so_far long rest few with_it =
    let few_before = so_far.few in
    record {
      few = omega arith;
      long = long ∙ so_far.long;
      rest = same_behind zs ys (kept + 1) (i + 1) (omega arith) rest ∙ same_behind ys xs i (i + 1) (omega arith) so_far.rest;
      joined = join_more xs i (take kept ys) e within (here ∙ same_at ys xs i e so_far.rest) so_far.joined (take n zs) with_it;
    }

pub joined_all : (xs ys : List MadeCount) (i kept : ℕ) → length xs ≤ i → IsJoinedUpTo xs ys i kept → CountsAs xs (take kept ys)
joined_all xs ys i kept all is = record {
  counts = λ test of_refs. is.joined.counts test of_refs ∙ ap (count_if test) (take_all i xs all);
  some = is.joined.some;
}

-- ---- sorted entries

pub moved_counts : (xs ys : List MadeCount) → IsPermutation xs ys → CountsAs xs ys
moved_counts xs ys moved = record {
  counts = λ test of_refs. sum_by-IsPermutation (part test) xs ys moved;
  some = All-permutation IsNotZero xs ys moved;
}

pub counts_then : (xs ys zs : List MadeCount) → CountsAs xs ys → CountsAs ys zs → CountsAs xs zs
counts_then xs ys zs first second = record {
  counts = λ test of_refs. second.counts test of_refs ∙ first.counts test of_refs;
  some = λ all. second.some (first.some all);
}

pub ordered_from_sorted : (xs : List MadeCount) → IsSortedBy (λ a b. is_lt (order_of (made_in a) (made_in b))) xs → AreOrdered xs
ordered_from_sorted xs up = record {
  ascend = λ i j d below within. not_behind (made_in (get_or xs i d)) (made_in (get_or xs j d))
      (sorted_far (λ a b. is_lt (order_of (made_in a) (made_in b))) (ranks_by order_total made_in) xs up i j d (omega arith) within);
}

-- what a vector holds behind a loan of it all
pub lent : (n : ℕ) (xs ys : List MadeCount) → length ys ≡ n → length xs ≡ n → take n (ys ++ drop (length ys) xs) ≡ ys
lent n xs ys long same =
    ap (λ zs. take n (ys ++ zs)) (drop_all (length ys) xs (omega arith)) ∙ ap (take n) (append-nil ys) ∙ take_all n ys (omega arith)
