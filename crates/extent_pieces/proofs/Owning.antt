-- Who owns a block, by a list of runs.
use Rattle.extent_pieces.proofs.Imports.{◌≡◌, ◌⊎◌, ℕ, ◌+◌, ◌-◌, ◌^◌, ◌<◌, ◌≤◌, ltb, leb, Bool, true, false, List, [], ◌∷◌, length, get_or, cond, min, Option, Some, None, refl, sym, ◌∙◌, ap, arith, subst, ⊎_elim, inl, inr, Contains, AllPairs, ◌≢◌, find, option_map, IsNonDecreasingBy, IsPartitionPoint, and_from, and_parts, both_ways, cases_Bool, cases_lt, ltb-true, leb-true, lt-ltb, le-leb, get_or_default, Contains-get_or, contains_head, contains_tail, contains_cases, IsEnd, OwnedRun, TellOwners, IsRunBefore, IsRun, holds_block, owner_in, Owners, advanced, is_owner}
use Rattle.extent_pieces.proofs.Joining.{is_owner_refl, same_owner}

pub find_none : {X : Type 0} (p : X → Bool) (xs : List X) → ((x : X) → Contains xs x → p x ≡ false) → find p xs ≡ None
find_none p [] none = refl
find_none p (x ∷ xs) none = let off : p x ≡ false = none x (contains_head x xs) in rw off (find_none p xs (λ y h. none y (contains_tail y x xs h)))

pub find_one : {X : Type 0} (p : X → Bool) (xs : List X) (x : X) → Contains xs x → p x ≡ true → ((y : X) → Contains xs y → p y ≡ true → y ≡ x) → find p xs ≡ Some x
find_one p [] x h t one = absurd (omega (arith, h.1))
find_one {X} p (y ∷ xs) x h t one =
    ⊎_elim
    (λ (here : p y ≡ true). rw here (ap (λ (z : X). Some z) (one y (contains_head y xs) here)))
    (λ (off : p y ≡ false). rw off (
    ⊎_elim
    (λ (same : y ≡ x). absurd (both_ways (p y) off (ap p same ∙ t)))
    (λ (later : Contains xs x). find_one p xs x later t (λ z inside. one z (contains_tail z y xs inside)))
    (contains_cases x y xs h)))
    (cases_Bool (p y))

-- a block lies in a run
pub record Holds (b : ℕ) (r : OwnedRun) : Type 0 where
  pub low : r.first ≤ b
  pub high : b < r.first + r.count

pub holds : (b : ℕ) (r : OwnedRun) → holds_block b r ≡ true → Holds b r
holds b r t =
    let parts = and_parts (leb r.first b) (ltb b (r.first + r.count)) t in
    record { low = leb-true r.first b parts.0; high = ltb-true b (r.first + r.count) parts.1 }

pub holds_from : (b : ℕ) (r : OwnedRun) → Holds b r → holds_block b r ≡ true
holds_from b r is = and_from (leb r.first b) (ltb b (r.first + r.count)) (le-leb r.first b is.low) (lt-ltb b (r.first + r.count) is.high)

-- two elements of a list are one, or the one stands before the other
pub two_cases : {X : Type 0} (R : X → X → Type 0) (xs : List X) (x y : X) → AllPairs R xs → Contains xs x → Contains xs y → (x ≡ y) ⊎ (R x y ⊎ R y x)
two_cases {X} R xs x y pairs hx hy =
    let at_x : get_or xs hx.0 x ≡ x = hx.2 in
    let at_y : get_or xs hy.0 x ≡ y = get_or_default xs hy.0 x y hy.1 ∙ hy.2 in
    ⊎_elim
    (λ (less : hx.0 < hy.0). inr (inl (subst (λ (z : X). R z y) at_x (subst (λ (z : X). R (get_or xs hx.0 x) z) at_y (pairs hx.0 hy.0 x less hy.1)))))
    (λ (more : hy.0 ≤ hx.0). ⊎_elim
    (λ (less : hy.0 < hx.0). inr (inr (subst (λ (z : X). R y z) at_x (subst (λ (z : X). R z (get_or xs hx.0 x)) at_y (pairs hy.0 hx.0 x less hx.1)))))
    (λ (same : hx.0 ≤ hy.0). inl (sym at_x ∙ (ap (λ (k : ℕ). get_or xs k x) (let e : hx.0 ≡ hy.0 = omega arith in e) ∙ at_y)))
    (cases_lt hy.0 hx.0))
    (cases_lt hx.0 hy.0)

-- a block lies in one run at most
pub held_once : (runs : List OwnedRun) (b : ℕ) (r s : OwnedRun) → AllPairs IsRunBefore runs → Contains runs r → Contains runs s → Holds b r → Holds b s → s ≡ r
held_once runs b r s pairs hr hs in_r in_s =
    ⊎_elim (λ (same : r ≡ s). sym same)
    (λ (apart : IsRunBefore r s ⊎ IsRunBefore s r). ⊎_elim
    (λ (first : IsRunBefore r s). absurd (omega (arith, first.apart, in_r.high, in_s.low)))
    (λ (second : IsRunBefore s r). absurd (omega (arith, second.apart, in_s.high, in_r.low))) apart)
    (two_cases IsRunBefore runs r s pairs hr hs)

pub owner_held : (runs : List OwnedRun) (owner : Owners) (b : ℕ) (r : OwnedRun) → TellOwners runs owner → Contains runs r → Holds b r → owner b ≡ Some (owner_in r b)
owner_held runs owner b r tells among is =
    tells.tell b
    ∙ ap (option_map (λ s. owner_in s b)) (find_one (holds_block b) runs r among (holds_from b r is) (λ s inside t. held_once runs b r s tells.ascending among inside is (holds b s t)))

pub owner_none : (runs : List OwnedRun) (owner : Owners) (b : ℕ) → TellOwners runs owner → ((r : OwnedRun) → Contains runs r → Holds b r → ⊥) → owner b ≡ None
owner_none runs owner b tells none =
    tells.tell b
    ∙ ap (option_map (λ s. owner_in s b)) (find_none (holds_block b) runs (λ r inside.
    ⊎_elim (λ (t : holds_block b r ≡ true). absurd (none r inside (holds b r t))) (λ (f : holds_block b r ≡ false). f) (cases_Bool (holds_block b r))))

some_from : {X Y : Type 0} (p : X → Bool) (f : X → Y) (xs : List X) (y : Y) → option_map f (find p xs) ≡ Some y → (x : X) × Contains xs x × (p x ≡ true) × (f x ≡ y)
some_from p f [] y is = absurd (cc)
some_from {X} {Y} p f (x ∷ xs) y is =
    (elim (p x) as (λ b. p x ≡ b → option_map f (cond b (Some x) (find p xs)) ≡ Some y → (z : X) × Contains (x ∷ xs) z × (p z ≡ true) × (f z ≡ y)) [
      | true ↦ λ t e. (x, contains_head x xs, t, (cc))
      | false ↦ λ t e. let rest = some_from p f xs y e in (rest.0, contains_tail rest.0 x xs rest.1, rest.2, rest.3)
    ]) refl is

-- what owns a block is a run that holds it
pub owner_some : (runs : List OwnedRun) (owner : Owners) (b : ℕ) (o : ℕ × ℕ) → TellOwners runs owner → owner b ≡ Some o → (r : OwnedRun) × Contains runs r × Holds b r × (owner_in r b ≡ o)
owner_some runs owner b o tells is =
    let found = some_from (holds_block b) (λ r. owner_in r b) runs o (sym (tells.tell b) ∙ is) in
    (found.0, found.1, holds b found.0 found.2, found.3)

-- The owner goes on to the end of the run.
goes_to : (runs : List OwnedRun) (owner : Owners) (b k : ℕ) (r : OwnedRun) → TellOwners runs owner → Contains runs r → Holds b r → b ≤ k → k < r.first + r.count
    → is_owner (owner k) (advanced (owner b) (k - b)) ≡ true
goes_to runs owner b k r tells among is low high =
    let here : owner b ≡ Some (owner_in r b) = owner_held runs owner b r tells among is in
    let there : owner k ≡ Some (owner_in r k) = owner_held runs owner k r tells among (record { low = omega (arith, is.low); high = high }) in
    let first : r.first ≤ b = is.low in
    let at : r.at + (b - r.first) + (k - b) ≡ r.at + (k - r.first) = omega arith in
    let same : advanced (Some (owner_in r b)) (k - b) ≡ Some (owner_in r k) = ap (λ (x : ℕ). let p : ℕ × ℕ = (r.inode, x) in Some p) at in
    ap (λ (o : Option (ℕ × ℕ)). is_owner o (advanced (owner b) (k - b))) there
    ∙ (ap (λ (o : Option (ℕ × ℕ)). is_owner (Some (owner_in r k)) (advanced o (k - b))) here
    ∙ (ap (is_owner (Some (owner_in r k))) same ∙ is_owner_refl (Some (owner_in r k))))

-- two pairs have the same parts
parts_same : (a b c d : ℕ) → (let p : ℕ × ℕ = (a, b) in p) ≡ (c, d) → (a ≡ c) × (b ≡ d)
parts_same a b c d is = (ap (λ (p : ℕ × ℕ). p.0) is, ap (λ (p : ℕ × ℕ). p.1) is)

-- No run goes on behind its end.
stops_behind : (runs : List OwnedRun) (owner : Owners) (b e : ℕ) (r : OwnedRun) → TellOwners runs owner → Contains runs r → Holds b r → e ≡ r.first + r.count
    → is_owner (owner e) (advanced (owner b) (e - b)) ≡ true → ⊥
stops_behind runs owner b e r tells among is end t =
    let here : owner b ≡ Some (owner_in r b) = owner_held runs owner b r tells among is in
    let low : r.first ≤ b = is.low in
    let high : b < r.first + r.count = is.high in
    let at : r.at + (b - r.first) + (e - b) ≡ r.at + r.count = omega arith in
    let expected : advanced (owner b) (e - b) ≡ Some (r.inode, r.at + r.count) =
    ap (λ (o : Option (ℕ × ℕ)). advanced o (e - b)) here ∙ ap (λ (x : ℕ). let p : ℕ × ℕ = (r.inode, x) in Some p) at in
    let found = owner_some runs owner e (r.inode, r.at + r.count) tells (same_owner (owner e) (advanced (owner b) (e - b)) t ∙ expected) in
    let s : OwnedRun = found.0 in
    let inside : Holds e s = found.2 in
    let same : (s.inode ≡ r.inode) × (s.at + (e - s.first) ≡ r.at + r.count) = parts_same s.inode (s.at + (e - s.first)) r.inode (r.at + r.count) found.3 in
    ⊎_elim
    (λ (one : r ≡ s). absurd (omega (arith, (subst (Holds e) (sym one) inside).high)))
    (λ (two : IsRunBefore r s ⊎ IsRunBefore s r). ⊎_elim
    (λ (first : IsRunBefore r s). first.maximal (record { next = omega (arith, first.apart, inside.low); inode = same.0; at = omega (arith, first.apart, inside.low, same.1) }))
    (λ (second : IsRunBefore s r). absurd (omega (arith, second.apart, inside.high)))
    two)
    (two_cases IsRunBefore runs r s tells.ascending among found.1)

not_from_absurd : (b : Bool) → (b ≡ true → ⊥) → b ≡ false
not_from_absurd b never = ⊎_elim (λ (t : b ≡ true). absurd (never t)) (λ (f : b ≡ false). f) (cases_Bool b)

-- where the owner of a block ends
pub run_end : (runs : List OwnedRun) (owner : Owners) (b end e : ℕ) (r : OwnedRun) → TellOwners runs owner → Contains runs r → Holds b r → b < end → e ≤ end → e ≤ r.first + r.count → b < e
    → (e < end → e ≡ r.first + r.count) → IsEnd (λ c. is_owner (owner c) (advanced (owner b) (c - b))) b end e
run_end runs owner b end e r tells among is order below within some stops = record {
  low = omega arith;
  high = below;
  all = λ k low high. goes_to runs owner b k r tells among is low (omega arith);
  stop = λ h. not_from_absurd _ (stops_behind runs owner b e r tells among is (stops h));
}

some_none : (o : ℕ × ℕ) → (let x : Option (ℕ × ℕ) = Some o in x) ≡ None → ⊥
some_none o is = absurd (cc)

-- a run that holds a block, by its place among runs of which the first ones begin at block b or before
pub none_between : (runs : List OwnedRun) (owner : Owners) (b k j : ℕ) → TellOwners runs owner → IsPartitionPoint (λ r. r.first ≤ b) (λ r. b < r.first) runs j → owner b ≡ None → b ≤ k
    → ((i : ℕ) (d : OwnedRun) → j ≤ i → i < length runs → k < (get_or runs i d).first) → owner k ≡ None
none_between runs owner b k j tells parts none low later =
    owner_none runs owner k tells (λ r among is.
    ⊎_elim
    (λ (early : among.0 < j).
    let begun : (get_or runs among.0 r).first ≤ b = parts.0 among.0 r (omega arith) early in
    let first : r.first ≤ b = subst (λ (s : OwnedRun). s.first ≤ b) among.2 begun in
    let held : owner b ≡ Some (owner_in r b) = owner_held runs owner b r tells among (record { low = first; high = omega (arith, is.high) }) in
    absurd (some_none (owner_in r b) (sym held ∙ none)))
    (λ (late : j ≤ among.0).
    let behind : k < r.first = subst (λ (s : OwnedRun). k < s.first) among.2 (later among.0 r late among.1) in
    absurd (omega (arith, is.low)))
    (cases_lt among.0 j))

-- runs from one on begin at that one or behind it
pub begin_behind : (runs : List OwnedRun) (i j : ℕ) (d : OwnedRun) → AllPairs IsRunBefore runs → j ≤ i → i < length runs → (get_or runs j d).first ≤ (get_or runs i d).first
begin_behind runs i j d pairs order inside =
    ⊎_elim
    (λ (less : j < i). omega (arith, (pairs j i d less inside).apart))
    (λ (same : i ≤ j). let e : j ≡ i = omega arith in subst (λ (n : ℕ). (get_or runs j d).first ≤ (get_or runs n d).first) e (omega arith))
    (cases_lt j i)

-- where the next owner begins
pub next_end : (runs : List OwnedRun) (owner : Owners) (b end e j : ℕ) (r : OwnedRun) → TellOwners runs owner → IsPartitionPoint (λ s. s.first ≤ b) (λ s. b < s.first) runs j → owner b ≡ None → b < end
    → j < length runs → get_or runs j r ≡ r → b < e → e ≤ end → e ≤ r.first → (e < end → e ≡ r.first) → IsEnd (λ c. is_owner (owner c) None) b end e
next_end runs owner b end e j r tells parts none order inside at some below within stops = record {
  low = omega arith;
  high = below;
  all = λ k low high. ap (λ (o : Option (ℕ × ℕ)). is_owner o None) (none_between runs owner b k j tells parts none low (λ i d later here.
      let first : (get_or runs j d).first ≤ (get_or runs i d).first = begin_behind runs i j d tells.ascending later here in
      let same : get_or runs j d ≡ r = get_or_default runs j d r inside ∙ at in
      let is : (get_or runs j d).first ≡ r.first = ap (λ (s : OwnedRun). s.first) same in
      omega arith));
  stop = λ h.
      let is : e ≡ r.first = stops h in
      let run : IsRun r = subst IsRun at (tells.each j r inside) in
      ap (λ (o : Option (ℕ × ℕ)). is_owner o None) (owner_held runs owner e r tells (j, inside, at) (record { low = omega arith; high = omega (arith, run.some) }));
}

-- behind the last run no owner begins
pub no_next : (runs : List OwnedRun) (owner : Owners) (b end j : ℕ) → TellOwners runs owner → IsPartitionPoint (λ s. s.first ≤ b) (λ s. b < s.first) runs j → owner b ≡ None → b < end → length runs ≤ j
    → IsEnd (λ c. is_owner (owner c) None) b end end
no_next runs owner b end j tells parts none order past = record {
  low = omega arith;
  high = omega arith;
  all = λ k low high. ap (λ (o : Option (ℕ × ℕ)). is_owner o None) (none_between runs owner b k j tells parts none low (λ i d later here. absurd (omega arith)));
  stop = λ h. absurd (omega arith);
}

-- Which run holds a block: the last one that begins at it or before, or none.
pub none_holds : (runs : List OwnedRun) (owner : Owners) (b j : ℕ) → j ≤ length runs → TellOwners runs owner → IsPartitionPoint (λ s. s.first ≤ b) (λ s. b < s.first) runs j
    → ((r : OwnedRun) → j ≢ 0 → get_or runs (j - 1) r ≡ r → Holds b r → ⊥) → owner b ≡ None
none_holds runs owner b j bound tells parts last =
    owner_none runs owner b tells (λ r among is.
    ⊎_elim
    (λ (early : among.0 < j).
    ⊎_elim
    (λ (before : among.0 < j - 1).
    let run : OwnedRun = get_or runs (j - 1) r in
    let apart : IsRunBefore (get_or runs among.0 r) run = tells.ascending among.0 (j - 1) r before (omega arith) in
    let own : IsRunBefore r run = subst (λ (s : OwnedRun). IsRunBefore s run) among.2 apart in
    let begun : run.first ≤ b = parts.0 (j - 1) r (omega arith) (omega arith) in
    absurd (omega (arith, own.apart, is.high)))
    (λ (here : j - 1 ≤ among.0).
    let place : among.0 ≡ j - 1 = omega arith in
    last r (λ none. omega (arith, none)) (ap (λ (n : ℕ). get_or runs n r) (sym place) ∙ among.2) is)
    (cases_lt among.0 (j - 1)))
    (λ (late : j ≤ among.0).
    let behind : b < (get_or runs among.0 r).first = parts.1 among.0 r late among.1 in
    let first : b < r.first = subst (λ (s : OwnedRun). b < s.first) among.2 behind in
    absurd (omega (arith, is.low)))
    (cases_lt among.0 j))

-- runs that ascend begin in order
pub first_rises : (runs : List OwnedRun) → AllPairs IsRunBefore runs → IsNonDecreasingBy (λ r. r.first) runs
first_rises runs pairs = λ i j d order inside. begin_behind runs j i d pairs order inside

pub run_small : (runs : List OwnedRun) (owner : Owners) (r : OwnedRun) → TellOwners runs owner → Contains runs r → r.first + r.count < 2 ^ 64
run_small runs owner r tells among = (subst IsRun among.2 (tells.each among.0 r among.1)).small

pub held_low : (runs : List OwnedRun) (owner : Owners) (b : ℕ) (r : OwnedRun) → TellOwners runs owner → Contains runs r → holds_block b r ≡ true → r.at + (b - r.first) < 2 ^ 64
held_low runs owner b r tells among t =
    let is : Holds b r = holds b r t in
    let run : IsRun r = subst IsRun among.2 (tells.each among.0 r among.1) in
    omega (arith, is.high, run.low)

-- a run at a place that holds a block
pub held_at : (runs : List OwnedRun) (owner : Owners) (b j : ℕ) (d : OwnedRun) → TellOwners runs owner → j < length runs → (get_or runs j d).first ≤ b → b - (get_or runs j d).first < (get_or runs j d).count
    → Contains runs (get_or runs j d) × (owner b ≡ Some (owner_in (get_or runs j d) b))
held_at runs owner b j d tells inside low high =
    let among : Contains runs (get_or runs j d) = Contains-get_or runs j d inside in
    (among, owner_held runs owner b (get_or runs j d) tells among (record { low = low; high = omega arith }))

-- the next run at a place
pub next_end_at : (runs : List OwnedRun) (owner : Owners) (b end e j : ℕ) (d : OwnedRun) → TellOwners runs owner → IsPartitionPoint (λ s. s.first ≤ b) (λ s. b < s.first) runs j → owner b ≡ None → b < end
    → j < length runs → b < (get_or runs j d).first → e ≡ min end (get_or runs j d).first → IsEnd (λ c. is_owner (owner c) None) b end e
next_end_at runs owner b end e j d tells parts none order inside behind is =
    next_end runs owner b end e j (get_or runs j d) tells parts none order inside (get_or_default runs j (get_or runs j d) d inside) (omega arith) (omega arith) (omega arith) (λ h. omega arith)

-- a run at the partition point, whatever stands for what is past the end
pub at_part_above : (runs : List OwnedRun) (b j : ℕ) (d : OwnedRun) → IsPartitionPoint (λ r. r.first ≤ b) (λ r. b < r.first) runs j → j < length runs → (get_or runs j d).first ≤ b → ⊥
at_part_above runs b j d parts inside low = let high : b < (get_or runs j d).first = parts.1 j d (omega arith) inside in omega arith

pub same_run : (runs : List OwnedRun) (j : ℕ) (r d : OwnedRun) → j < length runs → get_or runs j r ≡ r → r ≡ get_or runs j d
same_run runs j r d inside is = sym is ∙ get_or_default runs j r d inside

pub not_there : (runs : List OwnedRun) (b j : ℕ) (r d : OwnedRun) → j < length runs → get_or runs j r ≡ r → Holds b r → (get_or runs j d).first ≤ b → (get_or runs j d).count ≤ b - (get_or runs j d).first → ⊥
not_there runs b j r d inside is in_r low high =
    let own : Holds b (get_or runs j d) = subst (Holds b) (same_run runs j r d inside is) in_r in omega (arith, own.low, own.high)

pub not_begun : (runs : List OwnedRun) (b j : ℕ) (r d : OwnedRun) → j < length runs → get_or runs j r ≡ r → Holds b r → b < (get_or runs j d).first → ⊥
not_begun runs b j r d inside is in_r high =
    let own : Holds b (get_or runs j d) = subst (Holds b) (same_run runs j r d inside is) in_r in omega (arith, own.low)
