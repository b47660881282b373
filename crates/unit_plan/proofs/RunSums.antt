-- The units that some of the runs have together, and which runs stay.
use Rattle.unit_plan.proofs.Imports.{◌≡◌, ℕ, zero, suc, ◌+◌, ◌-◌, ◌/◌, ◌<◌, ◌≤◌, ◌^◌, ◌&&◌, ◌||◌, ltb, leb, eqb, Bool, true, false, List, [], ◌∷◌, ◌++◌, length, take, drop, get_or, cond, refl, sym, ◌∙◌, ap, arith, ⊎_elim, slice_index, All, AllPairs, filter, cases_Bool, cases_lt, both_ways, or_right, ne_eqb, lt-ltb, le-ltb, le-leb, ltb-true, take-append-drop, take_more, get_or-take, get_or-drop, length-take, length-drop, filter-append, sum_by-cons, sum_by-append, sum_by-take-le, Run, units_in, is_longer, is_as_long, is_ahead, stays, staying}

-- the units of the runs that pass
abbrev pub part : (Run → Bool) → List Run → ℕ
part p runs = units_in (filter p runs)

pub units_in-nil : units_in [] ≡ 0
unfolding units_in
units_in-nil = refl

units_in-cons : (r : Run) (runs : List Run) → units_in (r ∷ runs) ≡ r.count + units_in runs
unfolding units_in
units_in-cons r runs = sum_by-cons (λ (r : Run). r.count) r runs

units_in-append : (xs ys : List Run) → units_in (xs ++ ys) ≡ units_in xs + units_in ys
unfolding units_in
units_in-append xs ys = sum_by-append (λ (r : Run). r.count) xs ys

units_in-take : (runs : List Run) (i : ℕ) → units_in (take i runs) ≤ units_in runs
unfolding units_in
units_in-take runs i = sum_by-take-le (λ (r : Run). r.count) runs i

part-cons : (p : Run → Bool) (r : Run) (runs : List Run) → part p (r ∷ runs) ≡ cond (p r) r.count 0 + part p runs
part-cons p r runs =
    ⊎_elim (λ (t : p r ≡ true). rw t (units_in-cons r (filter p runs))) (λ (t : p r ≡ false). rw t (omega arith)) (cases_Bool (p r))

part-append : (p : Run → Bool) (xs ys : List Run) → part p (xs ++ ys) ≡ part p xs + part p ys
part-append p xs ys = ap units_in (filter-append p xs ys) ∙ units_in-append (filter p xs) (filter p ys)

-- one run more
pub units_more : (runs : List Run) (i : ℕ) (r : Run) → i < length runs → get_or runs i r ≡ r → units_in (take (i + 1) runs) ≡ units_in (take i runs) + r.count
units_more runs i r inside is =
    let cut : take (i + 1) runs ≡ take i runs ++ r ∷ [] = take_more runs i r inside ∙ ap (λ (s : Run). take i runs ++ s ∷ []) is in
    omega (arith, ap units_in cut, units_in-append (take i runs) (r ∷ []), units_in-cons r [], units_in-nil)

pub part_more : (p : Run → Bool) (runs : List Run) (i : ℕ) (r : Run) → i < length runs → get_or runs i r ≡ r → part p (take (i + 1) runs) ≡ part p (take i runs) + cond (p r) r.count 0
part_more p runs i r inside is =
    let cut : take (i + 1) runs ≡ take i runs ++ r ∷ [] = take_more runs i r inside ∙ ap (λ (s : Run). take i runs ++ s ∷ []) is in
    omega (arith, ap (part p) cut, part-append p (take i runs) (r ∷ []), part-cons p r [], units_in-nil)

-- the units of a part are not more
at_most : (b : Bool) (n : ℕ) → cond b n 0 ≤ n
at_most true n = omega arith
at_most false n = omega arith

part_few : (p : Run → Bool) (runs : List Run) → part p runs ≤ units_in runs
part_few p [] = omega arith
part_few p (r ∷ runs) = omega (arith, part-cons p r runs, units_in-cons r runs, part_few p runs, at_most (p r) r.count)

pub sum_small : (runs : List Run) (i : ℕ) (r : Run) → units_in runs < 2 ^ 60 → i < length runs → get_or runs i r ≡ r → units_in (take i runs) + r.count < 2 ^ 60
sum_small runs i r small inside is = omega (arith, units_more runs i r inside is, units_in-take runs (i + 1))

pub part_small : (p : Run → Bool) (runs : List Run) (i : ℕ) (r : Run) → units_in runs < 2 ^ 60 → i < length runs → get_or runs i r ≡ r → part p (take i runs) + r.count < 2 ^ 64
part_small p runs i r small inside is = omega (arith, part_few p (take i runs), sum_small runs i r small inside is)

-- the units of two parts and of the next run can be added
pub counted_small : (p q : Run → Bool) (runs : List Run) (i : ℕ) (r : Run) → units_in runs < 2 ^ 60 → i < length runs → get_or runs i r ≡ r
    → part p runs + part q (take i runs) + r.count < 2 ^ 64
counted_small p q runs i r small inside is = omega (arith, part_few p runs, part_few q (take i runs), sum_small runs i r small inside is)

-- what is ahead of a run: longer ones, and as long ones before it
longer_or_as_long : (run other : Run) → is_longer run.count other ≡ true → is_as_long run.count other ≡ false
longer_or_as_long run other t =
    let more : run.count < other.count = ltb-true run.count other.count t in
    ne_eqb other.count run.count (λ same. omega (arith, more))

lower : (l e f : Bool) (n : ℕ) → f ≡ true → (l ≡ true → e ≡ false) → cond (l || (e && f)) n 0 ≡ cond l n 0 + cond e n 0
lower true true f n t off = absurd (both_ways true (off refl) refl)
lower true false f n t off = omega arith
lower false false f n t off = omega arith
lower false true true n t off = omega arith
lower false true false n t off = absurd (both_ways false refl t)

higher : (l e f : Bool) (n : ℕ) → f ≡ false → cond (l || (e && f)) n 0 ≡ cond l n 0
higher true e f n t = refl
higher false false f n t = refl
higher false true true n t = absurd (both_ways true t refl)
higher false true false n t = refl

ahead_below : (run : Run) (runs : List Run) → ((k : ℕ) → k < length runs → (get_or runs k run).first < run.first)
    → part (is_ahead run) runs ≡ part (is_longer run.count) runs + part (is_as_long run.count) runs
ahead_below run [] below = omega (arith, units_in-nil)
ahead_below run (r ∷ runs) below =
    let first : r.first < run.first = below 0 (omega arith) in
    let here = lower (is_longer run.count r) (is_as_long run.count r) (ltb r.first run.first) r.count (lt-ltb r.first run.first first) (longer_or_as_long run r) in
    omega (
      arith,
      here,
      part-cons (is_ahead run) r runs,
      part-cons (is_longer run.count) r runs,
      part-cons (is_as_long run.count) r runs,
      ahead_below run runs (λ k h. below (suc k) (omega (arith, h))),
    )

ahead_above : (run : Run) (runs : List Run) → ((k : ℕ) → k < length runs → run.first ≤ (get_or runs k run).first) → part (is_ahead run) runs ≡ part (is_longer run.count) runs
ahead_above run [] above = refl
ahead_above run (r ∷ runs) above =
    let first : run.first ≤ r.first = above 0 (omega arith) in
    let here = higher (is_longer run.count r) (is_as_long run.count r) (ltb r.first run.first) r.count (le-ltb r.first run.first first) in
    omega (
      arith,
      here,
      part-cons (is_ahead run) r runs,
      part-cons (is_longer run.count) r runs,
      ahead_above run runs (λ k h. above (suc k) (omega (arith, h))),
    )

pub ahead_is : (runs : List Run) (i : ℕ) (run : Run) → AllPairs (λ r s. r.first < s.first) runs → i < length runs → get_or runs i run ≡ run
    → part (is_ahead run) runs ≡ part (is_longer run.count) runs + part (is_as_long run.count) (take i runs)
ahead_is runs i run ascend inside is =
    let cut : take i runs ++ drop i runs ≡ runs = take-append-drop i runs in
    let at : (get_or runs i run).first ≡ run.first = ap (λ (r : Run). r.first) is in
    let below = ahead_below run (take i runs) (λ k h.
    let few : k < i = omega (arith, h, length-take i runs) in
    let apart : (get_or runs k run).first < (get_or runs i run).first = ascend k i run few inside in
    omega (arith, ap (λ (r : Run). r.first) (get_or-take i runs k run few), apart, at)) in
    let above = ahead_above run (drop i runs) (λ k h.
    let there : (get_or (drop i runs) k run).first ≡ (get_or runs (i + k) run).first = ap (λ (r : Run). r.first) (get_or-drop i runs k run) in
    ⊎_elim (λ (later : 0 < k). let apart : (get_or runs i run).first < (get_or runs (i + k) run).first = ascend i (i + k) run (omega (arith, later)) (omega (arith, h, length-drop i runs)) in
    omega (arith, there, apart, at))
    (λ (here : k ≤ 0). let same : i + k ≡ i = omega (arith, here) in omega (arith, there, ap (λ (j : ℕ). (get_or runs j run).first) same, at))
    (cases_lt 0 k)) in
    omega (
      arith,
      below,
      above,
      ap (part (is_ahead run)) cut,
      ap (part (is_longer run.count)) cut,
      part-append (is_ahead run) (take i runs) (drop i runs),
      part-append (is_longer run.count) (take i runs) (drop i runs),
    )

-- the test of the next run, by the units that are ahead at each length
pub stays_is : (runs : List Run) (i : ℕ) (run : Run) (ahead : List ℕ) (enough : ℕ) → AllPairs (λ r s. r.first < s.first) runs → i < length runs → get_or runs i run ≡ run
    → ((c : ℕ) → c < 256 → slice_index ahead c ≡ part (is_longer c) runs + part (is_as_long c) (take i runs)) → enough ≡ 1024 + units_in runs / 64
    → (leb 256 run.count || ltb (slice_index ahead run.count) enough) ≡ stays runs run
stays_is runs i run ahead enough ascend inside is counted enough_is =
    ⊎_elim
    (λ (short : run.count < 256).
    let before : slice_index ahead run.count ≡ part (is_ahead run) runs = counted run.count short ∙ sym (ahead_is runs i run ascend inside is) in
    ap (λ (n : ℕ). leb 256 run.count || ltb n enough) before ∙ ap (λ (m : ℕ). leb 256 run.count || ltb (part (is_ahead run) runs) m) enough_is)
    (λ (long : 256 ≤ run.count). let on : leb 256 run.count ≡ true = le-leb 256 run.count long in rw on refl)
    (cases_lt run.count 256)

-- one run more that stays, or does not
pub kept_more : (p : Run → Bool) (runs : List Run) (i : ℕ) (r : Run) → i < length runs → get_or runs i r ≡ r → filter p (take (i + 1) runs) ≡ filter p (take i runs) ++ cond (p r) (r ∷ []) []
kept_more p runs i r inside is =
    ap (filter p) (take_more runs i r inside ∙ ap (λ (s : Run). take i runs ++ s ∷ []) is) ∙ filter-append p (take i runs) (r ∷ [])

-- runs that ascend have no more units than there are numbers
pub ascending_few : (runs : List Run) (a n : ℕ) → AllPairs (λ r s. r.first + r.count < s.first) runs → All (λ r. a ≤ r.first) runs → All (λ r. r.first + r.count ≤ n) runs → units_in runs ≤ n - a
ascending_few [] a n ascend low high = omega (arith, units_in-nil)
ascending_few (r ∷ runs) a n ascend low high =
    let first : a ≤ r.first = low 0 r (omega arith) in
    let end : r.first + r.count ≤ n = high 0 r (omega arith) in
    let rest : units_in runs ≤ n - (r.first + r.count) =
    ascending_few runs (r.first + r.count) n (λ i j d l h. ascend (suc i) (suc j) d (omega (arith, l)) (omega (arith, h)))
    (λ k d h. let apart : r.first + r.count < (get_or runs k d).first = ascend 0 (suc k) d (omega arith) (omega (arith, h)) in omega (arith, apart)) (λ k d h. high (suc k) d (omega (arith, h))) in
    omega (arith, units_in-cons r runs, rest, first, end)

-- a run is not ahead of itself
not_ahead : (run : Run) → is_ahead run run ≡ false
not_ahead run =
    let longer : ltb run.count run.count ≡ false = le-ltb run.count run.count (omega arith) in
    let lower : ltb run.first run.first ≡ false = le-ltb run.first run.first (omega arith) in
    rw (longer, lower) (off (eqb run.count run.count))
  where
    off : (b : Bool) → (b && false) ≡ false
    off true = refl
    off false = refl

-- the units of a part and of a run that it leaves out are not more than all
part_without : (p : Run → Bool) (runs : List Run) (k : ℕ) (d : Run) → k < length runs → p (get_or runs k d) ≡ false → part p runs + (get_or runs k d).count ≤ units_in runs
part_without p [] k d inside off = absurd (omega arith)
part_without p (r ∷ runs) zero d inside off =
    let none : cond {A = ℕ} (p r) r.count 0 ≡ 0 = ap (λ (b : Bool). cond {A = ℕ} b r.count 0) off in
    omega (arith, none, part-cons p r runs, units_in-cons r runs, part_few p runs)
part_without p (r ∷ runs) (suc k) d inside off =
    omega (arith, part-cons p r runs, units_in-cons r runs, at_most (p r) r.count, part_without p runs k d (omega (arith, inside)) off)

filter_whole : (p : Run → Bool) (runs : List Run) → All (λ r. p r ≡ true) runs → filter p runs ≡ runs
filter_whole p [] all = refl
filter_whole p (r ∷ runs) all =
    let here : p r ≡ true = all 0 r (omega arith) in
    rw here (ap (λ (rs : List Run). r ∷ rs) (filter_whole p runs (λ k d h. all (suc k) d (omega (arith, h)))))

-- at most 1024 units all stay
pub few_stay : (runs : List Run) → All (λ r. 0 < r.count) runs → units_in runs ≤ 1024 → staying runs ≡ runs
unfolding staying
few_stay runs some few =
    filter_whole (stays runs) runs
    (λ k d h.
    let r : Run = get_or runs k d in
    let count : 0 < r.count = some k d h in
    let before : part (is_ahead r) runs < 1024 + units_in runs / 64 = omega (arith, count, few, part_without (is_ahead r) runs k d h (not_ahead r)) in
    or_right (leb 256 r.count) _ (lt-ltb (part (is_ahead r) runs) (1024 + units_in runs / 64) before))
