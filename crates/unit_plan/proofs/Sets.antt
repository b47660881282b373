-- Sets of units.
use Rattle.unit_plan.proofs.Imports.{◌≡◌, ℕ, ◌+◌, ◌<◌, ◌≤◌, ◌&&◌, ◌||◌, eqb, leb, ltb, Bool, true, false, List, length, take, set, get_or, replicate, refl, sym, ◌∙◌, ap, arith, ⊎_elim, ◌==◌, cases_eq, cases_lt, ne_eqb, eq-eqb, and_left, and_right, lt-ltb, le-ltb, le-leb, lt-leb, get_or-set_same, get_or-set_other, get_or-replicate, get_or_past, length-replicate, list_any_more, has, Run, is_in, is_among, is_chosen, is_in_runs}

-- one unit more in a set
pub has-insert : (xs : List Bool) (b u : ℕ) → b < length xs → has (set xs b true) u ≡ (has xs u || eqb b u)
has-insert xs b u inside =
    ⊎_elim
    (λ (same : b ≡ u). let there : has (set xs b true) u ≡ true = ap (has (set xs b true)) (sym same) ∙ get_or-set_same xs b true false inside in
    there ∙ sym (ap (λ t. has xs u || t) (eq-eqb b u same) ∙ or_true (has xs u)))
    (λ (other : b ≡ u → ⊥). get_or-set_other xs b u true false (λ e. other (sym e)) ∙ sym (ap (λ t. has xs u || t) (ne_eqb b u other) ∙ or_false (has xs u)))
    (cases_eq b u)
  where
    or_true : (t : Bool) → (t || true) ≡ true
    or_true true = refl
    or_true false = refl

    or_false : (t : Bool) → (t || false) ≡ t
    or_false true = refl
    or_false false = refl

or-assoc : (a b c : Bool) → ((a || b) || c) ≡ (a || (b || c))
or-assoc true b c = refl
or-assoc false b c = refl

-- the first i units are in the set
pub marks_more : (old now : List Bool) (units : List ℕ) (i v u : ℕ) → i < length units → get_or units i v ≡ v → v < length now
    → has now u ≡ (has old u || is_among (take i units) u) → has (set now v true) u ≡ (has old u || is_among (take (i + 1) units) u)
marks_more old now units i v u inside is within so_far =
    has-insert now v u within
    ∙ (ap (λ t. t || eqb v u) so_far
    ∙ (or-assoc (has old u) (is_among (take i units) u) (eqb v u)
    ∙ ap (λ t. has old u || t) (sym (list_any_more (λ w. w == u) units i v inside ∙ ap (λ w. is_among (take i units) u || eqb w u) is))))

-- an empty set has no unit
pub empty_has : (n u : ℕ) → has (replicate n false) u ≡ false
empty_has n u =
    ⊎_elim (λ (h : u < n). get_or-replicate n u false false h) (λ (h : n ≤ u). get_or_past (replicate n false) u false (omega (arith, length-replicate n false))) (cases_lt u n)

-- the units of three lists, put into an empty set one list after the other
pub chosen_is : (none first second third : List Bool) (system metadata data_ : List ℕ) (n u : ℕ) → none ≡ replicate n false
    → has first u ≡ (has none u || is_among system u) → has second u ≡ (has first u || is_among metadata u) → has third u ≡ (has second u || is_among data_ u)
    → has third u ≡ is_chosen system metadata data_ u
unfolding is_chosen
chosen_is none first second third system metadata data_ n u empty a b c =
    let off : has none u ≡ false = ap (λ s. has s u) empty ∙ empty_has n u in
    let a' : has first u ≡ is_among system u = a ∙ ap (λ t. t || is_among system u) off in
    c ∙ (ap (λ t. t || is_among data_ u) (b ∙ ap (λ t. t || is_among metadata u) a') ∙ or-assoc (is_among system u) (is_among metadata u) (is_among data_ u))

-- one unit more of a run
pub run_more : (first u v : ℕ) → first ≤ u → ((leb first v && ltb v u) || eqb u v) ≡ (leb first v && ltb v (u + 1))
run_more first u v low =
    ⊎_elim
    (λ (same : u ≡ v).
    let first_low : leb first v ≡ true = le-leb first v (omega arith) in
    let next : ltb v (u + 1) ≡ true = lt-ltb v (u + 1) (omega arith) in rw (first_low, next, eq-eqb u v same) (or_true (ltb v u)))
    (λ (other : u ≡ v → ⊥).
    ⊎_elim
    (λ (below : v < u).
    let one : ltb v u ≡ true = lt-ltb v u below in
    let two : ltb v (u + 1) ≡ true = lt-ltb v (u + 1) (omega arith) in rw (one, two, ne_eqb u v other) (or_false (leb first v && true)))
    (λ (above : u ≤ v).
    let one : ltb v u ≡ false = le-ltb v u above in
    let two : ltb v (u + 1) ≡ false = le-ltb v (u + 1) (omega (arith, other)) in rw (one, two, ne_eqb u v other) (or_false (leb first v && false)))
    (cases_lt v u))
    (cases_eq u v)
  where
    or_true : (t : Bool) → (t || true) ≡ true
    or_true true = refl
    or_true false = refl

    or_false : (t : Bool) → (t || false) ≡ t
    or_false true = refl
    or_false false = refl

pub run_none : (t : Bool) (first v : ℕ) → t ≡ (t || (leb first v && ltb v first))
run_none t first v =
    let none : (leb first v && ltb v first) ≡ false =
    ⊎_elim (λ (below : v < first). and_left (leb first v) _ (lt-leb first v below)) (λ (above : first ≤ v). and_right (leb first v) (ltb v first) (le-ltb v first above)) (cases_lt v first) in
    rw none (or_false t)
  where
    or_false : (t : Bool) → t ≡ (t || false)
    or_false true = refl
    or_false false = refl

-- a run that is in the set
pub marks_run : (old now : List Bool) (first u v : ℕ) → first ≤ u → u < length now → has now v ≡ (has old v || (leb first v && ltb v u)) → has (set now u true) v ≡ (has old v || (leb first v && ltb v (u + 1)))
marks_run old now first u v low within so_far =
    has-insert now u v within ∙ (ap (λ t. t || eqb u v) so_far ∙ (or-assoc (has old v) (leb first v && ltb v u) (eqb u v) ∙ ap (λ t. has old v || t) (run_more first u v low)))

-- the first i runs are in the set
pub marks_runs : (old now new : List Bool) (runs : List Run) (i v : ℕ) (r : Run) → i < length runs → get_or runs i r ≡ r
    → has now v ≡ (has old v || is_in_runs (take i runs) v) → has new v ≡ (has now v || is_in r.first r.count v) → has new v ≡ (has old v || is_in_runs (take (i + 1) runs) v)
marks_runs old now new runs i v r inside is so_far one =
    one
    ∙ (ap (λ t. t || is_in r.first r.count v) so_far
    ∙ (or-assoc (has old v) (is_in_runs (take i runs) v) (is_in r.first r.count v)
    ∙ ap (λ t. has old v || t) (sym (list_any_more (λ (s : Run). is_in s.first s.count v) runs i r inside ∙ ap (λ (s : Run). is_in_runs (take i runs) v || is_in s.first s.count v) is))))
