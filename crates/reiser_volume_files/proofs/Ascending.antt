-- What the runs of a function say of it.
use Rattle.reiser_volume_files.proofs.Imports.{◌≡◌, ◌≢◌, ℕ, zero, suc, ◌+◌, ◌-◌, ◌<◌, ◌≤◌, Bool, true, false, cond, eqb, ltb, leb, List, [], ◌∷◌, Option, Some, None, All, refl, sym, ap, subst, ◌∙◌, arith, inl, inr, div_ceil, AllPairs, false≢true, cases_lt, cases_eq, cond_both, cond-true, cond-false, and_from, and_left, and_right, and_parts, eqb-true, ne_eqb, le-leb, lt-leb, lt-ltb, le-ltb, All-nil, All-cons, All-head, All-tail, All-weaker, ReiserItem, FileRun, RunFrom, Disk, Tail, next_from, is_next, goes_on, run_of, longer, with_block, extended, runs_of, is_in_run, lies_at, IsFileRunBefore, AreRunsOf, block_from, file_runs}
use Rattle.std.proofs.lemmas.List.Kept.{AllPairs-cons}
use Rattle.reiser_volume_files.proofs.Joining.{no_runs, runs_more}
use Rattle.reiser_volume_files.proofs.Placing.{from_past}

abbrev pub EndsAtRun : ℕ → FileRun → Type 0
EndsAtRun n r = r.at + r.count ≤ n

abbrev pub HasBlocks : FileRun → Type 0
HasBlocks r = 1 ≤ r.count

pub in_run : (r : FileRun) (k : ℕ) → r.at ≤ k → k < r.at + r.count → is_in_run r k ≡ true
in_run r k low high = and_from (leb r.at k) (ltb k (r.at + r.count)) (le-leb _ _ low) (lt-ltb _ _ high)

pub past_run : (r : FileRun) (k : ℕ) → r.at + r.count ≤ k → is_in_run r k ≡ false
past_run r k h = and_right (leb r.at k) (ltb k (r.at + r.count)) (le-ltb _ _ h)

before_run : (r : FileRun) (k : ℕ) → k < r.at → is_in_run r k ≡ false
before_run r k h = and_left (leb r.at k) (ltb k (r.at + r.count)) (lt-leb _ _ h)

next_is : (from : RunFrom) (n : ℕ) (other : RunFrom) → is_next from n other ≡ true → next_from from n ≡ other
next_is (Disk b) n (Disk c) h = ap (λ (x : ℕ). Disk x) (eqb-true (b + n) c h)
next_is (Disk b) n Tail h = absurd (false≢true h)
next_is Tail n (Disk c) h = absurd (false≢true h)
next_is Tail n Tail h = refl

next_none : (from : RunFrom) → next_from from 0 ≡ from
next_none (Disk b) = ap (λ (x : ℕ). Disk x) (omega arith)
next_none Tail = refl

pub lies_in : (r : FileRun) (runs : List FileRun) (k : ℕ) → is_in_run r k ≡ true → lies_at (r ∷ runs) k ≡ Some (next_from r.from (k - r.at))
lies_in r runs k h = cond-true (is_in_run r k) (Some (next_from r.from (k - r.at))) (lies_at runs k) h

pub lies_on : (r : FileRun) (runs : List FileRun) (k : ℕ) → is_in_run r k ≡ false → lies_at (r ∷ runs) k ≡ lies_at runs k
lies_on r runs k h = cond-false (is_in_run r k) (Some (next_from r.from (k - r.at))) (lies_at runs k) h

joins : (r : FileRun) (n : ℕ) (from : RunFrom) → goes_on r n from ≡ true → (r.at + r.count ≡ n) × (next_from r.from r.count ≡ from)
joins r n from h = let both = and_parts (eqb (r.at + r.count) n) (is_next r.from r.count from) h in (eqb-true (r.at + r.count) n both.0, next_is r.from r.count from both.1)

new_in_longer : (r : FileRun) (n : ℕ) (from : RunFrom) → goes_on r n from ≡ true → lies_at (longer r ∷ []) n ≡ Some from
new_in_longer r n from h =
    let both = joins r n from h in
    let place : n - r.at ≡ r.count = omega (arith, both.0) in
    lies_in (longer r) [] n (in_run (longer r) n (omega (arith, both.0)) (omega (arith, both.0))) ∙ ap (λ (d : ℕ). Some (next_from r.from d)) place ∙ ap (λ (x : RunFrom). Some x) both.1

new_alone : (n : ℕ) (from : RunFrom) → lies_at (run_of n from ∷ []) n ≡ Some from
new_alone n from =
    let place : n - n ≡ 0 = omega arith in
    lies_in (run_of n from) [] n (in_run (run_of n from) n (omega arith) (omega arith)) ∙ ap (λ (d : ℕ). Some (next_from from d)) place ∙ ap (λ (x : RunFrom). Some x) (next_none from)

-- the new block lies where it does
lies_new : (runs : List FileRun) (n : ℕ) (from : RunFrom) → All (EndsAtRun n) runs → lies_at (with_block runs n from) n ≡ Some from
lies_new [] n from ends = new_alone n from
lies_new (r ∷ []) n from ends =
    cond_both (goes_on r n from) (longer r ∷ []) (r ∷ run_of n from ∷ []) (λ (rs : List FileRun). lies_at rs n ≡ Some from)
    (λ h. new_in_longer r n from h)
    (λ h. lies_on r (run_of n from ∷ []) n (past_run r n (All-head (EndsAtRun n) r [] ends)) ∙ new_alone n from)
lies_new (r ∷ (s ∷ runs)) n from ends =
    lies_on r (with_block (s ∷ runs) n from) n (past_run r n (All-head (EndsAtRun n) r (s ∷ runs) ends)) ∙ lies_new (s ∷ runs) n from (All-tail (EndsAtRun n) r (s ∷ runs) ends)

old_in_longer : (r : FileRun) (k : ℕ) → k ≢ r.at + r.count → lies_at (longer r ∷ []) k ≡ lies_at (r ∷ []) k
old_in_longer r k other =
    elim (cases_lt k r.at) as (λ _. lies_at (longer r ∷ []) k ≡ lies_at (r ∷ []) k) [
      | inl h ↦ lies_on (longer r) [] k (before_run (longer r) k h) ∙ sym (lies_on r [] k (before_run r k h))
      | inr low ↦
          elim (cases_lt k (r.at + r.count)) as (λ _. lies_at (longer r ∷ []) k ≡ lies_at (r ∷ []) k) [
            | inl high ↦ lies_in (longer r) [] k (in_run (longer r) k low (omega (arith, high))) ∙ sym (lies_in r [] k (in_run r k low high))
            | inr past ↦
                let further : r.at + (r.count + 1) ≤ k = omega (arith, past, other) in
                lies_on (longer r) [] k (past_run (longer r) k further) ∙ sym (lies_on r [] k (past_run r k past))
          ]
    ]

not_alone : (n k : ℕ) (from : RunFrom) → k ≢ n → lies_at (run_of n from ∷ []) k ≡ None
not_alone n k from other =
    elim (cases_lt k n) as (λ _. lies_at (run_of n from ∷ []) k ≡ None) [
      | inl h ↦ lies_on (run_of n from) [] k (before_run (run_of n from) k h)
      | inr h ↦ lies_on (run_of n from) [] k (past_run (run_of n from) k (omega (arith, h, other)))
    ]

same_rest : (r : FileRun) (rs ts : List FileRun) (k : ℕ) → lies_at rs k ≡ lies_at ts k → lies_at (r ∷ rs) k ≡ lies_at (r ∷ ts) k
same_rest r rs ts k same = ap (λ (o : Option RunFrom). cond (is_in_run r k) (Some (next_from r.from (k - r.at))) o) same

-- every other one lies where it did
lies_old : (runs : List FileRun) (n k : ℕ) (from : RunFrom) → k ≢ n → lies_at (with_block runs n from) k ≡ lies_at runs k
lies_old [] n k from other = not_alone n k from other
lies_old (r ∷ []) n k from other =
    cond_both (goes_on r n from) (longer r ∷ []) (r ∷ run_of n from ∷ []) (λ (rs : List FileRun). lies_at rs k ≡ lies_at (r ∷ []) k)
    (λ h. old_in_longer r k (λ (e : k ≡ r.at + r.count). other (e ∙ (joins r n from h).0)))
    (λ h. same_rest r (run_of n from ∷ []) [] k (not_alone n k from other))
lies_old (r ∷ (s ∷ runs)) n k from other = same_rest r (with_block (s ∷ runs) n from) (s ∷ runs) k (lies_old (s ∷ runs) n k from other)

-- P of each run stays, where it holds of a longer one and of a new one
kept_with : (P : FileRun → Type 0) → (runs : List FileRun) (n : ℕ) (from : RunFrom) → ((r : FileRun) → goes_on r n from ≡ true → P r → P (longer r)) → P (run_of n from) → All P runs → All P (with_block runs n from)
kept_with P [] n from longer_too new all = All-cons P (run_of n from) [] new (All-nil P)
kept_with P (r ∷ []) n from longer_too new all =
    cond_both (goes_on r n from) (longer r ∷ []) (r ∷ run_of n from ∷ []) (λ (rs : List FileRun). All P rs)
    (λ h. All-cons P (longer r) [] (longer_too r h (All-head P r [] all)) (All-nil P))
    (λ h. All-cons P r (run_of n from ∷ []) (All-head P r [] all) (All-cons P (run_of n from) [] new (All-nil P)))
kept_with P (r ∷ (s ∷ runs)) n from longer_too new all =
    All-cons P r (with_block (s ∷ runs) n from) (All-head P r (s ∷ runs) all) (kept_with P (s ∷ runs) n from longer_too new (All-tail P r (s ∷ runs) all))

ends_with : (runs : List FileRun) (n : ℕ) (from : RunFrom) → All (EndsAtRun n) runs → All (EndsAtRun (n + 1)) (with_block runs n from)
ends_with runs n from all =
    kept_with (EndsAtRun (n + 1)) runs n from (λ r on h. let both = joins r n from on in omega (arith, both.0)) (omega arith)
    (All-weaker (EndsAtRun n) (EndsAtRun (n + 1)) (λ r h. omega (arith, h)) runs all)

some_with : (runs : List FileRun) (n : ℕ) (from : RunFrom) → All HasBlocks runs → All HasBlocks (with_block runs n from)
some_with runs n from all = kept_with HasBlocks runs n from (λ r on h. omega (arith, h)) (omega arith) all

-- each run lies before those behind it
abbrev pub Ascend : List FileRun → Type 0
Ascend [] = Unit {0}
Ascend (r ∷ runs) = All (IsFileRunBefore r) runs × Ascend runs

before_all : (r s : FileRun) → (runs : List FileRun) (n : ℕ) (from : RunFrom) → All (IsFileRunBefore r) (s ∷ runs) → All HasBlocks (s ∷ runs) → All (EndsAtRun n) (s ∷ runs)
    → All (IsFileRunBefore r) (with_block (s ∷ runs) n from)
before_all r s [] n from before some ends =
    let first : IsFileRunBefore r s = All-head (IsFileRunBefore r) s [] before in
    cond_both (goes_on s n from) (longer s ∷ []) (s ∷ run_of n from ∷ []) (λ (rs : List FileRun). All (IsFileRunBefore r) rs)
    (λ h. All-cons (IsFileRunBefore r) (longer s) [] (record { apart = first.apart; maximal = first.maximal }) (All-nil (IsFileRunBefore r)))
    (λ h.
    let end : EndsAtRun n s = All-head (EndsAtRun n) s [] ends in
    let has : HasBlocks s = All-head HasBlocks s [] some in
    let gap : r.at + r.count ≡ n → ⊥ = λ (e : r.at + r.count ≡ n). omega (arith, e, end, has, first.apart) in
    All-cons (IsFileRunBefore r) s (run_of n from ∷ []) first (All-cons (IsFileRunBefore r) (run_of n from) []
    (record { apart = omega (arith, end, has, first.apart); maximal = and_left (eqb (r.at + r.count) n) (is_next r.from r.count from) (ne_eqb _ _ gap) }) (All-nil (IsFileRunBefore r))))
before_all r s (t ∷ runs) n from before some ends =
    All-cons (IsFileRunBefore r) s (with_block (t ∷ runs) n from) (All-head (IsFileRunBefore r) s (t ∷ runs) before)
    (before_all r t runs n from (All-tail (IsFileRunBefore r) s (t ∷ runs) before) (All-tail HasBlocks s (t ∷ runs) some) (All-tail (EndsAtRun n) s (t ∷ runs) ends))

ascend_with : (runs : List FileRun) (n : ℕ) (from : RunFrom) → Ascend runs → All HasBlocks runs → All (EndsAtRun n) runs → Ascend (with_block runs n from)
ascend_with [] n from up some ends = (All-nil (IsFileRunBefore (run_of n from)), tt)
ascend_with (r ∷ []) n from up some ends =
    cond_both (goes_on r n from) (longer r ∷ []) (r ∷ run_of n from ∷ []) Ascend
    (λ h. (All-nil (IsFileRunBefore (longer r)), tt))
    (λ h. (All-cons (IsFileRunBefore r) (run_of n from) [] (record { apart = All-head (EndsAtRun n) r [] ends; maximal = h }) (All-nil (IsFileRunBefore r)), (All-nil (IsFileRunBefore (run_of n from)), tt)))
ascend_with (r ∷ (s ∷ runs)) n from up some ends = (
  before_all r s runs n from up.0 (All-tail HasBlocks r (s ∷ runs) some) (All-tail (EndsAtRun n) r (s ∷ runs) ends),
  ascend_with (s ∷ runs) n from up.1 (All-tail HasBlocks r (s ∷ runs) some) (All-tail (EndsAtRun n) r (s ∷ runs) ends),
)

pub pairs_of : (runs : List FileRun) → Ascend runs → AllPairs IsFileRunBefore runs
pairs_of [] a = λ i j d h l. absurd (omega (arith, l))
pairs_of (r ∷ runs) a = AllPairs-cons IsFileRunBefore r runs a.0 (pairs_of runs a.1)

-- these are the runs of the first n blocks of a function
record AreFirst (f : ℕ → Option RunFrom) (n : ℕ) (runs : List FileRun) : Type 0 where
  below : (k : ℕ) → k < n → lies_at runs k ≡ f k
  above : (k : ℕ) → n ≤ k → lies_at runs k ≡ None
  some : All HasBlocks runs
  ends : All (EndsAtRun n) runs
  up : Ascend runs

first_more : (f : ℕ → Option RunFrom) (n : ℕ) (runs : List FileRun) → (o : Option RunFrom) → f n ≡ o → AreFirst f n runs → AreFirst f (n + 1) (extended runs n o)
first_more f n runs None is first = record {
  below = λ k h.
      elim (cases_lt k n) as (λ _. lies_at runs k ≡ f k) [
        | inl low ↦ first.below k low
        | inr high ↦ let same : k ≡ n = omega (arith, h, high) in first.above k high ∙ sym (ap f same ∙ is)
      ];
  above = λ k h. first.above k (omega (arith, h));
  some = first.some;
  ends = All-weaker (EndsAtRun n) (EndsAtRun (n + 1)) (λ r h. omega (arith, h)) runs first.ends;
  up = first.up;
}
first_more f n runs (Some from) is first = record {
  below = λ k h.
      elim (cases_eq k n) as (λ _. lies_at (with_block runs n from) k ≡ f k) [
        | inl same ↦ ap (λ (j : ℕ). lies_at (with_block runs n from) j) same ∙ lies_new runs n from first.ends ∙ sym (ap f same ∙ is)
        | inr other ↦ lies_old runs n k from other ∙ first.below k (omega (arith, h, other))
      ];
  above = λ k h. lies_old runs n k from (λ (e : k ≡ n). omega (arith, e, h)) ∙ first.above k (omega (arith, h));
  some = some_with runs n from first.some;
  ends = ends_with runs n from first.ends;
  up = ascend_with runs n from first.up first.some first.ends;
}

first_of_function : (f : ℕ → Option RunFrom) → (n : ℕ) → AreFirst f n (runs_of f n)
first_of_function f zero = subst (λ (rs : List FileRun). AreFirst f 0 rs) (sym (no_runs f)) (record {
  below = λ k h. absurd (omega (arith, h));
  above = λ k h. refl;
  some = All-nil HasBlocks;
  ends = All-nil (EndsAtRun 0);
  up = tt;
})
first_of_function f (suc n) =
    let up : n + 1 ≡ suc n = omega arith in
    let more : AreFirst f (n + 1) (runs_of f (n + 1)) = subst (λ (rs : List FileRun). AreFirst f (n + 1) rs) (sym (runs_more f n)) (first_more f n (runs_of f n) (f n) refl (first_of_function f n)) in
    subst (λ (k : ℕ). AreFirst f k (runs_of f k)) up more

-- the map of a file says where its blocks lie
pub file_runs_are : (items : List ReiserItem) (size : ℕ) → AreRunsOf (block_from items size) (file_runs items size)
file_runs_are items size =
    let first : AreFirst (block_from items size) (div_ceil size 4096) (file_runs items size) = first_of_function (block_from items size) (div_ceil size 4096) in
    record {
      covers = λ k.
          elim (cases_lt k (div_ceil size 4096)) as (λ _. lies_at (file_runs items size) k ≡ block_from items size k) [
            | inl h ↦ first.below k h
            | inr h ↦ first.above k h ∙ sym (from_past items size k (omega (arith, h)))
          ];
      some = first.some;
      ascending = pairs_of (file_runs items size) first.up;
    }
