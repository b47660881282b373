-- The leaves of items, with one more item.
use Rattle.reiser_volume_objects.proofs.Imports.{◌≡◌, ℕ, suc, ◌-◌, ◌<◌, ◌==◌, nat_eq, Bool, true, false, List, [], ◌∷◌, ◌++◌, length, get_or, Option, Some, if◌then◌else◌, refl, sym, ap, ◌∙◌, arith, dedup_from, option_map_or, eqb-true, nat_tests, append-nil, slice_get-get_or, without_repeats, ends_with}

-- the last number of k ∷ bs
abbrev final : ℕ → List ℕ → ℕ
final k [] = k
final k (b ∷ bs) = final b bs

-- something is kept
some_kept : (k : ℕ) (bs : List ℕ) → 0 < length (dedup_from nat_eq k bs)
some_kept k [] = omega arith
some_kept k (b ∷ bs) = by (nat_eq b k) (some_kept k bs)
  where
    by : (t : Bool) → 0 < length (dedup_from nat_eq k bs) → 0 < length (if t then dedup_from nat_eq k bs else k ∷ dedup_from nat_eq b bs)
    by true h = h
    by false h = omega arith

behind_first : (k : ℕ) (bs : List ℕ) (d : ℕ) → 0 < length bs → get_or (k ∷ bs) (length (k ∷ bs) - 1) d ≡ get_or bs (length bs - 1) d
behind_first k [] d h = absurd (omega arith)
behind_first k (b ∷ bs) d h =
    let first : length (k ∷ b ∷ bs) - 1 ≡ suc (length bs) = omega arith in
    let second : length (b ∷ bs) - 1 ≡ length bs = omega arith in
    ap (λ (n : ℕ). get_or (k ∷ b ∷ bs) n d) first ∙ sym (ap (λ (n : ℕ). get_or (b ∷ bs) n d) second)

-- it is the last one that is kept
final_kept : (k : ℕ) (bs : List ℕ) (d : ℕ) → get_or (dedup_from nat_eq k bs) (length (dedup_from nat_eq k bs) - 1) d ≡ final k bs
final_kept k [] d = refl
final_kept k (b ∷ bs) d = by (nat_eq b k) refl (final_kept k bs d) (final_kept b bs d)
  where
    by : (t : Bool) → nat_eq b k ≡ t → get_or (dedup_from nat_eq k bs) (length (dedup_from nat_eq k bs) - 1) d ≡ final k bs
        → get_or (dedup_from nat_eq b bs) (length (dedup_from nat_eq b bs) - 1) d ≡ final b bs
        → get_or (dedup_from nat_eq k (b ∷ bs)) (length (dedup_from nat_eq k (b ∷ bs)) - 1) d ≡ final b bs
    by true e here other = rw e (here ∙ ap (λ (n : ℕ). final n bs) (sym (eqb-true b k e)))
    by false e here other = rw e (behind_first k (dedup_from nat_eq b bs) d (some_kept b bs) ∙ other)

-- one more number
abbrev added : Bool → ℕ → List ℕ
added t x = if t then [] else x ∷ []

push_from : (k : ℕ) (bs : List ℕ) (x : ℕ) → dedup_from nat_eq k (bs ++ x ∷ []) ≡ dedup_from nat_eq k bs ++ added (nat_eq x (final k bs)) x
push_from k [] x = by (nat_eq x k)
  where
    by : (t : Bool) → (if t then k ∷ [] else k ∷ x ∷ []) ≡ (k ∷ []) ++ added t x
    by true = refl
    by false = refl
push_from k (b ∷ bs) x = by (nat_eq b k) refl (push_from k bs x) (push_from b bs x)
  where
    by : (t : Bool) → nat_eq b k ≡ t → dedup_from nat_eq k (bs ++ x ∷ []) ≡ dedup_from nat_eq k bs ++ added (nat_eq x (final k bs)) x
        → dedup_from nat_eq b (bs ++ x ∷ []) ≡ dedup_from nat_eq b bs ++ added (nat_eq x (final b bs)) x
        → dedup_from nat_eq k (b ∷ (bs ++ x ∷ [])) ≡ dedup_from nat_eq k (b ∷ bs) ++ added (nat_eq x (final b bs)) x
    by true e here other = rw e (here ∙ ap (λ (n : ℕ). dedup_from nat_eq k bs ++ added (nat_eq x (final n bs)) x) (sym (eqb-true b k e)))
    by false e here other = rw e (ap (λ (ns : List ℕ). k ∷ ns) other)

-- what the last one that is kept tells
ends_kept : (k : ℕ) (bs : List ℕ) (x : ℕ) → ends_with (dedup_from nat_eq k bs) x ≡ (final k bs == x)
ends_kept k bs x =
    let some : 0 < length (dedup_from nat_eq k bs) = some_kept k bs in
    ap (λ (o : Option ℕ). option_map_or (λ last. last == x) o false)
    (slice_get-get_or (dedup_from nat_eq k bs) (length (dedup_from nat_eq k bs) - 1) x (omega (arith, some)) ∙ ap Some (final_kept k bs x))

-- where the last that is kept is the new one, nothing is added
pub repeat_stays : (bs : List ℕ) (x : ℕ) → ends_with (without_repeats bs) x ≡ true → without_repeats bs ≡ without_repeats (bs ++ x ∷ [])
repeat_stays [] x last = absurd cc
repeat_stays (b ∷ bs) x last =
    let ends : (final b bs == x) ≡ true = sym (ends_kept b bs x) ∙ last in
    let same : nat_eq x (final b bs) ≡ true = grind (arith, nat_tests, ends) in
    sym (push_from b bs x ∙ (ap (λ (t : Bool). dedup_from nat_eq b bs ++ added t x) same ∙ append-nil (dedup_from nat_eq b bs)))

-- where it is another one, or there is none, it is added
pub new_added : (bs : List ℕ) (x : ℕ) → ends_with (without_repeats bs) x ≡ false → without_repeats bs ++ x ∷ [] ≡ without_repeats (bs ++ x ∷ [])
new_added [] x last = refl
new_added (b ∷ bs) x last =
    let ends : (final b bs == x) ≡ false = sym (ends_kept b bs x) ∙ last in
    let other : nat_eq x (final b bs) ≡ false = grind (arith, nat_tests, ends) in
    sym (push_from b bs x ∙ ap (λ (t : Bool). dedup_from nat_eq b bs ++ added t x) other)
