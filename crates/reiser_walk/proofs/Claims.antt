-- Pointers of a list, one after the other.
use Rattle.reiser_walk.proofs.Imports.{◌≡◌, ℕ, zero, suc, ◌+◌, ◌≤◌, Bool, true, false, List, [], ◌∷◌, ◌++◌, length, filter, drop, Some, slice_get, refl, ◌∙◌, ap, arith, BlockPointer, ReiserTree, held_by, is_no_hole, reach_damages, seen_after}
use Rattle.reiser_walk.proofs.Events.{reach_damages-append, seen_after-append}

pub held_by-append : (holder : ℕ) (xs ys : List ℕ) → held_by holder (xs ++ ys) ≡ held_by holder xs ++ held_by holder ys
held_by-append holder [] ys = refl
held_by-append holder (x ∷ xs) ys = ap (λ (z : List BlockPointer). record { block = x; holder = holder } ∷ z) (held_by-append holder xs ys)

filter_first : (p : ℕ → Bool) (x : ℕ) (xs : List ℕ) (t : Bool) → p x ≡ t → filter p (x ∷ xs) ≡ filter p (x ∷ []) ++ filter p xs
filter_first p x xs true e = rw e refl
filter_first p x xs false e = rw e refl

drop_at : (xs : List ℕ) (i x : ℕ) → slice_get xs i ≡ Some x → drop i xs ≡ x ∷ drop (suc i) xs
drop_at [] i x h = absurd cc
drop_at (y ∷ xs) zero x h = grind arith
drop_at (y ∷ xs) (suc i) x h = drop_at xs i x h

pub drop_end : (xs : List ℕ) (i : ℕ) → length xs ≤ i → drop i xs ≡ []
drop_end [] zero h = refl
drop_end [] (suc i) h = refl
drop_end (x ∷ xs) zero h = absurd (omega arith)
drop_end (x ∷ xs) (suc i) h = drop_end xs i (omega arith)

-- what is left of a list of pointers: the next one, and what is left after it
left_step : (xs : List ℕ) (holder i x : ℕ) → slice_get xs i ≡ Some x
    → held_by holder (filter is_no_hole (drop i xs)) ≡ held_by holder (filter is_no_hole (x ∷ [])) ++ held_by holder (filter is_no_hole (drop (i + 1) xs))
left_step xs holder i x h =
    let e : suc i ≡ i + 1 = omega arith in
    ap (λ (z : List ℕ). held_by holder (filter is_no_hole z)) (drop_at xs i x h)
    ∙ (ap (held_by holder) (filter_first is_no_hole x (drop (suc i) xs) (is_no_hole x) refl)
    ∙ (held_by-append holder (filter is_no_hole (x ∷ [])) (filter is_no_hole (drop (suc i) xs))
    ∙ ap (λ (k : ℕ). held_by holder (filter is_no_hole (x ∷ [])) ++ held_by holder (filter is_no_hole (drop k xs))) e))

pub damages_step : (tree : ReiserTree) (used : List Bool) (now xs : List ℕ) (holder i x : ℕ) → slice_get xs i ≡ Some x
    → reach_damages tree used now (held_by holder (filter is_no_hole (drop i xs)))
    ≡ reach_damages tree used now (held_by holder (filter is_no_hole (x ∷ []))) ++ reach_damages tree used (seen_after now (held_by holder (filter is_no_hole (x ∷ [])))) (held_by holder (filter is_no_hole (drop (i + 1) xs)))
damages_step tree used now xs holder i x h = ap (reach_damages tree used now) (left_step xs holder i x h) ∙ reach_damages-append tree used now (held_by holder (filter is_no_hole (x ∷ []))) _

pub seen_step : (now xs : List ℕ) (holder i x : ℕ) → slice_get xs i ≡ Some x
    → seen_after now (held_by holder (filter is_no_hole (drop i xs)))
    ≡ seen_after (seen_after now (held_by holder (filter is_no_hole (x ∷ [])))) (held_by holder (filter is_no_hole (drop (i + 1) xs)))
seen_step now xs holder i x h = ap (seen_after now) (left_step xs holder i x h) ∙ seen_after-append now (held_by holder (filter is_no_hole (x ∷ []))) _
