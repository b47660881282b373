-- One used range more.
use Rattle.free_space.proofs.Imports.{◌≡◌, ◌≤◌, ◌<◌, ℕ, ◌+◌, max, List, [], ◌∷◌, ◌++◌, drop, length, length-append, refl, slice_get, None, Option, MatchOption, Some, arith, behind, gap, gaps, end_of, Range}

pub gaps_of_first : (at end : ℕ) (used : List Range) (u : Range) → slice_get used 0 ≡ Some u → u.address < end
    → gaps at end used ≡ gap at u.address ++ gaps (max at (end_of u)) end (drop 1 used)
gaps_of_first at end [] u first within = grind (arith, first)
gaps_of_first at end (v ∷ used) u first within = grind (arith, first, within)

pub behind_first : (end : ℕ) (used : List Range) (u : Range) → slice_get used 0 ≡ Some u → u.address < end → behind end used ≡ behind end (drop 1 used)
behind_first end [] u first within = grind (arith, first)
behind_first end (v ∷ used) u first within = grind (arith, first, within)

pub no_first : (end : ℕ) (used : List Range) → slice_get used 0 ≡ None → ((at : ℕ) → gaps at end used ≡ gap at end) × (used ≡ behind end used)
no_first end [] none = ((λ at. refl), refl)
no_first end (u ∷ used) none = ((λ at. grind (arith, none)), grind (arith, none))

pub first_past : (end : ℕ) (used : List Range) (u : Range) → slice_get used 0 ≡ Some u → end ≤ u.address → ((at : ℕ) → gaps at end used ≡ gap at end) × (used ≡ behind end used)
first_past end [] u first past = ((λ at. grind (arith, first)), grind (arith, first))
first_past end (v ∷ used) u first past = ((λ at. grind (arith, first, past)), grind (arith, first, past))

pub none_behind_zero : (used : List Range) → behind 0 used ≡ used
none_behind_zero [] = refl
none_behind_zero (u ∷ used) = grind arith

pub no_gaps_to_zero : (used : List Range) → gaps 0 0 used ≡ []
no_gaps_to_zero [] = refl
no_gaps_to_zero (u ∷ used) = grind arith

gap_length : (at end : ℕ) → length (gap at end) ≤ 1
gap_length at end = grind arith

-- there is one gap more than used ranges, at most
pub gaps_few : (at end : ℕ) (used : List Range) → length (gaps at end used) ≤ length used + 1
gaps_few at end [] = grind (arith, gap_length at end)
gaps_few at end (u ∷ used) = grind (arith, gap_length at end, gap_length at u.address, gaps_few (max at (end_of u)) end used, length-append)

-- the last run, where no used range begins before the end
pub last_run : (result : Option Range) (at end at' end' : ℕ) (used used' : List Range) (runs : List Range) → gaps at end used ≡ runs → ((n : ℕ) → gaps n end used ≡ gap n end)
    → end' ≡ end → used' ≡ used
    → MatchOption result (gap at end ≡ []) (λ run. gap at end ≡ run ∷ []) → MatchOption result (at' ≡ at) (λ _. at' ≡ end)
    → MatchOption result ((runs ≡ []) × (gaps at' end' used' ≡ [])) (λ run. runs ≡ run ∷ gaps at' end' used')
last_run None at end at' end' used used' runs are none same_end same_used gap_is at_is =
    (grind (arith, are, none at, gap_is), grind (arith, none at, gap_is, at_is, same_end, same_used))
last_run (Some run) at end at' end' used used' runs are none same_end same_used gap_is at_is = grind (arith, are, none at, none at', gap_is, at_is, same_end, same_used)
