-- The map of addresses, behind the ranges that do not hold one.
use Rattle.btr_check_sums.proofs.Imports.{◌≡◌, ◌≤◌, ◌<◌, ℕ, ◌+◌, ◌-◌, Bool, true, false, List, ◌∷◌, length, get_or, drop, Option, Some, None, if◌then◌else◌, refl, sym, ap, ◌∙◌, arith, add-one, drop-cons, IfSome, drop_all, nat_tests, holds, place, MatchOption, MapRange, TellsPlaces, hand_place, is_in_run, PlaceRun}

split : (ranges : List MapRange) (i : ℕ) (d : MapRange) → i < length ranges → drop i ranges ≡ get_or ranges i d ∷ drop (i + 1) ranges
split ranges i d low = drop-cons ranges i d low ∙ ap (λ n. get_or ranges i d ∷ drop n ranges) (sym (add-one i))

pub skip_one : (ranges : List MapRange) (i : ℕ) (d : MapRange) (a : ℕ) → i < length ranges → holds (get_or ranges i d) a ≡ false → place (drop i ranges) a ≡ place (drop (i + 1) ranges) a
skip_one ranges i d a low none =
    ap (λ (z : List MapRange). place z a) (split ranges i d low)
    ∙ ap (λ (b : Bool). if b then Some ((get_or ranges i d).physical + (a - (get_or ranges i d).logical)) else place (drop (i + 1) ranges) a) none

pub found_one : (ranges : List MapRange) (i : ℕ) (d : MapRange) (a : ℕ) → i < length ranges → holds (get_or ranges i d) a ≡ true
    → place (drop i ranges) a ≡ Some ((get_or ranges i d).physical + (a - (get_or ranges i d).logical))
found_one ranges i d a low held =
    ap (λ (z : List MapRange). place z a) (split ranges i d low)
    ∙ ap (λ (b : Bool). if b then Some ((get_or ranges i d).physical + (a - (get_or ranges i d).logical)) else place (drop (i + 1) ranges) a) held

holds_low : (r : MapRange) (a : ℕ) → holds r a ≡ true → r.logical ≤ a
holds_low r a held = grind (arith, nat_tests)

pub run_low : (run : PlaceRun) (a : ℕ) → is_in_run run a ≡ true → run.first ≤ a
run_low run a held = grind (arith, nat_tests)

pub run_high : (run : PlaceRun) (a : ℕ) → is_in_run run a ≡ true → a < run.end
run_high run a held = grind (arith, nat_tests)

pub run_has : (run : PlaceRun) (a : ℕ) → run.first ≤ a → a < run.end → is_in_run run a ≡ true
run_has run a low high = grind (arith, nat_tests)

-- the places of the addresses of a range, where no range before holds one of them
pub run_tells : (ranges : List MapRange) (i : ℕ) (d : MapRange) (address end : ℕ) (run : PlaceRun) → i < length ranges
    → ((a : ℕ) → address ≤ a → a < end → place ranges a ≡ place (drop i ranges) a)
    → run.first ≡ address → run.end ≤ end
    → ((a : ℕ) → address ≤ a → a < run.end → holds (get_or ranges i d) a ≡ true)
    → holds (get_or ranges i d) address ≡ true
    → run.place ≡ (get_or ranges i d).physical + (address - (get_or ranges i d).logical)
    → TellsPlaces ranges run
run_tells ranges i d address end run low skipped first most held here place_is = λ a inside.
    let from : address ≤ a = let x = run_low run a inside in omega (arith, x, first) in
    let below : a < run.end = run_high run a inside in
    let start : (get_or ranges i d).logical ≤ address = holds_low (get_or ranges i d) address here in
    let same : (get_or ranges i d).physical + (a - (get_or ranges i d).logical) ≡ run.place + (a - run.first) = omega (arith, from, start, first, place_is) in
    skipped a from (omega (arith, below, most)) ∙ (found_one ranges i d a low (held a from below) ∙ ap Some same)

pub none_holds : (ranges : List MapRange) (i a : ℕ) → length ranges ≤ i → place ranges a ≡ place (drop i ranges) a → place ranges a ≡ None
none_holds ranges i a past skipped = skipped ∙ ap (λ (z : List MapRange). place z a) (drop_all i ranges past)

-- ---- the addresses in hand

by_hand : (run : PlaceRun) (a p : ℕ) (b : Bool) → is_in_run run a ≡ b → (if b then Some (run.place + (a - run.first)) else None) ≡ Some p → (is_in_run run a ≡ true) × (run.place + (a - run.first) ≡ p)
by_hand run a p true inside is = (inside, cc)
by_hand run a p false inside is = absurd (cc is)

pub hand_tells : (ranges : List MapRange) (hand : Option PlaceRun) (a p : ℕ) → IfSome hand (TellsPlaces ranges) → hand_place hand a ≡ Some p → place ranges a ≡ Some p
hand_tells ranges None a p tells is = absurd (cc is)
hand_tells ranges (Some run) a p tells is = let held = by_hand run a p (is_in_run run a) refl is in tells a held.0 ∙ ap Some held.1

pub hand_fresh : (ranges : List MapRange) (hand : Option PlaceRun) (a : ℕ) → MatchOption hand (place ranges a ≡ None) (λ run. (is_in_run run a ≡ true) × TellsPlaces ranges run) → hand_place hand a ≡ place ranges a
hand_fresh ranges None a none = sym none
hand_fresh ranges (Some run) a found = ap (λ (b : Bool). if b then Some (run.place + (a - run.first)) else None) found.0 ∙ sym (found.1 a found.0)

pub hand_kept : (ranges : List MapRange) (hand : Option PlaceRun) (a : ℕ) → MatchOption hand (place ranges a ≡ None) (λ run. (is_in_run run a ≡ true) × TellsPlaces ranges run) → IfSome hand (TellsPlaces ranges)
hand_kept ranges None a none = tt
hand_kept ranges (Some run) a found = found.1
