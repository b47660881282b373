use Rattle.btr_check_names.proofs.Imports.{◌≡◌, ◌<◌, ℕ, List, Option, length, sym, subst, MatchOption, Ends}
use Rattle.btr_check_names.proofs.Standing.{all_come, below_itself}
use Rattle.btr_check_names.proofs.dirs.ring_of.Goals as goal

pub returns-in-Some : goal.returns-in-Some
returns-in-Some c = λ t told stand once.
    below_itself t c.args.dirs.now c.args.list.now c.in_ok-above.above.items told c.in_ok-above.ensures stand once c.in_ok-i.field-0
    (subst (λ (l : List (Option ℕ)). MatchOption c.in_ok-i.field-0 ((i : ℕ) → i < length l → Ends l i) (λ i. (i < length l) × (¬ Ends l i))) c.as_slice.ensures.value c.in_ok-i.ensures)
    c.in-Some.i _ c.in-Some.is

pub returns : goal.returns
returns c = λ t told stand once.
    all_come t c.args.dirs.now c.args.list.now c.in_ok-above.above.items told c.in_ok-above.ensures stand once c.in_ok-i.field-0
    (subst (λ (l : List (Option ℕ)). MatchOption c.in_ok-i.field-0 ((i : ℕ) → i < length l → Ends l i) (λ i. (i < length l) × (¬ Ends l i))) c.as_slice.ensures.value c.in_ok-i.ensures)
    c.in-None.is
