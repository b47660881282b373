use Rattle.volume_app.proofs.Imports.{◌≡◌, ℕ, ◌<◌, ◌≤◌, true, false, List, length, get_or, take, nat_eq, sym, ap, arith, nat_tests, label_of}
use Rattle.std.proofs.lemmas.List.Sums.{position_or_len_is}
use Rattle.volume_app.proofs.reiser.label_of.Goals as goal
use Rattle.volume_app.proofs.reiser.label_of.Goals.{then-loop-end-test+else-label-end-ne0, else-loop-end-test}

is_zero : (n : ℕ) → (n ≡ 0 → ⊥) → nat_eq n 0 ≡ false
is_zero n other = grind (arith, nat_tests)

ends_at : (label : List ℕ) (end : ℕ) → end ≤ length label → ((k : ℕ) → k < end → get_or label k 0 ≡ 0 → ⊥) → (end < length label → nat_eq (get_or label end 0) 0 ≡ true) → take end label ≡ label_of label
ends_at label end within before stops =
    ap (λ (n : ℕ). take n label) (sym (position_or_len_is (λ c. nat_eq c 0) label end 0 within (λ k below. is_zero (get_or label k 0) (before k below)) stops))

is_zero_true : (n : ℕ) → n ≡ 0 → nat_eq n 0 ≡ true
is_zero_true n is = ap (λ (k : ℕ). nat_eq k 0) is

pub returns : goal.returns
returns c = elim c.loop-end-test.branch [
  | then-loop-end-test+else-label-end-ne0 w ↦
      ends_at c.args.label.now c.loop-end.end (omega (arith, c.told-label, c.loop-end.invariant.within)) c.loop-end.invariant.before (λ _. is_zero_true _ w.if-label-end-ne0.false)
  | else-loop-end-test w ↦
      ends_at c.args.label.now c.loop-end.end (omega (arith, c.told-label, c.loop-end.invariant.within)) c.loop-end.invariant.before
      (λ more. absurd (omega (arith, c.told-label, w.loop-end-test.false, more)))
]
