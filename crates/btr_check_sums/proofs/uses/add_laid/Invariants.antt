use Rattle.btr_check_sums.proofs.Imports.{◌≡◌, ◌||◌, ℕ, not, take, is_among, is_laid_in}
use Rattle.btr_check_sums.proofs.uses.add_laid.Given as goal

abbrev pub invariant-loop-l : goal.invariant-loop-l
invariant-loop-l l = (n : ℕ) → is_among l.bare n ≡ (is_among l.fn.bare n || is_laid_in (λ s. not (is_among l.written s)) (take l.l-index l.laid) n)
