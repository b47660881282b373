use Rattle.trial_core.proofs.Imports.{◌≤◌, ◌+◌, ◌<◌, ℕ, List, length, inl, inr, sym, subst, arith, slice_index, cases_lt, get_or_past}
use Rattle.trial_core.proofs.marks.know_bytes.Goals as goal

abbrev Below : List ℕ → ℕ → Type 0
Below bytes n = (k : ℕ) → k < n → slice_index bytes k < 256

more : (bytes : List ℕ) (n : ℕ) → Below bytes n → slice_index bytes n < 256 → Below bytes (n + 1)
more bytes n old here k below =
    elim (cases_lt k n) [
      | inl less ↦ old k less
      | inr not ↦ subst (λ (m : ℕ). slice_index bytes m < 256) (omega (arith, below, not)) here
    ]

all : (bytes : List ℕ) (n : ℕ) → length bytes ≤ n → Below bytes n → (k : ℕ) → slice_index bytes k < 256
all bytes n long old k =
    elim (cases_lt k n) [
      | inl less ↦ old k less
      | inr not ↦ subst (λ (m : ℕ). m < 256) (sym (get_or_past bytes k 0 (omega (arith, long, not)))) (omega arith)
    ]

pub loop-i-preserved : goal.loop-i-preserved
loop-i-preserved c = more c.args.bytes.now c.loop-i.i c.loop-i.invariant c.know_byte.ensures

pub returns : goal.returns
returns c = all c.args.bytes.now c.loop-i.i (omega (arith, c.loop-i-test.false)) c.loop-i.invariant
