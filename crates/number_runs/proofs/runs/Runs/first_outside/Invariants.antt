use Rattle.number_runs.proofs.Imports.{not, is_among}
use Rattle.number_runs.proofs.Finding.{IsFirstBelow}
use Rattle.number_runs.proofs.runs.Runs.first_outside.Given as goal

abbrev pub invariant-loop-run : goal.invariant-loop-run
invariant-loop-run l = IsFirstBelow l.run-items (λ n. not (is_among l.others n)) l.run-index
