use Rattle.number_runs.proofs.Imports.{not, is_among}
use Rattle.number_runs.proofs.Finding.{IsFirstBelow}
use Rattle.number_runs.proofs.runs.Runs.first_shared.Given as goal

abbrev pub invariant-loop-run : goal.invariant-loop-run
invariant-loop-run l = IsFirstBelow l.run-items (is_among l.others) l.run-index
