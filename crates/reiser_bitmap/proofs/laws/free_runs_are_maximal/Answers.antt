use Rattle.reiser_bitmap.proofs.Imports.{free_runs, is_free_unit, unit_count}
use Rattle.reiser_bitmap.proofs.FreeUnits.{past_units}
use Rattle.reiser_bitmap.proofs.MaximalRuns.{runs_are_maximal}
use Rattle.reiser_bitmap.proofs.laws.free_runs_are_maximal.Goals as goal

pub returns : goal.returns
unfolding free_runs
returns c = λ used. runs_are_maximal (is_free_unit used) (unit_count used) (past_units used)
