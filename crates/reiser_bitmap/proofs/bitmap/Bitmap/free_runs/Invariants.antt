use Rattle.reiser_bitmap.proofs.Imports.{◌/◌, length, is_free_unit}
use Rattle.reiser_bitmap.proofs.RunLemmas.{AreFound}
use Rattle.reiser_bitmap.proofs.bitmap.Bitmap.free_runs.Given as goal

abbrev pub invariant-loop-u : goal.invariant-loop-u
invariant-loop-u l = AreFound (is_free_unit l.self) (length l.self / 256) l.first l.u l.runs
