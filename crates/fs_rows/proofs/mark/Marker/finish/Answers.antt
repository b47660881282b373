use Rattle.fs_rows.proofs.Imports.{mark_of, Marks}
use Rattle.fs_rows.proofs.mark.Marker.finish.Goals as goal

pub returns : goal.returns
unfolding Marks mark_of
returns c = λ blocks holds. c.finalize.ensures _ holds
