use Rattle.fs_rows.proofs.MarkLemmas.{marks_none}
use Rattle.fs_rows.proofs.mark.Marker.new.Goals as goal

pub returns : goal.returns
returns c = marks_none _ c.new.ensures
