use Rattle.reiser_make_laws.proofs.Marked.{marks_used}
use Rattle.reiser_make_laws.proofs.laws.samples_mark_used.Goals as goal

pub returns : goal.returns
returns c = marks_used
