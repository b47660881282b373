use Rattle.reiser_make_laws.proofs.Marked.{marks_system}
use Rattle.reiser_make_laws.proofs.laws.samples_mark_system.Goals as goal

pub returns : goal.returns
returns c = marks_system
