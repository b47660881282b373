use Rattle.outside.proofs.Crash.{whole_may}
use Rattle.outside.proofs.laws.crash_may_leave_whole.Goals as goal

pub returns : goal.returns
returns c = whole_may
