use Rattle.volume_app.proofs.Moments.{at_any_moment}
use Rattle.volume_app.proofs.laws.crashes_at_any_moment.Goals as goal

pub returns : goal.returns
returns c = at_any_moment c.first_sync_parts.ensures c.spare_blocks_decide_nothing.ensures
