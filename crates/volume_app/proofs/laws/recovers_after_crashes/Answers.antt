use Rattle.volume_app.proofs.Recoveries.{recovers_after_crashes}
use Rattle.volume_app.proofs.laws.recovers_after_crashes.Goals as goal

pub returns : goal.returns
returns c = recovers_after_crashes c.first_sync_parts.ensures c.spare_blocks_decide_nothing.ensures c.unused_blocks_decide_nothing.ensures c.used_blocks_decide_use.ensures
