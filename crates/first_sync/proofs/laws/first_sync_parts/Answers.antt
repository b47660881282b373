use Rattle.first_sync.proofs.Synced.{first_parts}
use Rattle.first_sync.proofs.laws.first_sync_parts.Goals as goal

pub returns : goal.returns
returns c = first_parts
