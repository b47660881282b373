use Rattle.reiser_volume_files.proofs.Ordered.{keys_order}
use Rattle.reiser_volume_files.proofs.laws.keys_order_items.Goals as goal

pub returns : goal.returns
returns c = keys_order
