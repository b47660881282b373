use Rattle.volume_app.proofs.OneText.{list_texts_are_one}
use Rattle.volume_app.proofs.laws.list_texts_are_one.Goals as goal

pub returns : goal.returns
returns c = list_texts_are_one c.rows_are_one.ensures c.btrfs_rows_are_one.ensures
