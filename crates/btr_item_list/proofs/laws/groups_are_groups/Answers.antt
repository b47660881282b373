use Rattle.btr_item_list.proofs.Grouping.{groups_are_groups}
use Rattle.btr_item_list.proofs.laws.groups_are_groups.Goals as goal

pub returns : goal.returns
returns c number items = groups_are_groups number items
