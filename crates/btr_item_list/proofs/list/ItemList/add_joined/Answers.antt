use Rattle.btr_item_list.proofs.Imports.{◌≡◌, ◌++◌, List, subst, OnOk, Item}
use Rattle.btr_item_list.proofs.Joining.{order_again, joined_again}
use Rattle.btr_item_list.proofs.list.ItemList.add_joined.Goals as goal

pub add_runs-requires : goal.add_runs-requires
add_runs-requires c = record { sorted = order_again c.args.records.now c.sort.new.self c.in_ok-sort.ensures }

pub returns : goal.returns
returns c = subst (λ (l : List Item). OnOk c.add_runs.result (c.add_runs.new.self ≡ c.args.self.now ++ l)) (joined_again c.args.objectid c.args.kind c.args.records.now c.sort.new.self c.in_ok-sort.ensures) c.add_runs.ensures
