use Rattle.btr_item_list.proofs.Imports.{◌≡◌, ◌++◌, take}
use Rattle.btr_item_list.proofs.list.ItemList.append.Given as goal

abbrev pub invariant-loop-i : goal.invariant-loop-i
invariant-loop-i l = l.self ≡ l.initial.self ++ take l.i l.more
