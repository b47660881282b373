use Rattle.space_items.proofs.Imports.{◌≡◌, ◌++◌, slice_range}
use Rattle.space_items.proofs.root_list.add_rest.Given as goal

abbrev pub invariant-loop-i : goal.invariant-loop-i
invariant-loop-i l = l.items ≡ l.initial.items ++ slice_range l.others l.first l.i
