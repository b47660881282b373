use Rattle.space_items.proofs.Imports.{◌≡◌, ◌≤◌, ◌++◌, length, map, drop, merged, tree_root_item, root_items, other_root_items}
use Rattle.space_items.proofs.root_list.roots.Given as goal

abbrev pub invariant-loop-i : goal.invariant-loop-i
invariant-loop-i l = record {
  within : l.next ≤ length (other_root_items l.index l.now);
  added : l.items ++ merged (map (tree_root_item l.ids l.nodesize) (drop l.i l.list)) (drop l.next (other_root_items l.index l.now)) ≡ root_items l.list l.index l.ids l.now l.nodesize;
}
