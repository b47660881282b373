-- Items of a tree, put together from lists that ascend by key.
use Rattle.std.specs.Prelude.{List, true}
use Rattle.std.specs.Set.{sorted_merge}
use Rattle.std.specs.declared.cmp.Ordering.{Ordering}
use Rattle.btr_tree.specs.btr_keys.Key.{key_cmp}
use Rattle.btr_tree.specs.btr_node.Leaf.{Item}

abbrev pub item_cmp : Item → Item → Ordering
item_cmp a b = key_cmp a.0 b.0

-- The items of two lists that ascend, ascending. No key stands in both.
abbrev pub merged : List Item → List Item → List Item
merged items others = sorted_merge item_cmp true items others
