-- Trees one behind the other in a row of slots.
use Rattle.std.specs.Prelude.{ℕ, ◌+◌, nat_lt, List, [], ◌∷◌, ◌++◌, drop, if◌then◌else◌}
use Rattle.command_answers.specs.outside.History.{Image}
use Rattle.btr_tree.specs.btr_node.Leaf.{Item}
use Rattle.btr_tree.specs.Roots.{lengths_of}
use Rattle.btr_tree.specs.btr_reader_walk.declared.tree.Form.{Form}
use Rattle.btr_tree_writer.specs.Trees.{TreeStands}
use Rattle.convert_steps.specs.declared.trees.PlacedTree.{PlacedTree}
use Rattle.space_items.specs.Nodes.{nodes_of_tree}
use Rattle.space_items.specs.declared.node.TreeNode.{TreeNode}
use Rattle.unit_plan.specs.Trees.{tree_number}
use Rattle.unit_plan.specs.declared.tree.NewTree.{NewTree}

-- trees with these items stand one behind the other, the first of them at the slot with number `n`
abbrev pub StandBehind : Image → Form → List ℕ → (NewTree → List Item) → ℕ → List PlacedTree → Type 0
StandBehind image form slots items n [] = Unit {0}
StandBehind image form slots items n (p ∷ placed) =
    TreeStands image form (tree_number p.tree) (drop n slots) (items p.tree) p.root × StandBehind image form slots items (n + p.root.nodes) placed

-- the number of the first slot behind them
abbrev pub slot_behind : ℕ → List PlacedTree → ℕ
slot_behind n [] = n
slot_behind n (p ∷ placed) = slot_behind (n + p.root.nodes) placed

-- their nodes, ascending by address
abbrev pub nodes_behind : ℕ → List ℕ → (NewTree → List Item) → ℕ → List PlacedTree → List TreeNode
nodes_behind nodesize slots items n [] = []
nodes_behind nodesize slots items n (p ∷ placed) =
    nodes_of_tree (tree_number p.tree) nodesize (lengths_of (items p.tree)) (drop n slots) ++ nodes_behind nodesize slots items (n + p.root.nodes) placed

-- ---- in the order of numbers

-- a list that ascends by numbers, with one element more
abbrev pub inserted : {X : Type 0} → (X → ℕ) → X → List X → List X
inserted number x [] = x ∷ []
inserted number x (y ∷ list) = if nat_lt (number x) (number y) then x ∷ (y ∷ list) else y ∷ inserted number x list

-- with all of these
abbrev pub with_all : {X : Type 0} → (X → ℕ) → List X → List X → List X
with_all number list [] = list
with_all number list (x ∷ more) = with_all number (inserted number x list) more
