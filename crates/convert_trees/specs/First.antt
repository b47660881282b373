-- The trees that are written first, one behind the other.
use Rattle.std.specs.Prelude.{◌≡◌, ◌≤◌, ℕ, ◌+◌, All, List, ◌++◌, length}
use Rattle.std.specs.List.{sum_by}
use Rattle.btr_tree.specs.outside.History.{Image}
use Rattle.btr_tree.specs.btr_node.Leaf.{Item}
use Rattle.btr_tree.specs.Counting.{tree_nodes}
use Rattle.btr_tree.specs.Roots.{lengths_of}
use Rattle.convert_steps.specs.Row.{StandBehind, nodes_behind, slot_behind}
use Rattle.convert_steps.specs.Standing.{new_tree_items}
use Rattle.convert_steps.specs.declared.trees.PlacedTree.{PlacedTree}
use Rattle.reiser_volume.specs.declared.volume.Volume.{Volume}
use Rattle.space_items.specs.StreamLaws.{FitLeaves}
use Rattle.btr_tree_writer.specs.Trees.{read_form}
use Rattle.btr_tree_writer.specs.declared.trees.Trees.{Trees}
use Rattle.unit_plan.specs.declared.chunk.PlannedChunk.{PlannedChunk}
use Rattle.unit_plan.specs.convert_options.declared.options.Options.{Options}
use Rattle.unit_plan.specs.declared.piece.Piece.{Piece}
use Rattle.unit_plan.specs.declared.tree.NewTree.{NewTree}
use Rattle.btr_tree.specs.vol_block.declared.ids.Ids.{Ids}

-- the items of each, of a volume, its pieces and chunks, and the blocks of a disk
abbrev pub first_items : Volume → List Piece → Options → Ids → ℕ → List PlannedChunk → Image → NewTree → List Item
first_items volume pieces o ids now chunks image t = new_tree_items volume o ids now pieces chunks image image t

-- how many nodes some have together
abbrev pub row_count : ℕ → (NewTree → List Item) → List NewTree → ℕ
row_count nodesize items trees = sum_by (λ t. tree_nodes nodesize (lengths_of (items t))) trees

-- A tree can be made of each, and the slots that are left suffice for all their nodes.
pub record FitRow (row : Trees) (items : NewTree → List Item) (trees : List NewTree) : Type 0 where
  pub each : All (λ t. FitLeaves (items t)) trees
  pub few : row.taken + row_count row.form.nodesize items trees ≤ length row.slots

-- They stand one behind the other at the first slots that were not taken, and their nodes are told.
pub record AddsRow (image : Image) (old new : Trees) (items : NewTree → List Item) (placed : List PlacedTree) : Type 0 where
  pub stand : StandBehind image (read_form old.form) old.slots items old.taken placed
  pub nodes : new.nodes ≡ old.nodes ++ nodes_behind old.form.nodesize old.slots items old.taken placed
