-- What is answered of a tree whose objects are read.
use Rattle.std.specs.Prelude.{ℕ, Bool, List}
use Rattle.reiser_bitmap.specs.outside.History.{Image}
use Rattle.reiser_bitmap.specs.refusals.declared.answer.VolAnswer.{VolAnswer}
use Rattle.reiser_bitmap.specs.refusals.declared.answer.VolAnswer.TheVariants.{Refused, Fault, Memory}
use Rattle.std.specs.Prelude.{Contains}
use Rattle.reiser_walk.specs.declared.reiser_tree.ReiserTree.{ReiserTree}
use Rattle.reiser_walk.specs.Answers.{IsTreeRefusal}
use Rattle.reiser_walk.specs.Rules.{tree_damages}

abbrev pub tree_at : ℕ → ℕ → ℕ → ℕ → ReiserTree
tree_at root height journal_first journal_size = record { root = root; height = height; journal_first = journal_first; journal_size = journal_size }

-- a rule of the tree, a fault, or no memory
abbrev pub IsObjectsReadAnswer : VolAnswer → Type 0
IsObjectsReadAnswer (Refused refusal) = IsTreeRefusal refusal
IsObjectsReadAnswer Fault = Unit {0}
IsObjectsReadAnswer Memory = Unit {0}

-- a refusal is one of what is wrong with the tree
abbrev pub BlamesTree : ReiserTree → Image → List Bool → VolAnswer → Type 0
BlamesTree tree image used (Refused refusal) = Contains (tree_damages tree image used) refusal
BlamesTree tree image used Fault = Unit {0}
BlamesTree tree image used Memory = Unit {0}
