-- What is answered of a tree that is walked.
use Rattle.std.specs.Prelude.{List}
use Rattle.btr_reader_walk.specs.outside.History.{Image}
use Rattle.btr_reader_walk.specs.refusals.declared.answer.BtrAnswer.{BtrAnswer}
use Rattle.btr_reader_walk.specs.declared.map.MapRange.{MapRange}
use Rattle.btr_reader_walk.specs.declared.tree.Tree.{Tree}
use Rattle.btr_reader_walk.specs.Walks.{IsAmong, wrong}

-- a refusal is one of what is wrong with the tree
abbrev pub BlamesTree : Image → List MapRange → Tree → BtrAnswer → Type 0
BlamesTree image ranges tree = IsAmong (wrong image ranges tree)
