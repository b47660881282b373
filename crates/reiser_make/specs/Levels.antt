-- A level of a tree, as the code counts it.
use Rattle.std.specs.Prelude.{ℕ}
use Rattle.reiser_make.specs.Inner.{level_nodes, nodes_below}
use Rattle.reiser_make.specs.declared.level.Level.{Level}

-- the level of a number above so many leaves
abbrev pub level_of : ℕ → ℕ → Level
level_of leaves number = record { number = number; nodes = level_nodes leaves number; below = nodes_below leaves number }
