use Rattle.btr_check_trees.proofs.Imports.{take, All, Contains}
use Rattle.btr_check_trees.proofs.among.are_among.Given as goal

abbrev pub invariant-loop-c : goal.invariant-loop-c
invariant-loop-c l = All (λ c. Contains l.others c) (take l.c-index l.chunks)
