use Rattle.reiser_volume_files.proofs.Imports.{◌≡◌, true, take, list_all, pointers, is_inside}
use Rattle.reiser_volume_files.proofs.pieces.are_pointers_inside.Given as goal

abbrev pub invariant-loop-j : goal.invariant-loop-j
invariant-loop-j l = list_all (λ b. is_inside b l.blocks) (take l.j (pointers l.body)) ≡ true
