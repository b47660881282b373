use Rattle.space_items.proofs.Imports.{◌≡◌, take}
use Rattle.std.specs.List.{sum_by}
use Rattle.space_items.proofs.chunk_lists.chunk_blocks.Given as goal

abbrev pub invariant-loop-i : goal.invariant-loop-i
invariant-loop-i l = l.blocks ≡ sum_by (λ c. c.length) (take l.i l.chunks)
