use Rattle.space_items.proofs.Imports.{◌≡◌, ◌++◌, map, take, chunk_item}
use Rattle.space_items.proofs.chunk_lists.chunks.Given as goal

abbrev pub invariant-loop-i : goal.invariant-loop-i
invariant-loop-i l = l.items ≡ l.initial.items ++ map (chunk_item l.ids) (take l.i l.chunks-inside.items.items)
