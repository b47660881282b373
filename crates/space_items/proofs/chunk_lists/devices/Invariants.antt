use Rattle.space_items.proofs.Imports.{◌≡◌, map, take, dev_extent_item}
use Rattle.space_items.proofs.chunk_lists.devices.Given as goal

abbrev pub invariant-loop-i : goal.invariant-loop-i
invariant-loop-i l = l.items ≡ map (dev_extent_item l.ids) (take l.i l.chunks-inside.items.items)
