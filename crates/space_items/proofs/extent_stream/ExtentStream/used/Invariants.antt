use Rattle.space_items.proofs.Imports.{◌≡◌, sum_by, take}
use Rattle.space_items.proofs.extent_stream.ExtentStream.used.Given as goal

abbrev pub invariant-loop-i : goal.invariant-loop-i
invariant-loop-i l = l.used ≡ sum_by (λ g. g.used) (take l.i l.self.groups)
