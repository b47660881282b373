use Rattle.reiser_make.proofs.Imports.{length, items_behind, HasLeafRoom, MayPackMore}
use Rattle.reiser_make.proofs.sample.Sample.pack.Given as goal

abbrev pub decreases-loop : goal.decreases-loop
decreases-loop l = length (items_behind l.self l.leaf.end)

abbrev pub invariant-loop : goal.invariant-loop
invariant-loop l = record { room : HasLeafRoom l.leaf; packing : MayPackMore l.self (items_behind l.self l.fn.at) l.leaf }
