use Rattle.reiser_make.proofs.Imports.{items_behind, HasPutItems}
use Rattle.reiser_make.proofs.sample.Sample.put_items.Given as goal

abbrev pub invariant-loop-i : goal.invariant-loop-i
invariant-loop-i l = HasPutItems l.self (items_behind l.self l.fn.at) l.i l.at l.low l.behind
