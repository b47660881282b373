use Rattle.reiser_make.proofs.Imports.{◌≡◌, ◌-◌, items_behind}
use Rattle.reiser_make.proofs.sample.Sample.next_item.Given as goal

abbrev pub decreases-loop-at : goal.decreases-loop-at
decreases-loop-at l = l.objects - l.at.object

abbrev pub invariant-loop-at : goal.invariant-loop-at
invariant-loop-at l = items_behind l.self l.at ≡ items_behind l.self l.initial.at
