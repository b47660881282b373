use Rattle.reiser_volume.proofs.Imports.{List, take, ReiserItem, HasNoted, HasStats}
use Rattle.reiser_volume.proofs.gather.table_of.Given as goal

abbrev pub invariant-loop-key : goal.invariant-loop-key
invariant-loop-key l = (items : List ReiserItem) → HasNoted l.objects items → HasStats items l.table (take l.key-index l.key-items)
