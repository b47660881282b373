use Rattle.btr_reader_walk.proofs.Imports.{◌≡◌, drop, place}
use Rattle.btr_reader_walk.proofs.map.place.Given as goal

abbrev pub invariant-loop-range : goal.invariant-loop-range
invariant-loop-range l = place (drop l.range-index l.ranges) l.address ≡ place l.ranges l.address
