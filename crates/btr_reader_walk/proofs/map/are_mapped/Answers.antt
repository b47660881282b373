use Rattle.btr_reader_walk.proofs.Imports.{◌≡◌, ◌+◌, ◌-◌, ◌*◌, Bool, true, ◌&&◌, sym, ◌∙◌, ap, is_some, place, are_mapped}
use Rattle.btr_reader_walk.proofs.Mapping.{mapped_more, none_some}
use Rattle.btr_reader_walk.proofs.map.are_mapped.Goals as goal

pub loop-i-preserved : goal.loop-i-preserved
loop-i-preserved c =
    let next : Bool = are_mapped c.args.ranges.now (c.args.count - (c.loop-i.i + 1)) (c.args.address + 4096 * (c.loop-i.i + 1)) in
    let there : is_some (place c.args.ranges.now (c.args.address + 4096 * c.loop-i.i)) ≡ true = none_some c.place.result _ c.is_none.result c.if-is_none.false c.is_none.ensures c.place.ensures in
    ap (λ t. t && next) (sym there) ∙ (sym (mapped_more c.args.ranges.now c.args.count c.loop-i.i c.args.address c.loop-i-test.true) ∙ c.loop-i.invariant)
