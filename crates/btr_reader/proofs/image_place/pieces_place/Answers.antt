use Rattle.btr_reader.proofs.Imports.{◌+◌, ◌≡◌, ◌-◌, sym, ◌∙◌, arith}
use Rattle.btr_reader.proofs.Searching.{none_begun, last_begun}
use Rattle.btr_reader.proofs.image_place.pieces_place.Goals as goal

pub returns-then-begun-eq0-clause-place : goal.returns-then-begun-eq0-clause-place
returns-then-begun-eq0-clause-place c = sym (none_begun c.args.ranges.now c.args.b c.args.pieces.now c.begun-begun.result c.begun-begun.ensures.parts c.if-begun-eq0.true)

pub returns-clause-place : goal.returns-clause-place
returns-clause-place c =
    let some : c.begun-begun.result - 1 + 1 ≡ c.begun-begun.result = omega (arith, c.if-begun-eq0.false) in
    c.place.ensures.place
    ∙ sym (last_begun c.args.ranges.now c.args.b c.args.pieces.now c.begun-begun.result c.begun-begun.ensures.parts (c.begun-begun.result - 1) _ c.requires.apart some c.begun-begun.ensures.within)
