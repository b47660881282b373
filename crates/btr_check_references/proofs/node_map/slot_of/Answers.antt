use Rattle.btr_check_references.proofs.Imports.{◌≡◌, ◌+◌, ◌-◌, sym, arith, nat_tests}
use Rattle.btr_check_references.proofs.Blocks.{last_begun, none_begun}
use Rattle.btr_check_references.proofs.node_map.slot_of.Goals as goal

pub returns-then-begun-eq0 : goal.returns-then-begun-eq0
returns-then-begun-eq0 c = sym (none_begun c.args.block c.args.ranges.now c.begun-begun.result c.begun-begun.ensures.parts c.if-begun-eq0.true)

pub returns-then-block-range : goal.returns-then-block-range
returns-then-block-range c =
    let some : c.begun-begun.result - 1 + 1 ≡ c.begun-begun.result = omega (arith, c.if-begun-eq0.false) in
    let is = last_begun c.args.block c.args.ranges.now c.begun-begun.result c.begun-begun.ensures.parts (c.begun-begun.result - 1) (record { first = 0; count = 0; slot = 0 }) c.requires.apart some c.begun-begun.ensures.within in
    grind (arith, nat_tests)

pub returns-else-range-block : goal.returns-else-range-block
returns-else-range-block c =
    let some : c.begun-begun.result - 1 + 1 ≡ c.begun-begun.result = omega (arith, c.if-begun-eq0.false) in
    let is = last_begun c.args.block c.args.ranges.now c.begun-begun.result c.begun-begun.ensures.parts (c.begun-begun.result - 1) (record { first = 0; count = 0; slot = 0 }) c.requires.apart some c.begun-begun.ensures.within in
    grind (arith, nat_tests)
