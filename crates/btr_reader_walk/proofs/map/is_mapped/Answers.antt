use Rattle.btr_reader_walk.proofs.Imports.{◌≡◌, ◌/◌, ◌%◌, true, false, ◌&&◌, eqb, sym, ◌∙◌, ap, arith, nat_tests, is_mapped, are_mapped}
use Rattle.btr_reader_walk.proofs.map.is_mapped.Goals as goal

pub returns-then-address-eq0 : goal.returns-then-address-eq0
unfolding is_mapped
returns-then-address-eq0 c =
    let whole : eqb (c.args.address % 4096) 0 ≡ true = grind (arith, nat_tests) in
    c.are_mapped.ensures ∙ ap (λ t. t && are_mapped c.args.ranges.now (c.args.nodesize / 4096) c.args.address) (sym whole)

pub returns-else-address-eq0 : goal.returns-else-address-eq0
unfolding is_mapped
returns-else-address-eq0 c =
    let off : eqb (c.args.address % 4096) 0 ≡ false = grind (arith, nat_tests) in
    off ∙ ap (λ t. t && are_mapped c.args.ranges.now (c.args.nodesize / 4096) c.args.address) (sym off)
