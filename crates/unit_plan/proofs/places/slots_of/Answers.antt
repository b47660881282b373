use Rattle.unit_plan.proofs.Imports.{◌≡◌, ℕ, ◌+◌, ◌*◌, ◌^◌, ◌<◌, ◌++◌, length, map, get_or, sym, ◌∙◌, ap, subst, arith, range_with_len, get_or_from_slice_get, places_in, node_places}
use Rattle.unit_plan.proofs.Placing.{places_none, places_more}
use Rattle.unit_plan.proofs.places.slots_of.Goals as goal

pub loop-i-init : goal.loop-i-init
loop-i-init c = c.new-slots.ensures ∙ places_none c.args.nodesize c.args.units.now

pub overflow_mul-get : goal.overflow_mul-get
overflow_mul-get c =
    let inside : c.loop-i.i < length c.args.units.now = omega (arith, c.loop-i-test.true, c.len-i-end.ensures) in
    let is : get_or c.args.units.now c.loop-i.i 0 ≡ c.get.result = get_or_from_slice_get c.args.units.now c.loop-i.i c.get.result 0 c.get.ensures in
    let small : get_or c.args.units.now c.loop-i.i 0 < 2 ^ 43 = c.requires.small c.loop-i.i 0 inside in
    omega (arith, is, small)

pub add_unit-requires-clause-small : goal.add_unit-requires-clause-small
add_unit-requires-clause-small c =
    let inside : c.loop-i.i < length c.args.units.now = omega (arith, c.loop-i-test.true, c.len-i-end.ensures) in
    let is : get_or c.args.units.now c.loop-i.i 0 ≡ c.get.result = get_or_from_slice_get c.args.units.now c.loop-i.i c.get.result 0 c.get.ensures in
    let small : get_or c.args.units.now c.loop-i.i 0 < 2 ^ 43 = c.requires.small c.loop-i.i 0 inside in
    omega (arith, is, small)

pub loop-i-preserved : goal.loop-i-preserved
loop-i-preserved c =
    let inside : c.loop-i.i < length c.args.units.now = omega (arith, c.loop-i-test.true, c.len-i-end.ensures) in
    let is : get_or c.args.units.now c.loop-i.i c.get.result ≡ c.get.result = get_or_from_slice_get c.args.units.now c.loop-i.i c.get.result c.get.result c.get.ensures in
    c.in_ok-add_unit.ensures
    ∙ (ap (λ (m : ℕ). c.loop-i.slots ++ map (λ k. 2 ^ 20 * c.get.result + c.args.nodesize * k) (range_with_len 0 m)) c.nodes_in_unit-in_unit.ensures.exact
    ∙ (ap (λ s. s ++ places_in c.args.nodesize c.get.result) c.loop-i.invariant ∙ sym (places_more c.args.nodesize c.args.units.now c.loop-i.i c.get.result inside is)))
