use Rattle.unit_plan.proofs.Imports.{◌≡◌, ℕ, ◌<◌, true, length, get_or, ◌∙◌, ap, arith, subst, length-set, get_or_from_slice_get, has}
use Rattle.unit_plan.proofs.Sets.{marks_more}
use Rattle.unit_plan.proofs.spare.mark.Goals as goal

pub loop-i-preserved : goal.loop-i-preserved
loop-i-preserved c =
    let v : ℕ = c.get.result in
    let inside : c.loop-i.i < length c.args.units.now = omega (arith, c.loop-i-test.true, c.len-i-end.ensures) in
    let is : get_or c.args.units.now c.loop-i.i v ≡ v = get_or_from_slice_get c.args.units.now c.loop-i.i v v c.get.ensures in
    let within : v < length c.loop-i.set = subst (λ (u : ℕ). u < length c.loop-i.set) is (omega (arith, c.requires c.loop-i.i v inside, c.loop-i.invariant.size)) in
    record {
      size = ap length c.insert.ensures ∙ (length-set c.loop-i.set v true ∙ c.loop-i.invariant.size);
      marked = λ u. ap (λ s. has s u) c.insert.ensures ∙ marks_more c.args.set.now c.loop-i.set c.args.units.now c.loop-i.i v u inside is within (c.loop-i.invariant.marked u);
    }
