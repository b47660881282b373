use Rattle.unit_plan.proofs.Imports.{◌≡◌, ℕ, ◌+◌, ◌≤◌, ◌&&◌, ◌||◌, false, not, ltb, sym, ◌∙◌, ap, arith, and_left, and_right, le-ltb, found_start, found_more, found_ended, found_all, holds_data, is_spare, spare_runs, usable_units}
use Rattle.unit_plan.proofs.Sets.{chosen_is}
use Rattle.unit_plan.proofs.spare.spare_runs.Goals as goal

pub loop-u-init : goal.loop-u-init
loop-u-init c = found_start (is_spare c.args.map.now c.args.system.now c.args.metadata.now c.args.data_.now) (usable_units c.args.map.now) c.new-runs.result c.new-runs.ensures

pub loop-u-preserved-then-is_spare : goal.loop-u-preserved-then-is_spare
loop-u-preserved-then-is_spare c =
    let u : ℕ = c.loop-u.u in
    let chosen = chosen_is c.in_ok-chosen.chosen c.mark.new.set c.mark-2.new.set c.mark-3.new.set c.args.system.now c.args.metadata.now c.args.data_.now c.div_ceil-units.result u c.in_ok-chosen.ensures
    (c.mark.ensures.units u) (c.mark-2.ensures.units u) (c.mark-3.ensures.units u) in
    let is : c.is_spare.result ≡ is_spare c.args.map.now c.args.system.now c.args.metadata.now c.args.data_.now u =
    c.is_spare.ensures ∙ ap (λ t. ltb 0 u && (ltb u (usable_units c.args.map.now) && not (t || holds_data c.args.map.now u))) chosen in
    found_more (is_spare c.args.map.now c.args.system.now c.args.metadata.now c.args.data_.now) (usable_units c.args.map.now) c.loop-u.first u c.loop-u.runs c.loop-u.invariant (sym is ∙ c.if-is_spare.true)

pub loop-u-preserved : goal.loop-u-preserved
loop-u-preserved c =
    let u : ℕ = c.loop-u.u in
    let chosen = chosen_is c.in_ok-chosen.chosen c.mark.new.set c.mark-2.new.set c.mark-3.new.set c.args.system.now c.args.metadata.now c.args.data_.now c.div_ceil-units.result u c.in_ok-chosen.ensures
    (c.mark.ensures.units u) (c.mark-2.ensures.units u) (c.mark-3.ensures.units u) in
    let is : c.is_spare.result ≡ is_spare c.args.map.now c.args.system.now c.args.metadata.now c.args.data_.now u =
    c.is_spare.ensures ∙ ap (λ t. ltb 0 u && (ltb u (usable_units c.args.map.now) && not (t || holds_data c.args.map.now u))) chosen in
    let inside : u ≤ usable_units c.args.map.now = omega (arith, c.loop-u-test.true, c.div_ceil-units.ensures, c.usable_end.ensures, c.len.ensures) in
    found_ended (is_spare c.args.map.now c.args.system.now c.args.metadata.now c.args.data_.now) (usable_units c.args.map.now) c.loop-u.first u c.loop-u.runs c.add_units.new.runs c.loop-u.invariant inside
    (sym is ∙ c.if-is_spare.false) c.in_ok-add_units.ensures

pub returns-clause-exact : goal.returns-clause-exact
unfolding spare_runs
returns-clause-exact c =
    let n : ℕ = usable_units c.args.map.now in
    let end : c.loop-u.u ≡ n + 1 = omega (arith, c.loop-u-test.false, c.loop-u.auto.u-end, c.div_ceil-units.ensures, c.usable_end.ensures, c.len.ensures) in
    let stop : is_spare c.args.map.now c.args.system.now c.args.metadata.now c.args.data_.now n ≡ false = and_right (ltb 0 n) _ (and_left (ltb n n) _ (le-ltb n n (omega arith))) in
    found_all (is_spare c.args.map.now c.args.system.now c.args.metadata.now c.args.data_.now) n c.loop-u.first c.loop-u.u c.loop-u.runs c.loop-u.invariant end stop
