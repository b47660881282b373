use Rattle.unit_plan.proofs.Imports.{◌≡◌, ℕ, take, get_or, nat_cmp, sym, ◌∙◌, ap, arith, rules, max, fold, fold_more, get_or_from_slice_get, Run}
use Rattle.std.specs.Ordering.{ord_max}
use Rattle.unit_plan.proofs.choice.longest.Goals as goal

larger : (a b : ℕ) → ord_max nat_cmp a b ≡ max a b
larger a b = search rules

pub loop-i-preserved : goal.loop-i-preserved
loop-i-preserved c =
    let none : Run = record { first = 0; count = 0 } in
    let is : get_or c.args.runs.now c.loop-i.i none ≡ c.get.result = get_or_from_slice_get c.args.runs.now c.loop-i.i c.get.result none c.get.ensures in
    c.max-most.ensures
    ∙ (larger c.loop-i.most c.get.result.count
    ∙ (ap (λ (m : ℕ). max m c.get.result.count) c.loop-i.invariant
    ∙ sym (fold_more (λ (most : ℕ) (run : Run). max most run.count) 0 c.args.runs.now c.loop-i.i none (omega (arith, c.loop-i-test.true, c.len-i-end.ensures))
    ∙ ap (λ (r : Run). max (fold (λ (most : ℕ) (run : Run). max most run.count) 0 (take c.loop-i.i c.args.runs.now)) r.count) is)))
