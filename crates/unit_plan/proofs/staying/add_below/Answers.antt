use Rattle.unit_plan.proofs.Imports.{◌≡◌, ℕ, ◌+◌, ◌<◌, ◌≤◌, ltb, Bool, length, min, cond, refl, sym, ◌∙◌, ap, arith, ⊎_elim, slice_index, cases_lt, lt-ltb, le-ltb, length-set}
use Rattle.unit_plan.proofs.Tables.{put, one_more, none_below}
use Rattle.unit_plan.proofs.staying.add_below.Goals as goal

pub loop-c-init : goal.loop-c-init
loop-c-init c = record { size = c.told-longer; added = λ k small. omega (arith, none_below c.args.count k) }

pub overflow_add-longer : goal.overflow_add-longer
overflow_add-longer c =
    let place : ℕ = c.loop-c.c in
    let small : place < 256 = omega (arith, c.loop-c-test.true, c.min-c-end.ensures) in
    let none : cond {A = ℕ} (ltb place place) c.args.count 0 ≡ 0 = ap (λ (b : Bool). cond {A = ℕ} b c.args.count 0) (le-ltb place place (omega arith)) in
    omega (arith, none, c.loop-c.invariant.added place small, c.requires place small)

pub loop-c-preserved : goal.loop-c-preserved
loop-c-preserved c =
    let place : ℕ = c.loop-c.c in
    let inside : place < length c.loop-c.longer = omega (arith, c.loop-c-test.true, c.min-c-end.ensures, c.loop-c.invariant.size) in
    record {
      size = length-set c.loop-c.longer place _ ∙ c.loop-c.invariant.size;
      added = λ k small. omega (arith, put c.loop-c.longer place c.args.count _ k inside refl, one_more place c.args.count k, c.loop-c.invariant.added k small);
    }

pub returns : goal.returns
returns c = λ k small.
    let end : c.loop-c.c ≡ min c.args.count 256 = omega (arith, c.loop-c-test.false, c.loop-c.auto.c-end, c.min-c-end.ensures) in
    let same : ltb k c.loop-c.c ≡ ltb k c.args.count =
    ⊎_elim
    (λ (below : k < c.args.count). lt-ltb k c.loop-c.c (omega (arith, end, below, small)) ∙ sym (lt-ltb k c.args.count below))
    (λ (above : c.args.count ≤ k). le-ltb k c.loop-c.c (omega (arith, end, above)) ∙ sym (le-ltb k c.args.count above))
    (cases_lt k c.args.count) in
    c.loop-c.invariant.added k small ∙ ap (λ (b : Bool). slice_index c.args.longer.now k + cond b c.args.count 0) same
