use Rattle.btr_space_items.proofs.Imports.{◌≡◌, ℕ, Some, drop, ap, sym, ◌∙◌, arith, start_more, start_there, start_whole, start_is_whole, behind_inline}
use Rattle.btr_space_items.proofs.Inline.{inline_shrinks}
use Rattle.btr_space_items.proofs.inline_ref.ref_start.Goals as goal

pub returns-clause-there : goal.returns-clause-there
returns-clause-there c = λ all is within.
    let done : c.loop.counter ≡ c.args.i = omega arith in
    start_there behind_inline inline_shrinks c.loop.rest.now all c.args.i within (c.loop.invariant all is (omega arith) ∙ ap (λ (k : ℕ). Some (drop k all)) done)

pub returns-clause-whole : goal.returns-clause-whole
returns-clause-whole c = λ all is within.
    let done : c.loop.counter ≡ c.args.i = omega arith in
    start_is_whole behind_inline inline_shrinks c.loop.rest.now all c.args.i within (c.loop.invariant all is (omega arith) ∙ ap (λ (k : ℕ). Some (drop k all)) done)

pub returns-in_default-clause-there : goal.returns-in_default-clause-there
returns-in_default-clause-there c = λ all is within.
    absurd (start_whole behind_inline inline_shrinks c.loop.rest.now all c.loop.counter (omega arith) (c.loop.invariant all is (omega arith)) (sym c.in_default.ensures))

pub returns-in_default-clause-whole : goal.returns-in_default-clause-whole
returns-in_default-clause-whole c = λ all is within.
    absurd (start_whole behind_inline inline_shrinks c.loop.rest.now all c.loop.counter (omega arith) (c.loop.invariant all is (omega arith)) (sym c.in_default.ensures))

pub loop-preserved : goal.loop-preserved
loop-preserved c = λ all is within.
    start_more behind_inline inline_shrinks c.loop.rest.now c.in-Some.after.now all c.loop.counter within (c.loop.invariant all is (omega arith)) (sym c.in-Some.ensures)
