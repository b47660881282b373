use Rattle.btr_keys.proofs.Imports.{◌≡◌, ℕ, Some, drop, ap, sym, ◌∙◌, arith, behind_named}
use Rattle.btr_keys.proofs.Starts.{Shrinks, named_shrinks, start_more, start_there, start_whole, start_is_whole}
use Rattle.btr_keys.proofs.named.record_start.Goals as goal

pub returns-clause-there : goal.returns-clause-there
returns-clause-there g c = λ all is within.
    let behind = behind_named g.row.HEAD g.row.AT in
    let shrinks : Shrinks behind = named_shrinks g.row.HEAD g.row.AT (omega (arith, c.requires.within)) in
    let done : c.loop.counter ≡ c.args.i = omega arith in
    start_there behind shrinks c.loop.rest.now all c.args.i within (c.loop.invariant all is (omega arith) ∙ ap (λ (k : ℕ). Some (drop k all)) done)

pub returns-clause-whole : goal.returns-clause-whole
returns-clause-whole g c = λ all is within.
    let behind = behind_named g.row.HEAD g.row.AT in
    let shrinks : Shrinks behind = named_shrinks g.row.HEAD g.row.AT (omega (arith, c.requires.within)) in
    let done : c.loop.counter ≡ c.args.i = omega arith in
    start_is_whole behind shrinks c.loop.rest.now all c.args.i within (c.loop.invariant all is (omega arith) ∙ ap (λ (k : ℕ). Some (drop k all)) done)

pub returns-in_default-clause-there : goal.returns-in_default-clause-there
returns-in_default-clause-there g c = λ all is within.
    let behind = behind_named g.row.HEAD g.row.AT in
    let shrinks : Shrinks behind = named_shrinks g.row.HEAD g.row.AT (omega (arith, c.requires.within)) in
    absurd (start_whole behind shrinks c.loop.rest.now all c.loop.counter (omega arith) (c.loop.invariant all is (omega arith)) (sym c.in_default.ensures))

pub returns-in_default-clause-whole : goal.returns-in_default-clause-whole
returns-in_default-clause-whole g c = λ all is within.
    let behind = behind_named g.row.HEAD g.row.AT in
    let shrinks : Shrinks behind = named_shrinks g.row.HEAD g.row.AT (omega (arith, c.requires.within)) in
    absurd (start_whole behind shrinks c.loop.rest.now all c.loop.counter (omega arith) (c.loop.invariant all is (omega arith)) (sym c.in_default.ensures))

pub loop-preserved : goal.loop-preserved
loop-preserved g c = λ all is within.
    let behind = behind_named g.row.HEAD g.row.AT in
    let shrinks : Shrinks behind = named_shrinks g.row.HEAD g.row.AT (omega (arith, c.requires.within)) in
    start_more behind shrinks c.loop.rest.now c.in-Some.after.now all c.loop.counter within (c.loop.invariant all is (omega arith)) (sym c.in-Some.ensures)
