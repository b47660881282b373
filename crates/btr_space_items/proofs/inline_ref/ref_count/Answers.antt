use Rattle.btr_space_items.proofs.Imports.{◌<◌, length, sym, ◌∙◌, arith, some_left, none_left, counted_more, counted_stop, counted_end, behind_inline}
use Rattle.btr_space_items.proofs.Inline.{inline_shrinks}
use Rattle.btr_space_items.proofs.inline_ref.ref_count.Goals as goal

pub returns : goal.returns
returns c =
    let none = none_left c.is_empty.result (length c.loop-rest.rest.now) c.is_empty.ensures c.loop-rest-test.false in
    sym (counted_end behind_inline c.args.body.now c.loop-rest.rest.now c.loop-rest.count none c.loop-rest.invariant.counted)

pub returns-in_err-rest : goal.returns-in_err-rest
returns-in_err-rest c =
    let some = some_left c.is_empty.result (length c.loop-rest.rest.now) c.is_empty.ensures c.loop-rest-test.true in
    c.from_residual.ensures ∙ sym (counted_stop behind_inline c.args.body.now c.loop-rest.rest.now c.loop-rest.count some (sym c.in_err-rest.ensures) c.loop-rest.invariant.counted)

pub loop-rest-preserved : goal.loop-rest-preserved
loop-rest-preserved c =
    let some = some_left c.is_empty.result (length c.loop-rest.rest.now) c.is_empty.ensures c.loop-rest-test.true in
    let shorter : length c.in_ok-rest.rest.now < length c.loop-rest.rest.now = inline_shrinks c.loop-rest.rest.now c.in_ok-rest.rest.now (sym c.in_ok-rest.ensures) in
    record {
      within = omega (arith, shorter, c.loop-rest.invariant.within);
      counted = counted_more behind_inline inline_shrinks c.args.body.now c.loop-rest.rest.now c.in_ok-rest.rest.now c.loop-rest.count some (sym c.in_ok-rest.ensures) c.loop-rest.invariant.counted;
    }

pub loop-rest-smaller : goal.loop-rest-smaller
loop-rest-smaller c = inline_shrinks c.loop-rest.rest.now c.in_ok-rest.rest.now (sym c.in_ok-rest.ensures)
