use Rattle.btr_keys.proofs.Imports.{◌<◌, length, sym, ◌∙◌, arith, behind_named}
use Rattle.btr_keys.proofs.Starts.{Shrinks, named_shrinks, some_left, none_left, counted_more, counted_stop, counted_end}
use Rattle.btr_keys.proofs.named.record_count.Goals as goal

pub returns : goal.returns
returns g c =
    let none = none_left c.is_empty.result (length c.loop-rest.rest.now) c.is_empty.ensures c.loop-rest-test.false in
    sym (counted_end (behind_named g.row.HEAD g.row.AT) c.args.body.now c.loop-rest.rest.now c.loop-rest.count none c.loop-rest.invariant.counted)

pub returns-in_err-rest : goal.returns-in_err-rest
returns-in_err-rest g c =
    let some = some_left c.is_empty.result (length c.loop-rest.rest.now) c.is_empty.ensures c.loop-rest-test.true in
    c.from_residual.ensures
    ∙ sym (counted_stop (behind_named g.row.HEAD g.row.AT) c.args.body.now c.loop-rest.rest.now c.loop-rest.count some (sym c.in_err-rest.ensures) c.loop-rest.invariant.counted)

pub loop-rest-preserved : goal.loop-rest-preserved
loop-rest-preserved g c =
    let behind = behind_named g.row.HEAD g.row.AT in
    let some = some_left c.is_empty.result (length c.loop-rest.rest.now) c.is_empty.ensures c.loop-rest-test.true in
    let shrinks : Shrinks behind = named_shrinks g.row.HEAD g.row.AT (omega (arith, c.requires.within)) in
    let shorter : length c.in_ok-rest.rest.now < length c.loop-rest.rest.now = shrinks c.loop-rest.rest.now c.in_ok-rest.rest.now (sym c.in_ok-rest.ensures) in
    record {
      within = omega (arith, shorter, c.loop-rest.invariant.within);
      counted = counted_more behind shrinks c.args.body.now c.loop-rest.rest.now c.in_ok-rest.rest.now c.loop-rest.count some (sym c.in_ok-rest.ensures) c.loop-rest.invariant.counted;
    }

pub loop-rest-smaller : goal.loop-rest-smaller
loop-rest-smaller g c =
    named_shrinks g.row.HEAD g.row.AT (omega (arith, c.requires.within)) c.loop-rest.rest.now c.in_ok-rest.rest.now (sym c.in_ok-rest.ensures)
