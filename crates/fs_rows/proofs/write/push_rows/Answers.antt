use Rattle.fs_rows.proofs.Imports.{◌<◌, length, arith, row_text, rows_text}
use Rattle.fs_rows.proofs.LineLemmas.{all_pushed, pushed_at, stopped_at}
use Rattle.fs_rows.proofs.write.push_rows.Goals as goal

pub returns-in_err-push_row-clause-taken : goal.returns-in_err-push_row-clause-taken
unfolding rows_text
returns-in_err-push_row-clause-taken g c = λ tells.
    let below : c.loop-i.i < length c.args.rows.now = omega arith in
    stopped_at row_text c.args.rows.now c.loop-i.i _ _ _ _ _ _ _ _ c.from_residual.ensures.0 below c.get.ensures (c.loop-i.invariant.taken tells) (c.in_err-push_row.ensures.taken tells)

pub loop-i-preserved : goal.loop-i-preserved
loop-i-preserved g c = record {
  taken = λ tells.
      let below : c.loop-i.i < length c.args.rows.now = omega arith in
      pushed_at row_text c.args.rows.now c.loop-i.i _ _ _ _ _ _ _ below c.get.ensures (c.loop-i.invariant.taken tells) (c.in_ok-push_row.ensures.taken tells);
  same = omega (arith, c.in_ok-push_row.ensures.cause.kept);
}

pub returns-clause-taken : goal.returns-clause-taken
unfolding rows_text
returns-clause-taken g c = λ tells.
    all_pushed row_text c.args.rows.now c.loop-i.i _ _ _ _ (omega arith) (c.loop-i.invariant.taken tells)
