use Rattle.fs_rows.proofs.Imports.{◌<◌, length, arith, slashed}
use Rattle.fs_rows.proofs.LineLemmas.{pushed_at, stopped_at}
use Rattle.fs_rows.proofs.line.push_names.Goals as goal

pub returns-in_err-push_name-clause-taken : goal.returns-in_err-push_name-clause-taken
returns-in_err-push_name-clause-taken g c = λ tells.
    let below : c.loop-i.i < length c.args.path.now = omega arith in
    stopped_at slashed c.args.path.now c.loop-i.i _ _ _ _ _ _ _ _ c.from_residual.ensures.0 below c.get.ensures (c.loop-i.invariant.taken tells) (c.in_err-push_name.ensures.taken tells)

pub loop-i-preserved : goal.loop-i-preserved
loop-i-preserved g c = record {
  taken = λ tells.
      let below : c.loop-i.i < length c.args.path.now = omega arith in
      pushed_at slashed c.args.path.now c.loop-i.i _ _ _ _ _ _ _ below c.get.ensures (c.loop-i.invariant.taken tells) (c.in_ok-push_name.ensures.taken tells);
  same = omega (arith, c.in_ok-push_name.ensures.cause.kept);
}
