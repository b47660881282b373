use Rattle.reiser_bitmap.proofs.Imports.{◌≡◌, ◌+◌, ◌/◌, ◌≤◌, length, sym, arith, free_runs, is_free_unit}
use Rattle.reiser_bitmap.proofs.FreeUnits.{past_units}
use Rattle.reiser_bitmap.proofs.RunLemmas.{found_start, found_ended, found_all}
use Rattle.reiser_bitmap.proofs.bitmap.Bitmap.free_runs.Goals as goal

pub loop-u-init : goal.loop-u-init
loop-u-init c = found_start (is_free_unit c.args.self.now) (length c.args.self.now / 256) c.new-runs.result c.new-runs.ensures

pub loop-u-preserved : goal.loop-u-preserved
loop-u-preserved c =
    let inside : c.loop-u.u ≤ length c.args.self.now / 256 = omega (arith, c.loop-u-test.true, c.len.ensures) in
    found_ended (is_free_unit c.args.self.now) (length c.args.self.now / 256) c.loop-u.first c.loop-u.u c.loop-u.runs c.add_units.new.runs c.loop-u.invariant inside (sym c.if-unit_is_free.ensures.test) c.in_ok-add_units.ensures

pub returns : goal.returns
unfolding free_runs
returns c =
    let end : c.loop-u.u ≡ length c.args.self.now / 256 + 1 = omega (arith, c.loop-u-test.false, c.loop-u.auto.u-end, c.len.ensures) in
    found_all (is_free_unit c.args.self.now) (length c.args.self.now / 256) c.loop-u.first c.loop-u.u c.loop-u.runs c.loop-u.invariant end (past_units c.args.self.now (length c.args.self.now / 256) (omega arith))
