use Rattle.reiser_bitmap.proofs.Imports.{◌≡◌, ◌/◌, length, sym, ◌∙◌, ap, arith, ℕ, filter, range_with_len, is_free_unit, free_units}
use Rattle.reiser_bitmap.proofs.Ranges.{count_more_yes, filter_more_no}
use Rattle.reiser_bitmap.proofs.bitmap.Bitmap.free_units.Goals as goal
use Rattle.reiser_bitmap.proofs.bitmap.Bitmap.free_units.Goals.{then-unit_is_free, else-unit_is_free}

pub loop-u-preserved : goal.loop-u-preserved
loop-u-preserved c =
    elim c.if-unit_is_free.branch [
      | then-unit_is_free w ↦
          let more = count_more_yes (is_free_unit c.args.self.now) c.loop-u.u (sym c.unit_is_free.ensures.test ∙ w.if-unit_is_free.true) in
          record { counted = omega (arith, more, w.count-is, c.loop-u.invariant.counted); few = omega (arith, w.count-is, c.loop-u.invariant.few) }
      | else-unit_is_free w ↦
          let same = ap length (filter_more_no (is_free_unit c.args.self.now) c.loop-u.u (sym c.unit_is_free.ensures.test ∙ w.if-unit_is_free.false)) in
          record { counted = omega (arith, same, w.count-is, c.loop-u.invariant.counted); few = omega (arith, w.count-is, c.loop-u.invariant.few) }
    ]

pub returns : goal.returns
unfolding free_units
returns c =
    let end : c.loop-u.u ≡ length c.args.self.now / 256 = omega (arith, c.len-u-end.ensures, c.loop-u-test.false, c.loop-u.auto.u-end) in
    c.loop-u.invariant.counted ∙ ap (λ (n : ℕ). length (filter (is_free_unit c.args.self.now) (range_with_len 0 n))) end
