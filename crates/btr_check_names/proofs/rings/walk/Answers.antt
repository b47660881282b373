use Rattle.btr_check_names.proofs.Imports.{◌≡◌, ◌≢◌, ℕ, length, slice_index_or, None, Some, subst, arith, refl, List, AreOnWay, IsBegun, IsPlace}
use Rattle.btr_check_names.proofs.Ways.{all_end, begun_here, begun_more, is_ring, kept_more, on_more, place_above, top_begun, top_ends}
use Rattle.btr_check_names.proofs.rings.walk.Goals as goal

pub returns-then-met-i : goal.returns-then-met-i
returns-then-met-i c =
    let within = subst (IsPlace (length c.args.above.now)) c.in-Some.is c.loop-at.invariant.place in
    (within, is_ring c.args.above.now c.loop-at.met c.args.start c.in-Some.i (omega arith) within c.if-met-i.true (subst (AreOnWay c.args.above.now c.loop-at.met c.args.start) c.in-Some.is c.loop-at.invariant.on))

pub returns-then-met-i-ne0 : goal.returns-then-met-i-ne0
returns-then-met-i-ne0 c =
    let within = subst (IsPlace (length c.args.above.now)) c.in-Some.is c.loop-at.invariant.place in (
      all_end c.args.above.now c.loop-at.met c.args.start c.in-Some.i (omega arith) within c.if-met-i-ne0.true c.if-met-i.false (subst (AreOnWay c.args.above.now c.loop-at.met c.args.start) c.in-Some.is c.loop-at.invariant.on),
      begun_here c.args.above.now c.loop-at.met c.args.start c.in-Some.i (omega arith) within c.if-met-i-ne0.true (subst (IsBegun c.loop-at.met c.args.start) c.in-Some.is c.loop-at.invariant.begun),
      c.loop-at.invariant.kept,
    )

pub loop-at-preserved : goal.loop-at-preserved
loop-at-preserved c =
    let within = subst (IsPlace (length c.args.above.now)) c.in-Some.is c.loop-at.invariant.place in
    let on = subst (AreOnWay c.args.above.now c.loop-at.met c.args.start) c.in-Some.is c.loop-at.invariant.on in
    let begun = subst (IsBegun c.loop-at.met c.args.start) c.in-Some.is c.loop-at.invariant.begun in
    record {
      place = place_above c.args.above.now c.in-Some.i (slice_index_or c.args.above.now c.in-Some.i None) None c.requires.places within refl;
      on = on_more c.args.above.now c.loop-at.met c.args.start c.in-Some.i (omega arith) within (slice_index_or c.args.above.now c.in-Some.i None) None refl c.if-met-i-ne0.false on;
      begun = begun_more c.args.above.now c.loop-at.met c.args.start c.in-Some.i (omega arith) within (slice_index_or c.args.above.now c.in-Some.i None) begun;
      kept = λ k some. kept_more c.args.above.now c.loop-at.met c.args.start c.in-Some.i (omega arith) within k (c.loop-at.invariant.kept k some);
    }

pub returns : goal.returns
returns c = (
  top_ends c.args.above.now c.loop-at.met c.args.start c.loop-at.at c.in_default.is c.loop-at.invariant.on,
  top_begun c.loop-at.met c.args.start c.loop-at.at c.in_default.is c.loop-at.invariant.begun,
  c.loop-at.invariant.kept,
)
