use Rattle.btr_check_names.proofs.Imports.{◌≡◌, ◌≢◌, ◌<◌, ◌+◌, ℕ, List, ◌++◌, length, take, drop, below_more, slice_index, subst, sym, ap, ◌∙◌, arith, length-replicate, AreEnded}
use Rattle.btr_check_names.proofs.Ways.{given_back, none_ended}
use Rattle.btr_check_names.proofs.rings.ring.Goals as goal

pub loop-start-init : goal.loop-start-init
loop-start-init c = record {
  long = ap length c.in_ok-met.ensures ∙ length-replicate (length c.args.above.now) 0;
  ended = subst (λ (l : List ℕ). AreEnded c.args.above.now l 0) (sym c.in_ok-met.ensures) (none_ended c.args.above.now (length c.args.above.now) 0 (omega arith));
  all = λ k less. absurd (omega arith);
}

pub loop-start-preserved : goal.loop-start-preserved
loop-start-preserved c =
    let own = c.in_default.ensures in
    let value = c.as_mut_slice.ensures.value in
    let count = ap length value in
    let same = given_back c.walk.new.met c.loop-start.met.items c.loop-start.met.len (omega (arith, c.loop-start.met.ok)) (omega (arith, c.walk.auto.met, count)) in
    record {
      long = ap length same ∙ omega (arith, c.walk.auto.met, count, c.loop-start.invariant.long);
      ended = subst (λ (l : List ℕ). AreEnded c.args.above.now l (c.loop-start.start + 1)) (sym same) own.0;
      all = below_more (λ k. slice_index (take c.loop-start.met.len (c.walk.new.met ++ drop (length c.walk.new.met) c.loop-start.met.items)) k ≢ 0) c.loop-start.start
          (λ k less. subst (λ (l : List ℕ). slice_index l k ≢ 0) (sym same) (own.2 k (subst (λ (l : List ℕ). slice_index l k ≢ 0) (sym value) (c.loop-start.invariant.all k less))))
          (subst (λ (l : List ℕ). slice_index l c.loop-start.start ≢ 0) (sym same) own.1);
    }
