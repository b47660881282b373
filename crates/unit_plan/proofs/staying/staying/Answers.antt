use Rattle.unit_plan.proofs.Imports.{◌≡◌, ◌<◌, ◌++◌, ◌∷◌, [], Bool, true, false, List, length, take, get_or, cond, sym, ◌∙◌, ap, arith, filter, append-nil, take_all, get_or_from_slice_get, Run, is_longer, is_as_long, stays, staying}
use Rattle.unit_plan.proofs.RunSums.{units_in-nil, part_more, counted_small, kept_more, stays_is}
use Rattle.unit_plan.proofs.staying.staying.Goals as goal

pub loop-i-init : goal.loop-i-init
loop-i-init c = record {
  kept_is = c.new-kept.ensures;
  counted = λ n small. omega (arith, c.units_in_longer-ahead.ensures n small, units_in-nil);
}

pub next_stays-requires : goal.next_stays-requires
next_stays-requires c = λ n small.
    let run : Run = c.get-run.result in
    let inside : c.loop-i.i < length c.args.runs.now = omega (arith, c.loop-i-test.true, c.len-i-end.ensures) in
    let is : get_or c.args.runs.now c.loop-i.i run ≡ run = get_or_from_slice_get c.args.runs.now c.loop-i.i run run c.get-run.ensures in
    omega (arith, c.loop-i.invariant.counted n small, counted_small (is_longer n) (is_as_long n) c.args.runs.now c.loop-i.i run c.requires.small inside is)

pub loop-i-preserved-then-not-next_stays : goal.loop-i-preserved-then-not-next_stays
loop-i-preserved-then-not-next_stays c =
    let run : Run = c.get-run.result in
    let inside : c.loop-i.i < length c.args.runs.now = omega (arith, c.loop-i-test.true, c.len-i-end.ensures) in
    let is : get_or c.args.runs.now c.loop-i.i run ≡ run = get_or_from_slice_get c.args.runs.now c.loop-i.i run run c.get-run.ensures in
    let goes : stays c.args.runs.now run ≡ false =
    sym (c.next_stays.ensures.stays ∙ stays_is c.args.runs.now c.loop-i.i run c.loop-i.ahead _ c.requires.ascending inside is c.loop-i.invariant.counted (omega (arith, c.units_in.ensures))) ∙ c.if-not-next_stays.true in
    record {
      kept_is =
          c.loop-i.invariant.kept_is
          ∙ sym (kept_more (stays c.args.runs.now) c.args.runs.now c.loop-i.i run inside is
          ∙ ap (λ (b : Bool). filter (stays c.args.runs.now) (take c.loop-i.i c.args.runs.now) ++ cond b (run ∷ []) []) goes ∙ append-nil _);
      counted = λ n small.
          omega (arith, c.next_stays.ensures.ahead n small, c.loop-i.invariant.counted n small, part_more (is_as_long n) c.args.runs.now c.loop-i.i run inside is);
    }

pub loop-i-preserved : goal.loop-i-preserved
loop-i-preserved c =
    let run : Run = c.get-run.result in
    let inside : c.loop-i.i < length c.args.runs.now = omega (arith, c.loop-i-test.true, c.len-i-end.ensures) in
    let is : get_or c.args.runs.now c.loop-i.i run ≡ run = get_or_from_slice_get c.args.runs.now c.loop-i.i run run c.get-run.ensures in
    let stays_ : stays c.args.runs.now run ≡ true =
    sym (c.next_stays.ensures.stays ∙ stays_is c.args.runs.now c.loop-i.i run c.loop-i.ahead _ c.requires.ascending inside is c.loop-i.invariant.counted (omega (arith, c.units_in.ensures))) ∙ c.if-not-next_stays.false in
    record {
      kept_is =
          c.in_ok-add.ensures.ok
          ∙ (ap (λ (runs : List Run). runs ++ run ∷ []) c.loop-i.invariant.kept_is
          ∙ sym (kept_more (stays c.args.runs.now) c.args.runs.now c.loop-i.i run inside is
          ∙ ap (λ (b : Bool). filter (stays c.args.runs.now) (take c.loop-i.i c.args.runs.now) ++ cond b (run ∷ []) []) stays_));
      counted = λ n small.
          omega (arith, c.next_stays.ensures.ahead n small, c.loop-i.invariant.counted n small, part_more (is_as_long n) c.args.runs.now c.loop-i.i run inside is);
    }

pub returns : goal.returns
unfolding staying
returns c =
    let all : take c.loop-i.i c.args.runs.now ≡ c.args.runs.now = take_all c.loop-i.i c.args.runs.now (omega (arith, c.loop-i-test.false, c.loop-i.auto.i-end, c.len-i-end.ensures)) in
    c.loop-i.invariant.kept_is ∙ ap (filter (stays c.args.runs.now)) all
