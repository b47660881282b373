use Rattle.volume_state.proofs.Imports.{◌≡◌, ◌≤◌, ◌+◌, ℕ, false, sym, subst, arith, is_reserved, map_place}
use Rattle.volume_state.proofs.Moving.{next_high, next_low, next_marked, none_between, placed_next}
use Rattle.volume_state.proofs.moved.image_moved.Goals as goal

pub loop-block-init : goal.loop-block-init
loop-block-init c =
    let is = c.next_used-block.ensures in
    let order : 0 ≤ c.len-end.result = omega arith in
    record {
      inside = next_high c.args.image.now 0 c.len-end.result c.next_used-block.result order is;
      all = c.len-end.ensures;
      placed = λ b old below. absurd (none_between c.args.image.now 0 c.len-end.result c.next_used-block.result order is b (omega arith) below old.marked);
      used = next_marked c.args.image.now 0 c.len-end.result c.next_used-block.result order is;
    }

pub loop-block-smaller : goal.loop-block-smaller
loop-block-smaller c =
    let low = next_low c.args.image.now (c.loop-block.block + 1) c.len-end.result c.next_used-block-in-loop-block.result (omega (arith, c.loop-block-test.true)) c.next_used-block-in-loop-block.ensures in
    omega (arith, low, c.loop-block-test.true)

pub loop-block-preserved : goal.loop-block-preserved
loop-block-preserved c =
    let is = c.next_used-block-in-loop-block.ensures in
    let order : c.loop-block.block + 1 ≤ c.len-end.result = omega (arith, c.loop-block-test.true) in
    record {
      inside = next_high c.args.image.now (c.loop-block.block + 1) c.len-end.result c.next_used-block-in-loop-block.result order is;
      all = c.loop-block.invariant.all;
      placed =
          placed_next (map_place c.args.map.now) c.args.image.now c.loop-block.block c.len-end.result c.next_used-block-in-loop-block.result c.loop-block-test.true is c.loop-block.invariant.placed
          (λ old. c.is_elsewhere.ensures.stays c.if-is_elsewhere.false (subst (λ (n : ℕ). is_reserved c.loop-block.block n ≡ false) (sym c.loop-block.invariant.all) old.outside));
      used = next_marked c.args.image.now (c.loop-block.block + 1) c.len-end.result c.next_used-block-in-loop-block.result order is;
    }
