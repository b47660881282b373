use Rattle.rollback_core.proofs.Imports.{◌≡◌, ◌≤◌, ◌+◌, ℕ, List, Bool, filter, length, sym, ◌∙◌, ap, arith, length_push, is_reserved}
use Rattle.rollback_core.proofs.Marked.{all_below, next_high, next_low, next_marked, passing_no, passing_yes, same_below, used_below}
use Rattle.rollback_core.proofs.saved.count_reserved.Goals as goal
use Rattle.rollback_core.proofs.saved.count_reserved.Goals.{then-is_reserved, else-is_reserved}

pub loop-at-init : goal.loop-at-init
loop-at-init c =
    let is = c.next_used-at.ensures in
    let order : 0 ≤ c.len-end.result = omega arith in
    record {
      inside = next_high c.args.used.now 0 c.len-end.result c.next_used-at.result order is;
      all = c.len-end.ensures;
      marked = next_marked c.args.used.now 0 c.len-end.result c.next_used-at.result order is;
      few = omega arith;
      counted = ap (λ (bs : List ℕ). length (filter (λ b. is_reserved b (length c.args.used.now)) bs)) (sym (same_below c.args.used.now 0 c.len-end.result c.next_used-at.result order is));
    }

pub loop-at-smaller : goal.loop-at-smaller
loop-at-smaller c =
    let low = next_low c.args.used.now (c.loop-at.at + 1) c.len-end.result c.next_used-at-in-loop-at.result (omega (arith, c.loop-at-test.true)) c.next_used-at-in-loop-at.ensures in
    omega (arith, low, c.loop-at-test.true)

-- the test by the number of the set's blocks
by_length : (used : List Bool) (at end : ℕ) (t : Bool) → end ≡ length used → t ≡ is_reserved at end → t ≡ is_reserved at (length used)
by_length used at end t all is = is ∙ ap (λ (n : ℕ). is_reserved at n) all

pub loop-at-preserved : goal.loop-at-preserved
loop-at-preserved c =
    let used = c.args.used.now in
    let is = c.next_used-at-in-loop-at.ensures in
    let order : c.loop-at.at + 1 ≤ c.len-end.result = omega (arith, c.loop-at-test.true) in
    let low = next_low used (c.loop-at.at + 1) c.len-end.result c.next_used-at-in-loop-at.result order is in
    let marked = c.loop-at.invariant.marked c.loop-at-test.true in
    let test = by_length used c.loop-at.at c.len-end.result c.is_reserved.result c.loop-at.invariant.all c.is_reserved.ensures.test in
    let reserved : ℕ → Bool = λ b. is_reserved b (length used) in
    record {
      inside = next_high used (c.loop-at.at + 1) c.len-end.result c.next_used-at-in-loop-at.result order is;
      all = c.loop-at.invariant.all;
      marked = next_marked used (c.loop-at.at + 1) c.len-end.result c.next_used-at-in-loop-at.result order is;
      few = elim c.if-is_reserved.branch [
        | then-is_reserved w ↦ omega (arith, w.count-is, c.loop-at.invariant.few, low)
        | else-is_reserved w ↦ omega (arith, w.count-is, c.loop-at.invariant.few, low)
      ];
      counted = elim c.if-is_reserved.branch [
        | then-is_reserved w ↦
            w.count-is ∙ (ap (λ (n : ℕ). n + 1) c.loop-at.invariant.counted
            ∙ sym (ap length (passing_yes reserved used c.loop-at.at c.len-end.result c.next_used-at-in-loop-at.result c.loop-at-test.true marked is (sym test ∙ w.if-is_reserved.true))
            ∙ length_push (filter reserved (used_below used c.loop-at.at)) c.loop-at.at))
        | else-is_reserved w ↦
            w.count-is ∙ (c.loop-at.invariant.counted
            ∙ sym (ap length (passing_no reserved used c.loop-at.at c.len-end.result c.next_used-at-in-loop-at.result c.loop-at-test.true marked is (sym test ∙ w.if-is_reserved.false))))
      ];
    }

pub returns : goal.returns
returns c =
    let used = c.args.used.now in
    let reserved : ℕ → Bool = λ b. is_reserved b (length used) in
    let at_end : c.loop-at.at ≡ length used = omega (arith, c.loop-at.invariant.inside, c.loop-at.invariant.all, c.loop-at-test.false) in
    c.loop-at.invariant.counted ∙ (ap (λ (n : ℕ). length (filter reserved (used_below used n))) at_end ∙ ap (λ (bs : List ℕ). length (filter reserved bs)) (all_below used))
