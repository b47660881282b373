use Rattle.outside_mem.proofs.Imports.{◌-◌, ◌∷◌, [], ℕ, List, length, get_or, take, sym, ◌∙◌, ap, arith, length-append, written, calls_of}
use Rattle.outside_mem.proofs.Newest.{newest_here, newest_elsewhere, newest_synced, last_is, before_last}
use Rattle.outside_mem.proofs.crash.nth_newest.Goals as goal

pub returns-then-left-eq0 : goal.returns-then-left-eq0
returns-then-left-eq0 c =
    let more = newest_here c.args.calls.now c.loop-k.k _ c.loop-k-test.true c.loop-k.invariant.in_range c.in-Wrote.at c.args.n c.in-Wrote.block c.in-Wrote.is c.if-at-n.true in
    last_is _ _ c.in-Wrote.block.bytes more c.loop-k.left c.if-left-eq0.true ∙ c.loop-k.invariant.same

pub loop-k-preserved-then-at-n : goal.loop-k-preserved-then-at-n
loop-k-preserved-then-at-n c =
    let before = c.loop-k.invariant in
    let older = written (calls_of (take (c.loop-k.k - 1) c.args.calls.now)) c.args.n in
    let more = newest_here c.args.calls.now c.loop-k.k _ c.loop-k-test.true before.in_range c.in-Wrote.at c.args.n c.in-Wrote.block c.in-Wrote.is c.if-at-n.true in
    record {
      in_range = omega (arith, before.in_range);
      more = omega (arith, before.more, c.if-left-eq0.false, ap (λ (ws : List (List ℕ)). length ws) more, length-append older (c.in-Wrote.block.bytes ∷ []));
      same = before_last _ older c.in-Wrote.block.bytes more c.loop-k.left c.if-left-eq0.false before.more ∙ before.same;
    }

pub loop-k-preserved : goal.loop-k-preserved
loop-k-preserved c =
    let before = c.loop-k.invariant in
    let same = newest_elsewhere c.args.calls.now c.loop-k.k _ c.loop-k-test.true before.in_range c.in-Wrote.at c.args.n c.in-Wrote.block c.in-Wrote.is c.if-at-n.false in
    record {
      in_range = omega (arith, before.in_range);
      more = omega (arith, before.more, ap (λ (ws : List (List ℕ)). length ws) same);
      same = ap (λ (ws : List (List ℕ)). get_or ws (length ws - 1 - c.loop-k.left) []) (sym same) ∙ before.same;
    }

pub unreachable-requires : goal.unreachable-requires
unreachable-requires c =
    let none = newest_synced c.args.calls.now c.loop-k.k _ c.loop-k-test.true c.loop-k.invariant.in_range c.args.n c.in-Synced.is in
    omega (arith, c.loop-k.invariant.more, ap (λ (ws : List (List ℕ)). length ws) none)
