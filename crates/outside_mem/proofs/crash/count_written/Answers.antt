use Rattle.outside_mem.proofs.Imports.{◌-◌, ◌∷◌, [], ℕ, List, length, take, ap, arith, length-append, written, calls_of}
use Rattle.outside_mem.proofs.Newest.{newest_here, newest_elsewhere, newest_synced}
use Rattle.outside_mem.proofs.crash.count_written.Goals as goal

pub loop-k-preserved-then-at-n : goal.loop-k-preserved-then-at-n
loop-k-preserved-then-at-n c =
    let before = c.loop-k.invariant in
    let older = written (calls_of (take (c.loop-k.k - 1) c.args.calls.now)) c.args.n in
    let more = newest_here c.args.calls.now c.loop-k.k _ c.loop-k-test.true (omega (arith, before.in_range)) c.in-Wrote.at c.args.n c.in-Wrote.field-1 c.in-Wrote.is c.if-at-n.true in
    record {
      in_range = omega (arith, before.in_range, c.loop-k-test.true);
      counts = omega (arith, before.counts, ap (λ (ws : List (List ℕ)). length ws) more, length-append older (c.in-Wrote.field-1.bytes ∷ []));
    }

pub loop-k-preserved : goal.loop-k-preserved
loop-k-preserved c =
    let before = c.loop-k.invariant in
    let same = newest_elsewhere c.args.calls.now c.loop-k.k _ c.loop-k-test.true (omega (arith, before.in_range)) c.in-Wrote.at c.args.n c.in-Wrote.field-1 c.in-Wrote.is c.if-at-n.false in
    record {
      in_range = omega (arith, before.in_range);
      counts = omega (arith, before.counts, ap (λ (ws : List (List ℕ)). length ws) same);
    }

pub returns-in-Synced-clause-count : goal.returns-in-Synced-clause-count
returns-in-Synced-clause-count c =
    let before = c.loop-k.invariant in
    let none = newest_synced c.args.calls.now c.loop-k.k _ c.loop-k-test.true (omega (arith, before.in_range)) c.args.n c.in-Synced.is in
    omega (arith, before.counts, ap (λ (ws : List (List ℕ)). length ws) none)
