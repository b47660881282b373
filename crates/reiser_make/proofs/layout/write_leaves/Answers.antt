use Rattle.reiser_make.proofs.Imports.{◌≡◌, ◌<◌, ℕ, length, map, ap, ◌∙◌, arith, range_with_len, needed, node_place, reads, IsUsed, laid_over, leaf_placed, leaves, Level}
use Rattle.reiser_make.proofs.Counting.{leaves_begin}
use Rattle.reiser_make.proofs.Laying.{goes_none, goes_more, only_more, in_range}
use Rattle.reiser_make.proofs.Placed.{used_below, node_at}
use Rattle.reiser_make.proofs.Rising.{root_low}
use Rattle.reiser_make.proofs.layout.write_leaves.Goals as goal

among : (m count n : ℕ) → m < count → count ≡ n → m < n
among m count n lt is = omega arith

pub loop-m-init : goal.loop-m-init
loop-m-init g c = record {
  goes = goes_none _ (IsUsed c.args.usage.now) _ _ _ _;
  stands = leaves_begin c.args.plan.now.sample c.first-at.result c.first-at.ensures;
}

pub write-requires-clause-in_range : goal.write-requires-clause-in_range
write-requires-clause-in_range g c =
    let at = node_at c.args.plan.now.sample c.leaves-level.result.number 1 c.loop-m.m c.node_place.result c.node_place.ensures.place (ap (λ (l : Level). l.number) c.leaves-level.ensures)
    (omega arith) (root_low (length (leaves c.args.plan.now.sample))) (among _ _ _ c.loop-m-test.true c.args.plan.now.counted) in
    in_range _ (needed c.args.plan.now.sample) c.args.usage.now.needed c.args.usage.now.blocks _ _ at.1 c.requires.usage.needed c.requires.usage.fits c.requires.inside c.loop-m.invariant.goes.size

pub returns-in_err-write-clause-only : goal.returns-in_err-write-clause-only
returns-in_err-write-clause-only g c =
    let at = node_at c.args.plan.now.sample c.leaves-level.result.number 1 c.loop-m.m c.node_place.result c.node_place.ensures.place (ap (λ (l : Level). l.number) c.leaves-level.ensures)
    (omega arith) (root_low (length (leaves c.args.plan.now.sample))) (among _ _ _ c.loop-m-test.true c.args.plan.now.counted) in
    only_more _ (IsUsed c.args.usage.now) _ _ _ _ _ _ _ _ _ (map (leaf_placed c.args.plan.now.sample) (range_with_len 0 c.loop-m.m)) c.node_place.result c.put_next_leaf.new.into.bytes _ c.loop-m.invariant.goes
    (used_below c.args.plan.now.sample c.args.usage.now c.node_place.result c.requires.usage at.1) c.write.ensures.effect

pub loop-m-preserved : goal.loop-m-preserved
loop-m-preserved g c =
    let there : c.loop-m.m < length (leaves c.args.plan.now.sample) = among _ _ _ c.loop-m-test.true c.args.plan.now.counted in
    let at = node_at c.args.plan.now.sample c.leaves-level.result.number 1 c.loop-m.m c.node_place.result c.node_place.ensures.place (ap (λ (l : Level). l.number) c.leaves-level.ensures)
    (omega arith) (root_low (length (leaves c.args.plan.now.sample))) there in
    record {
      goes = goes_more _ (IsUsed c.args.usage.now) _ _ _ _ _ _ _ _ _ _ _ _ (leaf_placed c.args.plan.now.sample) 0 c.loop-m.m c.loop-m.m c.node_place.result c.put_next_leaf.new.into.bytes
          c.loop-m.invariant.goes (omega arith) (used_below c.args.plan.now.sample c.args.usage.now c.node_place.result c.requires.usage at.1)
          (ap (λ b. (b, c.put_next_leaf.new.into.bytes)) at.0
          ∙ ap (λ bytes. (node_place c.args.plan.now.sample 1 c.loop-m.m, bytes)) (c.put_next_leaf.ensures.bytes c.loop-m.m there c.loop-m.invariant.stands))
          c.write.ensures.open c.write.ensures.size c.in_ok-write.ensures.cause.kept c.in_ok-write.ensures.effect;
      stands = c.put_next_leaf.ensures.stands c.loop-m.m there c.loop-m.invariant.stands;
    }

pub returns-clause-written : goal.returns-clause-written
returns-clause-written g c = λ tells.
    c.loop-m.invariant.goes.written tells
    ∙ ap (λ n. laid_over (map (leaf_placed c.args.plan.now.sample) (range_with_len 0 n)) (reads (g.D.Disk.history c.args.disk.now)))
    (let end : c.loop-m.m ≡ length (leaves c.args.plan.now.sample) = omega (arith, c.loop-m-test.false, c.loop-m.auto.m-end, c.args.plan.now.counted) in end)
