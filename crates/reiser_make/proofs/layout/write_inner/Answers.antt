use Rattle.reiser_make.proofs.Imports.{◌≡◌, ◌≤◌, ◌+◌, ◌-◌, ◌++◌, ℕ, length, sym, ap, ◌∙◌, arith, range_with_len, flat_map, reads, root_level, IsUsed, laid_over, level_part, leaves, Shape, Level}
use Rattle.reiser_make.proofs.Laying.{goes_none, goes_on, only_on}
use Rattle.reiser_make.proofs.Lists.{flat_map_more}
use Rattle.reiser_make.proofs.Rising.{climbs_first, climbs_more, climbs_below, climbed, below_third, below_few}
use Rattle.reiser_make.proofs.layout.write_inner.Goals as goal

-- the nodes above one level more
levels_more : (s : Shape) (k next : ℕ) → 1 ≤ k → next ≡ k + 1 → flat_map (level_part s) (range_with_len 1 (k - 1)) ++ level_part s k ≡ flat_map (level_part s) (range_with_len 1 (next - 1))
levels_more s k next low is =
    let count : k - 1 + 1 ≡ next - 1 = omega (arith, is) in
    sym (flat_map_more (level_part s) 1 (k - 1) k (omega arith)) ∙ ap (λ n. flat_map (level_part s) (range_with_len 1 n)) count

pub loop-below-init : goal.loop-below-init
loop-below-init g c =
    let one : c.leaves-below.result.number ≡ 1 = ap (λ (l : Level). l.number) c.leaves-below.ensures in
    record {
      climbs = climbs_first c.args.plan.now.leaf_count c.leaves-below.result c.args.plan.now.some c.args.plan.now.most c.leaves-below.ensures;
      goes = rw one (goes_none _ (IsUsed c.args.usage.now) _ _ _ _);
    }

pub write_level-requires-clause-level : goal.write_level-requires-clause-level
write_level-requires-clause-level g c = c.loop-below.invariant.climbs.is

pub write_level-requires-clause-high : goal.write_level-requires-clause-high
write_level-requires-clause-high g c = below_third c.loop-below.below.number c.loop-below.below.nodes c.loop-below.invariant.climbs.third c.loop-below-test.true

pub write_level-requires-clause-root : goal.write_level-requires-clause-root
write_level-requires-clause-root g c = climbs_below c.args.plan.now.leaf_count c.loop-below.below c.loop-below.invariant.climbs c.loop-below-test.true

pub returns-in_err-write_level-clause-only : goal.returns-in_err-write_level-clause-only
returns-in_err-write_level-clause-only g c =
    only_on _ (IsUsed c.args.usage.now) _ _ _ _ _ _ _ _ _ (flat_map (level_part c.args.plan.now.sample) (range_with_len 1 (c.loop-below.below.number - 1))) c.loop-below.invariant.goes c.write_level.ensures.only

pub above-below-requires-clause-below : goal.above-below-requires-clause-below
above-below-requires-clause-below g c =
    below_few c.args.plan.now.leaf_count c.loop-below.below c.args.plan.now.most c.loop-below.invariant.climbs.is
    (below_third c.loop-below.below.number c.loop-below.below.nodes c.loop-below.invariant.climbs.third c.loop-below-test.true)

pub loop-below-preserved : goal.loop-below-preserved
loop-below-preserved g c = record {
  climbs = climbs_more c.args.plan.now.leaf_count c.loop-below.below c.above-below.result c.loop-below.invariant.climbs c.loop-below-test.true c.above-below.ensures.number c.above-below.ensures.nodes c.above-below.ensures.below;
  goes = goes_on _ (IsUsed c.args.usage.now) _ _ _ _ _ _ _ _ _ _ _ _ (flat_map (level_part c.args.plan.now.sample) (range_with_len 1 (c.loop-below.below.number - 1))) (level_part c.args.plan.now.sample c.loop-below.below.number)
      (flat_map (level_part c.args.plan.now.sample) (range_with_len 1 (c.above-below.result.number - 1)))
      (levels_more c.args.plan.now.sample c.loop-below.below.number c.above-below.result.number c.loop-below.invariant.climbs.low c.above-below.ensures.number)
      c.loop-below.invariant.goes c.write_level.ensures.open c.write_level.ensures.size c.in_ok-write_level.ensures.cause.kept c.write_level.ensures.only c.in_ok-write_level.ensures.written;
}

pub returns-clause-written : goal.returns-clause-written
returns-clause-written g c = λ tells.
    let root : c.loop-below.below.number ≡ root_level (length (leaves c.args.plan.now.sample)) =
    sym (climbed c.args.plan.now.leaf_count c.loop-below.below c.loop-below.invariant.climbs c.loop-below-test.false) ∙ ap root_level c.args.plan.now.counted in
    c.loop-below.invariant.goes.written tells
    ∙ ap (λ n. laid_over (flat_map (level_part c.args.plan.now.sample) (range_with_len 1 (n - 1))) (reads (g.D.Disk.history c.args.disk.now))) root
