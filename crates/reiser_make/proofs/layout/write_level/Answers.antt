use Rattle.reiser_make.proofs.Imports.{◌≡◌, ◌+◌, length, map, sym, ap, ◌∙◌, arith, range_with_len, reads, needed, node_place, level_nodes, IsUsed, laid_over, inner_placed, leaves, level_of, Level}
use Rattle.reiser_make.proofs.Laying.{goes_none, goes_more, only_more, in_range}
use Rattle.reiser_make.proofs.Placed.{used_below, level_at}
use Rattle.reiser_make.proofs.Rising.{level_more, below_few}
use Rattle.reiser_make.proofs.layout.write_level.Goals as goal

pub above-level-requires-clause-below : goal.above-level-requires-clause-below
above-level-requires-clause-below g c = below_few c.args.plan.now.leaf_count c.args.below.now c.args.plan.now.most c.requires.level c.requires.high

pub node_place-requires-clause-level : goal.node_place-requires-clause-level
node_place-requires-clause-level g c =
    level_more c.args.plan.now.leaf_count c.args.below.now.number c.args.below.now c.above-level.result c.requires.low c.requires.level c.above-level.ensures.number c.above-level.ensures.nodes c.above-level.ensures.below
    ∙ ap (level_of c.args.plan.now.leaf_count) (sym c.above-level.ensures.number)

pub loop-m-init : goal.loop-m-init
loop-m-init g c = record { goes = goes_none _ (IsUsed c.args.usage.now) _ _ _ _; stands = c.new-walk.ensures.stands }

pub write-requires-clause-in_range : goal.write-requires-clause-in_range
write-requires-clause-in_range g c =
    let is = level_more c.args.plan.now.leaf_count c.args.below.now.number c.args.below.now c.above-level.result c.requires.low c.requires.level c.above-level.ensures.number c.above-level.ensures.nodes c.above-level.ensures.below in
    let at = level_at c.args.plan.now.sample c.args.plan.now.leaf_count c.args.below.now.number c.loop-m.m c.node_place.result c.above-level.result c.args.plan.now.counted is c.requires.root c.node_place.ensures.place c.loop-m-test.true in
    in_range _ (needed c.args.plan.now.sample) c.args.usage.now.needed c.args.usage.now.blocks _ _ at.1 c.requires.usage.needed c.requires.usage.fits c.requires.inside c.loop-m.invariant.goes.size

pub returns-in_err-write-clause-only : goal.returns-in_err-write-clause-only
returns-in_err-write-clause-only g c =
    let is = level_more c.args.plan.now.leaf_count c.args.below.now.number c.args.below.now c.above-level.result c.requires.low c.requires.level c.above-level.ensures.number c.above-level.ensures.nodes c.above-level.ensures.below in
    let at = level_at c.args.plan.now.sample c.args.plan.now.leaf_count c.args.below.now.number c.loop-m.m c.node_place.result c.above-level.result c.args.plan.now.counted is c.requires.root c.node_place.ensures.place c.loop-m-test.true in
    only_more _ (IsUsed c.args.usage.now) _ _ _ _ _ _ _ _ _ (map (inner_placed c.args.plan.now.sample c.args.below.now.number) (range_with_len 0 c.loop-m.m)) c.node_place.result c.put_inner.new.into.bytes _ c.loop-m.invariant.goes
    (used_below c.args.plan.now.sample c.args.usage.now c.node_place.result c.requires.usage at.1) c.write.ensures.effect

pub loop-m-preserved : goal.loop-m-preserved
loop-m-preserved g c =
    let is = level_more c.args.plan.now.leaf_count c.args.below.now.number c.args.below.now c.above-level.result c.requires.low c.requires.level c.above-level.ensures.number c.above-level.ensures.nodes c.above-level.ensures.below in
    let at = level_at c.args.plan.now.sample c.args.plan.now.leaf_count c.args.below.now.number c.loop-m.m c.node_place.result c.above-level.result c.args.plan.now.counted is c.requires.root c.node_place.ensures.place c.loop-m-test.true in
    record {
      goes = goes_more _ (IsUsed c.args.usage.now) _ _ _ _ _ _ _ _ _ _ _ _ (inner_placed c.args.plan.now.sample c.args.below.now.number) 0 c.loop-m.m c.loop-m.m c.node_place.result c.put_inner.new.into.bytes
          c.loop-m.invariant.goes (omega arith) (used_below c.args.plan.now.sample c.args.usage.now c.node_place.result c.requires.usage at.1)
          (ap (λ b. (b, c.put_inner.new.into.bytes)) at.0
          ∙ ap (λ bytes. (node_place c.args.plan.now.sample (c.args.below.now.number + 1) c.loop-m.m, bytes)) c.put_inner.ensures.node)
          c.write.ensures.open c.write.ensures.size c.in_ok-write.ensures.cause.kept c.in_ok-write.ensures.effect;
      stands = c.put_inner.ensures.stands;
    }

pub returns-clause-written : goal.returns-clause-written
returns-clause-written g c = λ tells.
    let is = level_more c.args.plan.now.leaf_count c.args.below.now.number c.args.below.now c.above-level.result c.requires.low c.requires.level c.above-level.ensures.number c.above-level.ensures.nodes c.above-level.ensures.below in
    let nodes : c.above-level.result.nodes ≡ level_nodes (length (leaves c.args.plan.now.sample)) (c.args.below.now.number + 1) =
    ap (λ (l : Level). l.nodes) is ∙ ap (λ n. level_nodes n (c.args.below.now.number + 1)) c.args.plan.now.counted in
    c.loop-m.invariant.goes.written tells
    ∙ ap (λ n. laid_over (map (inner_placed c.args.plan.now.sample c.args.below.now.number) (range_with_len 0 n)) (reads (g.D.Disk.history c.args.disk.now)))
    (let end : c.loop-m.m ≡ c.above-level.result.nodes = omega (arith, c.loop-m-test.false, c.loop-m.auto.m-end) in end ∙ nodes)
