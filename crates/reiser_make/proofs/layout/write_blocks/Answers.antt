use Rattle.reiser_make.proofs.Imports.{◌*◌, ◌+◌, map, ap, ◌∙◌, arith, range_with_len, needed, IsUsed, data_placed, place, stored_before, stored_of, sample_bytes}
use Rattle.reiser_make.proofs.Laying.{goes_more, only_more, in_range}
use Rattle.reiser_make.proofs.Placed.{used_below, data_at}
use Rattle.reiser_make.proofs.layout.write_blocks.Goals as goal

pub write-requires-clause-in_range : goal.write-requires-clause-in_range
write-requires-clause-in_range g c =
    let at = data_at c.args.plan.now.sample c.args.i c.loop-j.j c.first-first.result c.place.result c.stored_of-j-end.result (stored_of c.args.whole c.args.sparse)
    c.place.ensures.place c.first-first.ensures.first c.loop-j-test.true c.stored_of-j-end.ensures.stored c.requires.stored in
    in_range _ (needed c.args.plan.now.sample) c.args.usage.now.needed c.args.usage.now.blocks _ _ at.1 c.requires.usage.needed c.requires.usage.fits c.requires.inside c.loop-j.invariant.size

pub returns-in_err-write-clause-only : goal.returns-in_err-write-clause-only
returns-in_err-write-clause-only g c =
    let at = data_at c.args.plan.now.sample c.args.i c.loop-j.j c.first-first.result c.place.result c.stored_of-j-end.result (stored_of c.args.whole c.args.sparse)
    c.place.ensures.place c.first-first.ensures.first c.loop-j-test.true c.stored_of-j-end.ensures.stored c.requires.stored in
    only_more _ (IsUsed c.args.usage.now) _ _ _ _ _ _ _ _ _ (map (data_placed c.args.plan.now.sample c.args.i c.args.sparse) (range_with_len 0 c.loop-j.j)) c.place.result c.put_block.new.into.bytes _ c.loop-j.invariant
    (used_below c.args.plan.now.sample c.args.usage.now c.place.result c.requires.usage at.1) c.write.ensures.effect

pub loop-j-preserved : goal.loop-j-preserved
loop-j-preserved g c =
    let at = data_at c.args.plan.now.sample c.args.i c.loop-j.j c.first-first.result c.place.result c.stored_of-j-end.result (stored_of c.args.whole c.args.sparse)
    c.place.ensures.place c.first-first.ensures.first c.loop-j-test.true c.stored_of-j-end.ensures.stored c.requires.stored in
    goes_more _ (IsUsed c.args.usage.now) _ _ _ _ _ _ _ _ _ _ _ _ (data_placed c.args.plan.now.sample c.args.i c.args.sparse) 0 c.loop-j.j c.loop-j.j c.place.result c.put_block.new.into.bytes
    c.loop-j.invariant (omega arith) (used_below c.args.plan.now.sample c.args.usage.now c.place.result c.requires.usage at.1)
    (ap (λ b. (b, c.put_block.new.into.bytes)) at.0
    ∙ ap (λ bytes. (place (stored_before c.args.plan.now.sample.names c.args.i + c.loop-j.j), bytes)) (c.put_block.ensures ∙ ap (λ k. sample_bytes c.args.i c.args.sparse (4096 * k) 4096) c.stored_block.ensures))
    c.write.ensures.open c.write.ensures.size c.in_ok-write.ensures.cause.kept c.in_ok-write.ensures.effect
