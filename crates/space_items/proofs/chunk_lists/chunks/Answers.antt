use Rattle.space_items.proofs.Imports.{arith, chunk_item}
use Rattle.space_items.proofs.ChunkLists.{mapped_more, mapped_all, chunk_blocks_fit, with_device}
use Rattle.space_items.proofs.chunk_lists.chunks.Goals as goal

pub device_body-requires-clause-chunks : goal.device_body-requires-clause-chunks
device_body-requires-clause-chunks c = omega (arith, c.requires.small, chunk_blocks_fit c.args.plan.now c.args.blocks c.in_ok-chunks.chunks c.in_ok-chunks.ensures)

pub loop-i-preserved : goal.loop-i-preserved
loop-i-preserved c =
    mapped_more (chunk_item c.args.ids.now) c.add.new.self c.loop-i.items c.add_chunk.new.items c.chunks.inside.items.items c.in_ok-chunks.chunks c.loop-i.i c.get.result c.chunks.view_is c.get.ensures
    c.loop-i.invariant c.in_ok-add_chunk.ensures

pub returns : goal.returns
returns c = λ list are.
    let all =
    mapped_all (chunk_item c.args.ids.now) c.add.new.self c.loop-i.items c.args.plan.now c.args.blocks c.chunks.inside.items.items c.in_ok-chunks.chunks list c.loop-i.i c.chunks.view_is (omega arith)
    c.loop-i.invariant c.in_ok-chunks.ensures are in
    with_device c.args.ids.now c.args.plan.now c.args.blocks c.in_ok-chunks.chunks list c.new-items.result c.add.new.self c.loop-i.items c.key_of.result c.write.new.into c.device_body.result
    c.in_ok-chunks.ensures are c.new-items.ensures c.key_of.ensures c.write.ensures c.device_body.ensures c.in_ok-add.ensures.ok all
