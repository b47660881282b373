use Rattle.space_items.proofs.Imports.{[], arith, dev_extent_item}
use Rattle.space_items.proofs.ChunkLists.{mapped_more, mapped_all}
use Rattle.space_items.proofs.chunk_lists.devices.Goals as goal

pub loop-i-preserved : goal.loop-i-preserved
loop-i-preserved c =
    mapped_more (dev_extent_item c.args.ids.now) [] c.loop-i.items c.add_dev_extent.new.items c.chunks.inside.items.items c.in_ok-chunks.chunks c.loop-i.i c.get.result c.chunks.view_is c.get.ensures
    c.loop-i.invariant c.in_ok-add_dev_extent.ensures

pub returns : goal.returns
returns c = λ list are.
    mapped_all (dev_extent_item c.args.ids.now) [] c.loop-i.items c.args.plan.now c.args.blocks c.chunks.inside.items.items c.in_ok-chunks.chunks list c.loop-i.i c.chunks.view_is (omega arith)
    c.loop-i.invariant c.in_ok-chunks.ensures are
