use Rattle.space_items.proofs.Imports.{arith}
use Rattle.space_items.proofs.ChunkLists.{blocks_more, blocks_more_le}
use Rattle.space_items.proofs.chunk_lists.chunk_blocks.Goals as goal

pub overflow_add-blocks : goal.overflow_add-blocks
overflow_add-blocks c = omega (arith, c.loop-i.invariant, c.requires, blocks_more_le c.args.chunks.now c.loop-i.i c.get-blocks.result c.get-blocks.ensures)

pub loop-i-preserved : goal.loop-i-preserved
loop-i-preserved c = omega (arith, c.loop-i.invariant, blocks_more c.args.chunks.now c.loop-i.i c.get-blocks.result c.get-blocks.ensures)
