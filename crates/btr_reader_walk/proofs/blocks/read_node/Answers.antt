use Rattle.btr_reader_walk.proofs.Imports.{◌≡◌, length, arith, node_at}
use Rattle.btr_reader_walk.proofs.Mapping.{blocks_mapped}
use Rattle.btr_reader_walk.proofs.blocks.read_node.Goals as goal

pub read_blocks-requires-clause-mapped : goal.read_blocks-requires-clause-mapped
read_blocks-requires-clause-mapped g c =
    let same : c.len.result ≡ length c.args.buffer.now.items = omega arith in
    blocks_mapped c.args.ranges.now (length c.args.buffer.now.items) c.len.result c.args.address c.is_mapped.result c.if-not-is_mapped.false c.is_mapped.ensures same

pub returns-clause-bytes : goal.returns-clause-bytes
unfolding node_at
returns-clause-bytes g c = λ tells. c.in_ok-read_blocks.ensures.bytes tells
