use Rattle.btr_node.proofs.Imports.{take_rest, HEADER_SIZE}
use Rattle.btr_node.proofs.head.behind_head.Goals as goal

pub returns : goal.returns
returns c = take_rest c.args.bytes.now HEADER_SIZE
