use Rattle.btr_node.proofs.Imports.{ap, ◌∙◌, take_rest, CSUM_SIZE, head_layout}
use Rattle.btr_node.proofs.head.Head.of.Goals as goal

pub returns : goal.returns
returns c = c.first.ensures ∙ ap head_layout.read (take_rest c.args.bytes.now CSUM_SIZE)
