use Rattle.btr_node.proofs.Inners.{child_fits}
use Rattle.btr_node.proofs.inner.child_at.Goals as goal

pub at-requires : goal.at-requires
at-requires c = rw c.behind_head.ensures (child_fits c.args.bytes.now c.requires.layout c.args.i c.requires.within)
