use Rattle.btr_reader_names.proofs.Imports.{List, subst, FIRST_FREE_OBJECTID, contains, NodeLink, NodeId, same_node, AreReached, inode_node}
use Rattle.btr_reader_names.proofs.Reaching.{named_are}
use Rattle.btr_reader_names.proofs.check.reach.Goals as goal

pub returns : goal.returns
returns c = λ items noted.
    named_are c.args.names.now items noted (contains same_node c.in_ok-named.named) (subst (λ (l : List NodeLink). AreReached l (inode_node FIRST_FREE_OBJECTID) (contains same_node c.in_ok-named.named)) c.in_ok-steps.ensures (subst (λ (n : NodeId). AreReached c.in_ok-steps.steps.items n (contains same_node c.in_ok-named.named)) c.inode_node.ensures c.in_ok-named.ensures))
