use Rattle.btr_reader_names.proofs.Imports.{◌<◌, ◌≤◌, List, length, get_or, Contains, sym, subst, get_or_default, err_from_is_err_and, NodeId, IsGoodNode, BlamesNode}
use Rattle.btr_reader_names.proofs.Members.{each_more, each_among, indexed}
use Rattle.btr_reader_names.proofs.inode_rules.check_inodes.Goals as goal

pub returns-in_err-check_inode-clause-blamed : goal.returns-in_err-check_inode-clause-blamed
returns-in_err-check_inode-clause-blamed c =
    let keys : List NodeId = c.as_slice-node-items.result.now in
    let none : NodeId = record { space = 0; number = 0 } in
    let node : NodeId = get_or keys c.loop-node.node-index none in
    let within : c.loop-node.node-index < length keys = c.loop-node-test.true in
    let among = subst (λ (l : List NodeId). Contains l node) c.as_slice-node-items.ensures.keys (indexed keys c.loop-node.node-index node within (get_or_default keys c.loop-node.node-index _ _ within)) in
    let err = err_from_is_err_and c.from_residual.result c.from_residual.ensures.1 in
    rw err.1 (node, among, subst (BlamesNode c.args.names.now node) (sym err.2) c.in_err-check_inode.ensures.blamed)

pub loop-node-preserved : goal.loop-node-preserved
loop-node-preserved c =
    let keys : List NodeId = c.as_slice-node-items.result.now in
    let within : c.loop-node.node-index < length keys = c.loop-node-test.true in
    each_more (IsGoodNode c.args.names.now) keys c.loop-node.node-index (get_or keys c.loop-node.node-index (record { space = 0; number = 0 })) c.loop-node.invariant within
    (get_or_default keys c.loop-node.node-index _ _ within) c.in_ok-check_inode.ensures.good

pub returns-clause-good : goal.returns-clause-good
returns-clause-good c = λ node among.
    let keys : List NodeId = c.as_slice-node-items.result.now in
    let all : length keys ≤ c.loop-node.node-index = c.loop-node-test.false in
    each_among (IsGoodNode c.args.names.now) keys c.loop-node.node-index all c.loop-node.invariant node (subst (λ (l : List NodeId). Contains l node) (sym c.as_slice-node-items.ensures.keys) among)
