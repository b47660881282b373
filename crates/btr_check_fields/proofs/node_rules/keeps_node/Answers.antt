use Rattle.btr_check_fields.proofs.Imports.{Decides-at}
use Rattle.btr_check_fields.proofs.NodeRules.{decides_node}
use Rattle.btr_check_fields.proofs.node_rules.keeps_node.Goals as goal

pub returns : goal.returns
returns c = λ image r same is. Decides-at _ _ c.passes.ensures (decides_node image r c.args.sup.now c.args.p.now c.args.bytes.now same is)
