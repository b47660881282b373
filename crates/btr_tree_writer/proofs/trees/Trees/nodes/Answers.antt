use Rattle.btr_tree_writer.proofs.Imports.{arith, nodes_at_slots}
use Rattle.btr_tree_writer.proofs.trees.Trees.nodes.Goals as goal

pub returns-clause-fit : goal.returns-clause-fit
returns-clause-fit c = λ row. nodes_at_slots c.args.self.now.nodes c.args.self.now.slots c.args.self.now.taken row.nodes row.ascending (omega (arith, row.few))
