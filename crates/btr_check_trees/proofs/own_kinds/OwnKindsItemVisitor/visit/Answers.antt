use Rattle.btr_check_trees.proofs.Imports.{refl}
use Rattle.btr_check_trees.proofs.KindRules.{kind_met}
use Rattle.btr_check_trees.proofs.own_kinds.OwnKindsItemVisitor.visit.Goals as goal

pub returns-clause-visited : goal.returns-clause-visited
returns-clause-visited c = λ begun items holds order.
    kind_met c.ask.result begun c.args.self.now _ items _ (c.args.key.now, c.args.arg4.now) c.has_own_tree.result (c.has_own_tree.ensures c.args.arg4.now) refl holds c.ask.ensures.ok c.ask.ensures.err
