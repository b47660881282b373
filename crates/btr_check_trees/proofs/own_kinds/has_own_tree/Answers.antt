use Rattle.btr_check_trees.proofs.Imports.{◌∙◌}
use Rattle.btr_check_trees.proofs.KindRules.{own_kinds_same}
use Rattle.btr_check_trees.proofs.own_kinds.has_own_tree.Goals as goal

pub returns : goal.returns
returns c = λ body. c.stands_in.ensures ∙ own_kinds_same c.args.number (c.args.key.now, body)
