use Rattle.convert_trees.proofs.Imports.{◌∙◌}
use Rattle.convert_trees.proofs.Adding.{adds_of, all_of_list}
use Rattle.convert_trees.proofs.first.write_empty.Goals as goal

pub returns-clause-tree : goal.returns-clause-tree
returns-clause-tree g c = λ tells other is none are_none writable.
    adds_of _ _ _ _ _ _
    (c.write.ensures.tree tells other is tt (λ b never inside. never) _ (all_of_list _ _ _ _ c.new.ensures.all c.new.ensures.none_given (c.new-none.ensures ∙ are_none)) writable)
