use Rattle.convert_trees.proofs.Imports.{◌∙◌}
use Rattle.convert_trees.proofs.Adding.{adds_of, none_of, some_of}
use Rattle.convert_trees.proofs.Sums.{sums_fit}
use Rattle.convert_trees.proofs.first.write_sums.Goals as goal

pub returns-then-not-w-clause-tree : goal.returns-then-not-w-clause-tree
returns-then-not-w-clause-tree g c = λ tells other is apart writable. c.write_empty.ensures.tree tells other is _ (none_of c.args.w.now.options.now.datasum _ c.if-not-w.true) writable

pub returns-clause-tree : goal.returns-clause-tree
returns-clause-tree g c = λ tells other is apart writable.
    adds_of _ _ _ _ _ _
    (c.write.ensures.tree tells other is (sums_fit _ _ other) apart _
    (c.in_ok-checksums.ensures.all other ∙ some_of c.args.w.now.options.now.datasum _ c.if-not-w.false) writable)
