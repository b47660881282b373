use Rattle.btr_reader.proofs.Imports.{sym, subst, err_from_is_err_and, RefusesTree, roots_on}
use Rattle.btr_reader.proofs.Answered.{not_found}
use Rattle.btr_reader.proofs.volume.Btrfs.file_tree.Goals as goal

pub returns-in_err-tree-clause-finds : goal.returns-in_err-tree-clause-finds
returns-in_err-tree-clause-finds c = λ image roots.
    let sup = c.args.self.now.sup in
    let ranges = c.args.self.now.ranges.items in
    let err = err_from_is_err_and c.from_residual.result c.from_residual.ensures.1 in
    rw err.1 (subst (RefusesTree image sup ranges) (sym err.2) (not_found image sup ranges _ (c.in_err-tree.ensures.finds (roots_on image sup ranges) roots)))
