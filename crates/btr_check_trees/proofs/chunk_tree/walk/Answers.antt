use Rattle.btr_check_trees.proofs.Imports.{sym, subst, ◌∙◌, err_from_is_err_and, IsPassAnswer}
use Rattle.btr_check_trees.proofs.ChunkTree.{walk_failed, walked}
use Rattle.btr_check_trees.proofs.chunk_tree.walk.Goals as goal

pub returns-in_err-each_item-clause-err : goal.returns-in_err-each_item-clause-err
returns-in_err-each_item-clause-err g c = λ tells image is on.
    let err = err_from_is_err_and c.from_residual-in_err-each_item.result c.from_residual-in_err-each_item.ensures.1 in
    rw err.1
    (subst (IsPassAnswer image) (sym err.2)
    (walk_failed image c.args.volume.now c.in_err-each_item.field-0.0 on c.as_slice.result.now c.chunk_tree.result c.as_slice.ensures.value c.chunk_tree.ensures.tree (c.in_err-each_item.ensures.err tells image is)))

pub returns-clause-walks : goal.returns-clause-walks
returns-clause-walks g c = λ tells image is on array.
    walked image c.args.volume.now c.args.boot.now c.in_ok-items.items c.each_item.new.visitor on array (c.in_ok-items.ensures.sup ∙ c.sup.ensures) c.in_ok-items.ensures.boot c.as_slice.result.now c.chunk_tree.result
    c.as_slice.ensures.value c.chunk_tree.ensures.tree (c.in_ok-each_item.ensures.visited tells image is) (c.in_ok-each_item.ensures.ok tells image is)
