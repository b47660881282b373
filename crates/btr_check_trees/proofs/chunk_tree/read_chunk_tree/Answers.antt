use Rattle.btr_check_trees.proofs.Imports.{◌∙◌, Some, ap, subst, sym, err_from_is_err_and, boot_chunks, IsPassAnswer}
use Rattle.btr_check_trees.proofs.ChunkTree.{boot_failed, judge_failed, judge_kept}
use Rattle.btr_check_trees.proofs.chunk_tree.read_chunk_tree.Goals as goal

pub returns-in_err-boot-clause-err : goal.returns-in_err-boot-clause-err
returns-in_err-boot-clause-err g c = λ tells image is on.
    let err = err_from_is_err_and c.from_residual.result c.from_residual.ensures.1 in
    rw err.1 (subst (IsPassAnswer image) (sym err.2) (boot_failed image c.args.volume.now c.sup.result.now c.in_err-boot.field-0.0 on c.sup.ensures c.in_err-boot.ensures.err))

pub returns-in_err-judge-clause-err : goal.returns-in_err-judge-clause-err
returns-in_err-judge-clause-err g c = λ tells image is on.
    let read = ap boot_chunks (sym c.sup.ensures) ∙ c.in_ok-boot.ensures.ok in
    let walks = c.in_ok-items.ensures.walks tells image is on (read ∙ ap Some (sym c.as_slice.ensures.value)) in
    let err = err_from_is_err_and c.from_residual-in_err-judge.result c.from_residual-in_err-judge.ensures.1 in
    rw err.1
    (subst (IsPassAnswer image) (sym err.2)
    (judge_failed image c.args.volume.now c.in_ok-items.items c.sup-2.result.now c.as_slice-2.result.now c.as_slice-3.result.now c.as_slice-4.result.now c.in_err-judge.field-0.0 on walks c.sup-2.ensures
    (read ∙ ap Some (sym c.as_slice-2.ensures.value)) c.as_slice-3.ensures.value c.as_slice-4.ensures.value c.in_err-judge.ensures.err))

pub returns-clause-keeps : goal.returns-clause-keeps
returns-clause-keeps g c = λ tells image is on.
    let read = ap boot_chunks (sym c.sup.ensures) ∙ c.in_ok-boot.ensures.ok in
    let walks = c.in_ok-items.ensures.walks tells image is on (read ∙ ap Some (sym c.as_slice.ensures.value)) in
    judge_kept image c.args.volume.now c.in_ok-items.items c.found_in.result c.sup-2.result.now c.as_slice-2.result.now c.as_slice-3.result.now c.as_slice-4.result.now on walks c.sup-2.ensures
    (read ∙ ap Some (sym c.as_slice-2.ensures.value)) c.as_slice-3.ensures.value c.as_slice-4.ensures.value c.in_ok-judge.ensures.ok c.found_in.ensures.chunks c.found_in.ensures.devices
