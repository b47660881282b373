use Rattle.btr_check_trees.proofs.Imports.{◌∙◌, err_from_is_err_and}
use Rattle.btr_check_trees.proofs.ChunkTree.{all_sound, array_fails, chunks_fail, super_fails}
use Rattle.btr_check_trees.proofs.chunk_tree.judge.Goals as goal

pub returns-in_err-ask-clause-err : goal.returns-in_err-ask-clause-err
returns-in_err-ask-clause-err c =
    let err = err_from_is_err_and c.from_residual.result c.from_residual.ensures.1 in
    let told = c.in_err-ask.ensures.err in
    rw err.1 (super_fails c.args.sup.now c.args.boot.now c.args.system.now c.args.chunks.now c.keeps_super.result err.0 c.keeps_super.ensures told.0 (err.2 ∙ told.1))

pub returns-in_err-ask-2-clause-err : goal.returns-in_err-ask-2-clause-err
returns-in_err-ask-2-clause-err c =
    let err = err_from_is_err_and c.from_residual-in_err-ask-2.result c.from_residual-in_err-ask-2.ensures.1 in
    let told = c.in_err-ask-2.ensures.err in
    rw err.1 (array_fails c.args.sup.now c.args.boot.now c.args.system.now c.args.chunks.now c.are_system.result err.0 c.are_system.ensures told.0 (err.2 ∙ told.1))

pub returns-in_err-ask_none-clause-err : goal.returns-in_err-ask_none-clause-err
returns-in_err-ask_none-clause-err c =
    let err = err_from_is_err_and c.from_residual-in_err-ask_none.result c.from_residual-in_err-ask_none.ensures.1 in
    let told = c.in_err-ask_none.ensures.err in
    rw err.1 (chunks_fail c.args.sup.now c.args.boot.now c.args.system.now c.args.chunks.now c.in_ok-wrong_chunk.field-0 err.0 c.in_ok-wrong_chunk.ensures (told.0, told.1, err.2 ∙ told.2))

pub returns-clause-ok : goal.returns-clause-ok
returns-clause-ok c =
    all_sound c.args.sup.now c.args.boot.now c.args.system.now c.args.chunks.now c.keeps_super.result c.are_system.result c.in_ok-wrong_chunk.field-0 c.keeps_super.ensures c.in_ok-ask.ensures.ok c.are_system.ensures
    c.in_ok-ask-2.ensures.ok c.in_ok-wrong_chunk.ensures c.in_ok-ask_none.ensures.ok
