use Rattle.btr_check_fields.proofs.Imports.{sym, subst}
use Rattle.std.proofs.lemmas.Result.{err_from_is_err_and}
use Rattle.btr_check_rules.specs.btr_reader.btr_reader_walk.Walks.{IsAmong, found, wrong}
use Rattle.btr_check_fields.proofs.device_tree.wrong_device_extent.Goals as goal

pub returns-in_err-note_items-clause-err : goal.returns-in_err-note_items-clause-err
returns-in_err-note_items-clause-err g c = λ tells image is.
    let err = err_from_is_err_and c.from_residual.result c.from_residual.ensures.1 in
    rw err.1 (subst (IsAmong (wrong image c.args.ranges.now c.args.tree)) (sym err.2) (c.in_err-note_items.ensures.err tells image is))

pub returns-clause-tells : goal.returns-clause-tells
returns-clause-tells g c = λ tells image is. c.judge.ensures (found image c.args.ranges.now c.args.tree) (c.in_ok-note_items.ensures.noted tells image is)
