use Rattle.volume_state.proofs.Imports.{sym, subst, err_from_is_err_and, RefusesUse}
use Rattle.volume_state.proofs.InUse.{log_refused, way_refused}
use Rattle.volume_state.proofs.Telling.{way_among}
use Rattle.volume_state.proofs.using.reserved_used.Goals as goal

pub returns-then-volume-ne0-clause-told : goal.returns-then-volume-ne0-clause-told
returns-then-volume-ne0-clause-told g c = λ tells image is on.
    log_refused image c.args.volume.now.sup c.args.volume.now.ranges.items on.opened c.if-volume-ne0.true

pub returns-in_err-way-clause-told : goal.returns-in_err-way-clause-told
returns-in_err-way-clause-told g c = λ tells image is on.
    let sup = c.args.volume.now.sup in
    let ranges = c.args.volume.now.ranges.items in
    let err = err_from_is_err_and c.from_residual.result c.from_residual.ensures.1 in
    rw err.1
    (subst (RefusesUse image) (sym err.2)
    (way_refused image sup ranges on.opened c.in_err-way.field-0.0 c.if-volume-ne0.false (way_among image sup ranges on.opened c.in_err-way.field-0.0 (c.in_err-way.ensures.reads tells image is on))))
