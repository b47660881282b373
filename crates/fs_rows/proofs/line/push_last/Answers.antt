use Rattle.fs_rows.proofs.Imports.{[], ◌∷◌, device_by, length_text, mark_text, names_by, spaced}
use Rattle.fs_rows.proofs.LineLemmas.{stopped_first}
use Rattle.fs_rows.proofs.line.push_last.Goals as goal

pub returns-in_err-push_device-clause-taken : goal.returns-in_err-push_device-clause-taken
returns-in_err-push_device-clause-taken g c = λ tells.
    let row = c.args.row.now in
    let rest = 32 ∷ spaced (names_by row.kind row.names ∷ length_text row.kind row.length ∷ mark_text row.kind row.mark ∷ []) in
    stopped_first _ _ (device_by row.kind row) rest _ _ _ c.from_residual.ensures.0 (c.in_err-push_device.ensures.taken tells)
