use Rattle.fs_rows.proofs.Imports.{◌++◌, pushes_later, end_by, ending_text, fields_by, least_text, path_text, spaced}
use Rattle.fs_rows.proofs.LineLemmas.{stopped_first}
use Rattle.fs_rows.proofs.line.push_row.Goals as goal

pub returns-in_err-push_fields-clause-taken : goal.returns-in_err-push_fields-clause-taken
returns-in_err-push_fields-clause-taken g c = λ tells.
    let r = c.args.row.now in
    stopped_first _ _ (spaced (fields_by r.kind r)) (path_text r.path ++ ending_text r) _ _ _ c.from_residual.ensures.0 (c.in_err-push_fields.ensures.taken tells)

pub returns-in_err-push_path-clause-taken : goal.returns-in_err-push_path-clause-taken
returns-in_err-push_path-clause-taken g c = λ tells.
    let r = c.args.row.now in
    pushes_later _ _ (spaced (fields_by r.kind r)) _ _ (path_text r.path ++ ending_text r) _ _ _ (c.in_ok-push_fields.ensures.taken tells)
    (stopped_first _ _ (path_text r.path) (ending_text r) _ _ _ c.from_residual-in_err-push_path.ensures.0 (c.in_err-push_path.ensures.taken tells))

pub returns-in_err-push_least-clause-taken : goal.returns-in_err-push_least-clause-taken
returns-in_err-push_least-clause-taken g c = λ tells.
    let r = c.args.row.now in
    pushes_later _ _ (spaced (fields_by r.kind r)) _ _ (path_text r.path ++ ending_text r) _ _ _ (c.in_ok-push_fields.ensures.taken tells)
    (pushes_later _ _ (path_text r.path) _ _ (ending_text r) _ _ _ (c.in_ok-push_path.ensures.taken tells)
    (stopped_first _ _ (least_text r) (end_by r.kind r.target) _ _ _ c.from_residual-in_err-push_least.ensures.0 (c.in_err-push_least.ensures.taken tells)))

pub returns-clause-taken : goal.returns-clause-taken
returns-clause-taken g c = λ tells.
    let r = c.args.row.now in
    let ended = rw c.bytes.ensures at (c.push_end.ensures.taken tells) in
    pushes_later _ _ (spaced (fields_by r.kind r)) _ _ (path_text r.path ++ ending_text r) _ _ _ (c.in_ok-push_fields.ensures.taken tells)
    (pushes_later _ _ (path_text r.path) _ _ (ending_text r) _ _ _ (c.in_ok-push_path.ensures.taken tells)
    (pushes_later _ _ (least_text r) _ _ (end_by r.kind r.target) _ _ _ (c.in_ok-push_least.ensures.taken tells) ended))
