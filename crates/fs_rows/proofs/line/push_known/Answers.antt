use Rattle.fs_rows.proofs.Imports.{[], ◌∷◌, ◌++◌, flags_text, last_fields, owner_fields, time_fields}
use Rattle.fs_rows.proofs.LineLemmas.{pushes_fields, stopped_fields}
use Rattle.fs_rows.proofs.line.push_known.Goals as goal

pub returns-in_err-push_owner-clause-taken : goal.returns-in_err-push_owner-clause-taken
returns-in_err-push_owner-clause-taken g c = λ tells.
    let r = c.args.row.now in
    stopped_fields (owner_fields r) (time_fields r ++ (flags_text r ∷ last_fields r)) _ _ _ _ _ c.from_residual.ensures.0 (c.in_err-push_owner.ensures.taken tells)

pub returns-in_err-push_times-clause-taken : goal.returns-in_err-push_times-clause-taken
returns-in_err-push_times-clause-taken g c = λ tells.
    let r = c.args.row.now in
    pushes_fields (owner_fields r) (time_fields r ++ (flags_text r ∷ last_fields r)) _ _ _ _ _ _ _ (c.in_ok-push_owner.ensures.taken tells)
    (stopped_fields (time_fields r) (flags_text r ∷ last_fields r) _ _ _ _ _ c.from_residual-in_err-push_times.ensures.0 (c.in_err-push_times.ensures.taken tells))

pub returns-in_err-push_flags-clause-taken : goal.returns-in_err-push_flags-clause-taken
returns-in_err-push_flags-clause-taken g c = λ tells.
    let r = c.args.row.now in
    pushes_fields (owner_fields r) (time_fields r ++ (flags_text r ∷ last_fields r)) _ _ _ _ _ _ _ (c.in_ok-push_owner.ensures.taken tells)
    (pushes_fields (time_fields r) (flags_text r ∷ last_fields r) _ _ _ _ _ _ _ (c.in_ok-push_times.ensures.taken tells)
    (stopped_fields (flags_text r ∷ []) (last_fields r) _ _ _ _ _ c.from_residual-in_err-push_flags.ensures.0 (c.in_err-push_flags.ensures.taken tells)))

pub returns-clause-taken : goal.returns-clause-taken
returns-clause-taken g c = λ tells.
    let r = c.args.row.now in
    pushes_fields (owner_fields r) (time_fields r ++ (flags_text r ∷ last_fields r)) _ _ _ _ _ _ _ (c.in_ok-push_owner.ensures.taken tells)
    (pushes_fields (time_fields r) (flags_text r ∷ last_fields r) _ _ _ _ _ _ _ (c.in_ok-push_times.ensures.taken tells)
    (pushes_fields (flags_text r ∷ []) (last_fields r) _ _ _ _ _ _ _ (c.in_ok-push_flags.ensures.taken tells) (c.push_last.ensures.taken tells)))
