use Rattle.fs_rows.proofs.Imports.{◌≡◌, false, codes, sym, ◌∙◌, path_text}
use Rattle.fs_rows.specs.Rows.{is_same_path}
use Rattle.fs_rows.proofs.LineLemmas.{stopped_first}
use Rattle.fs_rows.proofs.line.push_least.Goals as goal

pub returns-in_err-push-clause-taken : goal.returns-in_err-push-clause-taken
returns-in_err-push-clause-taken g c = λ tells.
    let r = c.args.row.now in
    let other : is_same_path r.path r.least ≡ false = sym c.eq.ensures ∙ c.if-eq.false in
    rw other (stopped_first _ _ (codes " = ") (path_text r.least) _ _ _ c.from_residual.ensures.0 (c.in_err-push.ensures.taken tells))
