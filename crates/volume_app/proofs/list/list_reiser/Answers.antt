use Rattle.volume_app.proofs.Imports.{refl, handed_on, volume_cause}
use Rattle.volume_app.proofs.Listing.{reiser_listed, reiser_refused, reiser_known}
use Rattle.volume_app.proofs.list.list_reiser.Goals as goal

pub returns-clause-right : goal.returns-clause-right
returns-clause-right g c = λ tells image is other.
    let told = c.in_ok-reiser_rows.ensures.rows tells image is in
    reiser_listed image c.in_ok-reiser_rows.field-0 other told.0 told.1

pub returns-in_err-reiser_rows-clause-right : goal.returns-in_err-reiser_rows-clause-right
returns-in_err-reiser_rows-clause-right g c = λ tells image is other.
    handed_on c.from_residual.result _ _ _ c.from_residual.ensures.1 (reiser_refused image c.in_err-reiser_rows.field-0.0 other (c.in_err-reiser_rows.ensures.rows tells image is))

pub returns-in_err-reiser_rows-clause-known : goal.returns-in_err-reiser_rows-clause-known
returns-in_err-reiser_rows-clause-known g c = handed_on c.from_residual.result _ _ _ c.from_residual.ensures.1 (reiser_known c.in_err-reiser_rows.field-0.0 c.in_err-reiser_rows.ensures.answers)

pub returns-in_err-reiser_rows-clause-cause : goal.returns-in_err-reiser_rows-clause-cause
returns-in_err-reiser_rows-clause-cause g c = volume_cause c.from_residual.result c.in_err-reiser_rows.field-0.0 _ _ _ refl c.from_residual.ensures.1 c.in_err-reiser_rows.ensures.cause
