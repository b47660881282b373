use Rattle.volume_app.proofs.Imports.{refl, handed_on, volume_cause}
use Rattle.volume_app.proofs.Inspecting.{reiser_inspected, reiser_refused, reiser_known}
use Rattle.volume_app.proofs.inspect.inspect_reiser.Goals as goal

pub returns-clause-right : goal.returns-clause-right
returns-clause-right g c = λ tells image is other.
    reiser_inspected c.args.options.now image c.in_ok-summary.summary other (c.in_ok-summary.ensures.accepted tells image is) (c.in_ok-summary.ensures.told tells image is)

pub returns-in_err-summary-clause-right : goal.returns-in_err-summary-clause-right
returns-in_err-summary-clause-right g c = λ tells image is other.
    handed_on c.from_residual.result _ _ _ c.from_residual.ensures.1 (reiser_refused image c.in_err-summary.field-0.0 other (c.in_err-summary.ensures.refused tells image is))

pub returns-in_err-summary-clause-known : goal.returns-in_err-summary-clause-known
returns-in_err-summary-clause-known g c = handed_on c.from_residual.result _ _ _ c.from_residual.ensures.1 (reiser_known c.in_err-summary.field-0.0 c.in_err-summary.ensures.answers)

pub returns-in_err-summary-clause-cause : goal.returns-in_err-summary-clause-cause
returns-in_err-summary-clause-cause g c = volume_cause c.from_residual.result c.in_err-summary.field-0.0 _ _ _ refl c.from_residual.ensures.1 c.in_err-summary.ensures.cause
