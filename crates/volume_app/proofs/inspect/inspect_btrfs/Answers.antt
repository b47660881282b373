use Rattle.volume_app.proofs.Imports.{refl, btrfs_cause, handed_on}
use Rattle.volume_app.proofs.Inspecting.{btrfs_inspected, btrfs_refused, btrfs_known}
use Rattle.volume_app.proofs.inspect.inspect_btrfs.Goals as goal

pub returns-clause-right : goal.returns-clause-right
returns-clause-right g c = λ tells image is format block o.
    btrfs_inspected o image c.in_ok-summary.summary format (c.in_ok-summary.ensures.readable tells image is block) (c.in_ok-summary.ensures.told tells image is block)

pub returns-in_err-summary-clause-right : goal.returns-in_err-summary-clause-right
returns-in_err-summary-clause-right g c = λ tells image is format block o.
    handed_on c.from_residual.result _ _ _ c.from_residual.ensures.1 (btrfs_refused image c.in_err-summary.field-0.0 format (c.in_err-summary.ensures.refused tells image is block))

pub returns-in_err-summary-clause-known : goal.returns-in_err-summary-clause-known
returns-in_err-summary-clause-known g c = handed_on c.from_residual.result _ _ _ c.from_residual.ensures.1 (btrfs_known c.in_err-summary.field-0.0 c.in_err-summary.ensures.known)

pub returns-in_err-summary-clause-cause : goal.returns-in_err-summary-clause-cause
returns-in_err-summary-clause-cause g c = btrfs_cause c.from_residual.result c.in_err-summary.field-0.0 _ _ _ refl c.from_residual.ensures.1 c.in_err-summary.ensures.cause
