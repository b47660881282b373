use Rattle.volume_app.proofs.Imports.{refl, btrfs_cause, handed_on}
use Rattle.volume_app.proofs.Listing.{btrfs_listed, btrfs_refused, btrfs_known}
use Rattle.volume_app.proofs.list.list_btrfs.Goals as goal

pub returns-clause-right : goal.returns-clause-right
returns-clause-right g c = λ tells image is format block.
    let told = c.in_ok-list.ensures.rows tells image is block in
    btrfs_listed image c.in_ok-list.field-0 format told.0 told.1

pub returns-in_err-list-clause-right : goal.returns-in_err-list-clause-right
returns-in_err-list-clause-right g c = λ tells image is format block.
    handed_on c.from_residual.result _ _ _ c.from_residual.ensures.1 (btrfs_refused image c.in_err-list.field-0.0 format (c.in_err-list.ensures.rows tells image is block))

pub returns-in_err-list-clause-known : goal.returns-in_err-list-clause-known
returns-in_err-list-clause-known g c = handed_on c.from_residual.result _ _ _ c.from_residual.ensures.1 (btrfs_known c.in_err-list.field-0.0)

pub returns-in_err-list-clause-cause : goal.returns-in_err-list-clause-cause
returns-in_err-list-clause-cause g c = btrfs_cause c.from_residual.result c.in_err-list.field-0.0 _ _ _ refl c.from_residual.ensures.1 c.in_err-list.ensures.cause
