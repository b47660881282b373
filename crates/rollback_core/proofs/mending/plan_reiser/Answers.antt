use Rattle.rollback_core.proofs.Imports.{◌∙◌, refl, handed_on, volume_cause}
use Rattle.rollback_core.proofs.Plans.{front_refused, reiser_planned}
use Rattle.rollback_core.proofs.mending.plan_reiser.Goals as goal

pub returns-in_err-front-clause-planned : goal.returns-in_err-front-clause-planned
returns-in_err-front-clause-planned g c = λ tells image is format.
    handed_on c.from_residual.result _ _ _ c.from_residual.ensures.1 (front_refused image c.in_err-front.field-0.0 format (c.in_err-front.ensures.refused tells image is))

pub returns-in_err-front-clause-cause : goal.returns-in_err-front-clause-cause
returns-in_err-front-clause-cause g c = volume_cause c.from_residual.result c.in_err-front.field-0.0 _ _ _ refl c.from_residual.ensures.1 c.in_err-front.ensures.cause

pub returns-clause-planned : goal.returns-clause-planned
returns-clause-planned g c = λ tells image is format.
    let here = g.met.S.BlockSource.kept_blocks c.args.src.now c.open.new.src tells c.open.ensures.kept ∙ is in
    let front = c.in_ok-front.ensures.found tells image is in
    reiser_planned image c.in_ok-wipe_both.field-0 c.in_ok-front.front.bitmap front.accepted front.bitmap format c.in_ok-wipe_both.ensures.format
    (c.in_ok-wipe_both.ensures.first tells image here) (c.in_ok-wipe_both.ensures.second tells image here)
