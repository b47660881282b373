use Rattle.convert_steps.proofs.Imports.{Bool, List, refl, sym, ap, subst, ◌∙◌, ids_by, label_by, label_field, HasEnoughSpace, IsPlan, need, Counts, IsPrepareAnswer, RefusesConversion}
use Rattle.command_answers.proofs.Handed.{handed_on, volume_cause}
use Rattle.reiser_volume.specs.reiser_super.declared.superblock.Super.{Super}
use Rattle.convert_steps.proofs.Preparing.{by_find, by_open, fits, has_plan, plan_answers, plan_cause, plan_refuses, volume_answers}
use Rattle.convert_steps.proofs.prepared.prepare.Goals as goal

pub returns-in_err-volume-clause-cause : goal.returns-in_err-volume-clause-cause
returns-in_err-volume-clause-cause g c = volume_cause c.from_residual.result c.in_err-volume.field-0.0 _ _ _ refl c.from_residual.ensures.1 c.in_err-volume.ensures.cause

pub returns-in_err-volume-clause-answers : goal.returns-in_err-volume-clause-answers
returns-in_err-volume-clause-answers g c = handed_on c.from_residual.result _ _ _ c.from_residual.ensures.1 (volume_answers c.in_err-volume.field-0.0)

pub returns-in_err-volume-clause-prepared : goal.returns-in_err-volume-clause-prepared
returns-in_err-volume-clause-prepared g c = λ tells image is.
    handed_on c.from_residual.result _ _ _ c.from_residual.ensures.1 (by_open image c.args.options.now c.in_err-volume.field-0.0 (c.in_err-volume.ensures.refused tells image is))

pub returns-in_err-pieces-clause-kept : goal.returns-in_err-pieces-clause-kept
returns-in_err-pieces-clause-kept g c = g.met.S.BlockSource.kept_trans _ _ _ c.in_ok-volume.ensures.kept c.in_err-pieces.ensures.kept

pub returns-in_err-pieces-clause-cause : goal.returns-in_err-pieces-clause-cause
returns-in_err-pieces-clause-cause g c =
    volume_cause c.from_residual-in_err-pieces.result c.in_err-pieces.field-0.0 _ _ _ (c.in_ok-volume.ensures.cause.kept (λ e. absurd cc)) c.from_residual-in_err-pieces.ensures.1 c.in_err-pieces.ensures.cause

pub returns-in_err-pieces-clause-answers : goal.returns-in_err-pieces-clause-answers
returns-in_err-pieces-clause-answers g c = handed_on c.from_residual-in_err-pieces.result _ _ _ c.from_residual-in_err-pieces.ensures.1 (volume_answers c.in_err-pieces.field-0.0)

pub returns-in_err-pieces-clause-prepared : goal.returns-in_err-pieces-clause-prepared
returns-in_err-pieces-clause-prepared g c = λ tells image is.
    let blocks = g.met.S.BlockSource.kept_blocks _ _ tells c.in_ok-volume.ensures.kept ∙ is in
    let found = c.in_err-pieces.ensures.found tells image blocks (c.in_ok-volume.ensures.accepted tells image is) (c.in_ok-volume.ensures.opened tells image is) in
    handed_on c.from_residual-in_err-pieces.result _ _ _ c.from_residual-in_err-pieces.ensures.1 (by_find image c.args.options.now c.in_err-pieces.field-0.0 found)

pub returns-in-Err-clause-kept : goal.returns-in-Err-clause-kept
returns-in-Err-clause-kept g c = g.met.S.BlockSource.kept_trans _ _ _ c.in_ok-volume.ensures.kept c.in_ok-pieces.ensures.kept

pub returns-in-Err-clause-cause : goal.returns-in-Err-clause-cause
returns-in-Err-clause-cause g c =
    plan_cause _ _ c.plan_answer.result c.in-Err.answer c.plan_answer.ensures (c.in_ok-pieces.ensures.cause.kept (λ e. absurd cc) ∙ c.in_ok-volume.ensures.cause.kept (λ e. absurd cc))

pub returns-in-Err-clause-answers : goal.returns-in-Err-clause-answers
returns-in-Err-clause-answers g c = subst IsPrepareAnswer (sym c.plan_answer.ensures) (plan_answers c.in-Err.answer)

pub returns-in-Err-clause-prepared : goal.returns-in-Err-clause-prepared
returns-in-Err-clause-prepared g c = λ tells image is.
    let blocks = g.met.S.BlockSource.kept_blocks _ _ tells c.in_ok-volume.ensures.kept ∙ is in
    let accepted = c.in_ok-volume.ensures.accepted tells image is in
    let opened = c.in_ok-volume.ensures.opened tells image is in
    subst (RefusesConversion image c.args.options.now) (sym c.plan_answer.ensures)
    (plan_refuses c.in_ok-volume.volume c.in_ok-pieces.pieces c.args.options.now c.bitmap.result.now c.counts.result c.needed-need.result c.bitmap.ensures c.counts.ensures c.needed-need.ensures.exact image accepted opened
    (c.in_ok-pieces.ensures.found tells image blocks accepted opened) c.in-Err.answer c.in-Err.ensures.err)

pub place-requires : goal.place-requires
place-requires g c =
    fits c.in_ok-volume.volume c.in_ok-pieces.pieces c.args.options.now c.bitmap.result.now c.counts.result c.needed-need.result c.bitmap.ensures c.counts.ensures c.needed-need.ensures.exact c.in-Ok.plan
    c.in_ok-pieces.ensures.counted c.in_ok-pieces.ensures.small c.in-Ok.ensures.enough c.in-Ok.ensures.ok

pub returns-clause-kept : goal.returns-clause-kept
returns-clause-kept g c = g.met.S.BlockSource.kept_trans _ _ _ c.in_ok-volume.ensures.kept c.in_ok-pieces.ensures.kept

pub returns-clause-plan : goal.returns-clause-plan
returns-clause-plan g c = record {
  enough = subst (λ (map : List Bool). HasEnoughSpace map c.needed-need.result) c.bitmap.ensures c.in-Ok.ensures.enough;
  plan = subst (λ (map : List Bool). IsPlan map c.needed-need.result c.in-Ok.plan) c.bitmap.ensures c.in-Ok.ensures.ok;
}

pub returns-clause-prepared : goal.returns-clause-prepared
returns-clause-prepared g c = λ tells image is.
    let blocks = g.met.S.BlockSource.kept_blocks _ _ tells c.in_ok-volume.ensures.kept ∙ is in
    let accepted = c.in_ok-volume.ensures.accepted tells image is in
    let opened = c.in_ok-volume.ensures.opened tells image is in
    record {
      has_pieces = record {
        accepted = accepted;
        opened = opened;
        found = c.in_ok-pieces.pieces;
        counted = c.in_ok-pieces.ensures.found tells image blocks accepted opened;
        plan_ =
            has_plan c.in_ok-volume.volume c.in_ok-pieces.pieces c.args.options.now c.bitmap.result.now c.counts.result c.needed-need.result c.bitmap.ensures c.counts.ensures c.needed-need.ensures.exact image accepted opened
            (c.in_ok-pieces.ensures.found tells image blocks accepted opened) c.in-Ok.plan c.in-Ok.ensures.enough c.in-Ok.ensures.ok;
        placed = c.place.ensures.placed;
      };
      counts_are = c.place.ensures.counts;
      need_is = c.needed-need.ensures.exact ∙ ap (λ (n : Counts). need n c.args.options.now) (c.counts.ensures ∙ sym c.place.ensures.counts);
      ids_are = c.ids_of-ids.ensures ∙ ap (λ (s : Super). ids_by c.args.ids.now s c.args.options.now) c.sup.ensures;
      label_is = c.label_of-label.ensures ∙ ap (λ (s : Super). label_field (label_by s c.args.options.now.label)) c.sup-2.ensures;
    }
