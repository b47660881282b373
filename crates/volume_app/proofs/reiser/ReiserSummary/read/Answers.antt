use Rattle.volume_app.proofs.Imports.{◌∙◌, List, Bool, ap, sym, subst, err_from_is_err_and, RefusesVolume, superblock, rules_pass}
use Rattle.reiser_volume.specs.reiser_super.declared.superblock.Super.{Super}
use Rattle.volume_app.specs.Reiser.{summary_with}
use Rattle.volume_app.proofs.reiser.ReiserSummary.read.Goals as goal

pub returns-in_err-volume-clause-refused : goal.returns-in_err-volume-clause-refused
returns-in_err-volume-clause-refused g c = λ tells image is.
    let refused = c.in_err-volume.ensures.refused tells image is in
    let err = err_from_is_err_and c.from_residual.result c.from_residual.ensures.1 in
    rw err.1 (subst (RefusesVolume image) (sym err.2) refused)

pub returns-in_err-survey-clause-refused : goal.returns-in_err-survey-clause-refused
returns-in_err-survey-clause-refused g c = λ tells image is.
    let same = g.met.S.BlockSource.kept_blocks c.args.source.now c.open.new.src tells c.in_ok-volume.ensures.kept ∙ is in
    let accepted = c.in_ok-volume.ensures.accepted tells image is in
    let opened = c.in_ok-volume.ensures.opened tells image is in
    let failed = c.in_err-survey.ensures.told tells image same accepted opened in
    let err = err_from_is_err_and c.from_residual-in_err-survey.result c.from_residual-in_err-survey.ensures.1 in
    rw err.1 (subst (RefusesVolume image) (sym err.2) (rules_pass image _ failed))

pub returns-in_err-survey-clause-kept : goal.returns-in_err-survey-clause-kept
returns-in_err-survey-clause-kept g c = g.met.S.BlockSource.kept_trans _ _ _ c.in_ok-volume.ensures.kept c.of.ensures.kept

pub returns-clause-kept : goal.returns-clause-kept
returns-clause-kept g c = g.met.S.BlockSource.kept_trans _ _ _ c.in_ok-volume.ensures.kept c.of.ensures.kept

pub returns-clause-told : goal.returns-clause-told
returns-clause-told g c = λ tells image is.
    let same = g.met.S.BlockSource.kept_blocks c.args.source.now c.open.new.src tells c.in_ok-volume.ensures.kept ∙ is in
    let accepted = c.in_ok-volume.ensures.accepted tells image is in
    let opened = c.in_ok-volume.ensures.opened tells image is in
    record {
      survey = c.in_ok-survey.survey;
      surveyed = c.in_ok-survey.ensures.told tells image same accepted opened;
      is =
          c.summary_of.ensures
          ∙ (ap (λ (s : Super). summary_with s c.in_ok-volume.volume.bitmap c.in_ok-survey.survey.need) opened.sup
          ∙ ap (λ (used : List Bool). summary_with (superblock image) used c.in_ok-survey.survey.need) opened.bitmap);
    }
