use Rattle.convert_core.proofs.Imports.{◌∙◌, sym, subst, MatchResult-weaker, err_from_is_err_and}
use Rattle.reiser_volume.specs.Answers.{RefusesVolume}
use Rattle.reiser_volume.proofs.Answering.{rules_pass}
use Rattle.convert_core.proofs.survey.Survey.read.Goals as goal

pub returns-in_err-volume-clause-told : goal.returns-in_err-volume-clause-told
returns-in_err-volume-clause-told g c = λ tells image is.
    let refused = c.in_err-volume.ensures.refused tells image is in
    let err = err_from_is_err_and c.from_residual.result c.from_residual.ensures.1 in
    rw err.1 (subst (RefusesVolume image) (sym err.2) refused)

pub returns-clause-kept : goal.returns-clause-kept
returns-clause-kept g c = g.met.S.BlockSource.kept_trans _ _ _ c.in_ok-volume.ensures.kept c.of.ensures.kept

pub returns-clause-told : goal.returns-clause-told
returns-clause-told g c = λ tells image is.
    let same = g.met.S.BlockSource.kept_blocks c.args.src.now c.open.new.src tells c.in_ok-volume.ensures.kept ∙ is in
    let accepted = c.in_ok-volume.ensures.accepted tells image is in
    MatchResult-weaker c.of.result (c.of.ensures.told tells image same accepted (c.in_ok-volume.ensures.opened tells image is)) (λ s are. (accepted, are)) (λ answer failed. rules_pass image answer failed)
