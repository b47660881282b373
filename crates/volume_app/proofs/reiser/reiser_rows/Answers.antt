use Rattle.volume_app.proofs.Imports.{◌∙◌, MatchResult-weaker, handed_on, rules_pass}
use Rattle.volume_app.proofs.reiser.reiser_rows.Goals as goal

pub returns-in_err-volume-clause-rows : goal.returns-in_err-volume-clause-rows
returns-in_err-volume-clause-rows g c = λ tells image is. handed_on c.from_residual.result _ _ _ c.from_residual.ensures.1 (c.in_err-volume.ensures.refused tells image is)

pub returns-clause-kept : goal.returns-clause-kept
returns-clause-kept g c = g.met.S.BlockSource.kept_trans c.args.source.now c.open.new.src c.rows.new.src c.in_ok-volume.ensures.kept c.rows.ensures.kept

pub returns-clause-rows : goal.returns-clause-rows
returns-clause-rows g c = λ tells image is.
    let same = g.met.S.BlockSource.kept_blocks c.args.source.now c.open.new.src tells c.in_ok-volume.ensures.kept ∙ is in
    let accepted = c.in_ok-volume.ensures.accepted tells image is in
    MatchResult-weaker c.rows.result (c.rows.ensures.rows tells image same accepted (c.in_ok-volume.ensures.opened tells image is))
    (λ rows are. (accepted, are)) (λ answer failed. rules_pass image answer failed)
