use Rattle.trial_core.proofs.Imports.{◌≡◌, sym, ◌∙◌, subst, err_from_is_err_and, Answer, LeavesRound, RefusesRound, synced_now, stays_on, then_goes_on}
use Rattle.trial_core.proofs.Rounds.{reading_leaves, there}
use Rattle.trial_core.proofs.round.go_there.Goals as goal

pub returns-in_err-convert-clause-told : goal.returns-in_err-convert-clause-told
returns-in_err-convert-clause-told g c = λ tells image is accepted whole known.
    let err = err_from_is_err_and c.from_residual.result c.from_residual.ensures.1 in
    rw err.1 (subst (λ (e : Answer). RefusesRound image e) (sym err.2) (c.in_err-convert.ensures.told tells image is accepted whole))

pub returns-in_err-convert-clause-leaves : goal.returns-in_err-convert-clause-leaves
returns-in_err-convert-clause-leaves g c = λ tells whole.
    let err = err_from_is_err_and c.from_residual.result c.from_residual.ensures.1 in
    rw err.1 (subst (λ (e : Answer). LeavesRound (synced_now (g.D.Disk.history c.args.disk.now)) (g.D.Disk.history c.convert.new.disk) e) (sym err.2) (c.in_err-convert.ensures.leaves tells whole))

pub returns-clause-told : goal.returns-clause-told
returns-clause-told g c = λ tells image is accepted whole known.
    let same : g.D.Disk.history c.compare_rows.new.src ≡ g.D.Disk.history c.convert.new.disk = g.met.D.Disk.kept_history _ _ tells c.compare_rows.ensures.kept in
    let blocks = g.met.D.Disk.open_blocks c.convert.new.disk _ tells (c.in_ok-convert.ensures.«open» ∙ c.requires.«open») in
    let converted = c.in_ok-convert.ensures.told tells image is accepted whole in
    rw same (there c.converted_volumes_open.ensures c.converted_volumes_go_back.ensures c.args.ids.now c.args.now image _ c.args.known.now c.requires.moment c.know_ids.ensures known converted c.compare_rows.result (c.compare_rows.ensures.told tells _ blocks))

pub returns-clause-leaves : goal.returns-clause-leaves
returns-clause-leaves g c = λ tells whole. reading_leaves _ _ c.compare_rows.result c.compare_rows.ensures.answers

pub returns-clause-grows : goal.returns-clause-grows
returns-clause-grows g c = λ tells. then_goes_on _ _ _ (c.convert.ensures.grows tells) (stays_on _ _ (g.met.D.Disk.kept_history _ _ tells c.compare_rows.ensures.kept))
