use Rattle.trial_core.proofs.Imports.{◌≡◌, sym, ◌∙◌, subst, err_from_is_err_and, Answer, RefusesRound, stays_on, then_goes_on}
use Rattle.trial_core.proofs.Refusing.{unless_refuses}
use Rattle.trial_core.proofs.Rounds.{back}
use Rattle.trial_core.proofs.round.go_back.Goals as goal

pub returns-in_err-roll_back-clause-told : goal.returns-in_err-roll_back-clause-told
returns-in_err-roll_back-clause-told g c = λ tells between is image known goes.
    let err = err_from_is_err_and c.from_residual.result c.from_residual.ensures.1 in
    rw err.1 (subst (λ (e : Answer). RefusesRound image e) (sym err.2) (unless_refuses image _ (c.in_err-roll_back.ensures.told tells between is) (λ free. (goes free).can)))

pub returns-clause-told : goal.returns-clause-told
returns-clause-told g c = λ tells between is image known goes.
    let same : g.D.Disk.history c.check_blocks.new.src ≡ g.D.Disk.history c.roll_back.new.disk = g.met.D.Disk.kept_history _ _ tells c.check_blocks.ensures.kept in
    let blocks = g.met.D.Disk.open_blocks c.roll_back.new.disk _ tells (c.in_ok-roll_back.ensures.«open» ∙ c.requires.«open») in
    rw same (back image between _ c.args.known.now known goes (c.in_ok-roll_back.ensures.told tells between is) c.check_blocks.result (c.check_blocks.ensures.told tells _ blocks))

pub returns-clause-grows : goal.returns-clause-grows
returns-clause-grows g c = λ tells. then_goes_on _ _ _ (c.roll_back.ensures.grows tells) (stays_on _ _ (g.met.D.Disk.kept_history _ _ tells c.check_blocks.ensures.kept))
