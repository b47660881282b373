use Rattle.trial_core.proofs.Imports.{◌≡◌, refl, sym, ◌∙◌, ap, subst, err_from_is_err_and, History, reads, Answer, LeavesRound, RefusesRound, GoesOn, synced_now, stays_on, then_goes_on, is_half_turned}
use Rattle.trial_core.proofs.Refusing.{stop_refuses}
use Rattle.trial_core.proofs.Rounds.{round}
use Rattle.trial_core.proofs.round.go_round.Goals as goal

pub returns-in_err-known-clause-told : goal.returns-in_err-known-clause-told
returns-in_err-known-clause-told g c = λ tells image is accepted whole.
    let blocks = g.met.D.Disk.open_blocks c.args.disk.now _ tells c.requires.«open» in
    let err = err_from_is_err_and c.from_residual.result c.from_residual.ensures.1 in
    rw err.1 (subst (λ (e : Answer). RefusesRound image e) (sym err.2) (stop_refuses image _ (c.in_err-known.ensures.told tells image (blocks ∙ is) accepted)))

pub returns-in_err-go_there-clause-told : goal.returns-in_err-go_there-clause-told
returns-in_err-go_there-clause-told g c = λ tells image is accepted whole.
    let same : g.D.Disk.history c.read.new.src ≡ g.D.Disk.history c.args.disk.now = g.met.D.Disk.kept_history _ _ tells c.read.ensures.kept in
    let blocks = g.met.D.Disk.open_blocks c.args.disk.now _ tells c.requires.«open» in
    let known = c.in_ok-known.ensures.told tells image (blocks ∙ is) accepted in
    let err = err_from_is_err_and c.from_residual-in_err-go_there.result c.from_residual-in_err-go_there.ensures.1 in
    rw err.1 (subst (λ (e : Answer). RefusesRound image e) (sym err.2) (c.in_err-go_there.ensures.told tells image (ap reads same ∙ is) accepted whole known))

pub returns-in_err-go_there-clause-leaves : goal.returns-in_err-go_there-clause-leaves
returns-in_err-go_there-clause-leaves g c = λ tells whole.
    let old : History = g.D.Disk.history c.args.disk.now in
    let new : History = g.D.Disk.history c.go_there.new.disk in
    let same : g.D.Disk.history c.read.new.src ≡ old = g.met.D.Disk.kept_history _ _ tells c.read.ensures.kept in
    let err = err_from_is_err_and c.from_residual-in_err-go_there.result c.from_residual-in_err-go_there.ensures.1 in
    rw err.1 (subst (λ (e : Answer). LeavesRound (synced_now old) new e) (sym err.2) (subst (λ (h : History). LeavesRound (synced_now h) new c.in_err-go_there.field-0.0) same
    (c.in_err-go_there.ensures.leaves tells (ap (λ (h : History). is_half_turned (reads h)) same ∙ whole))))

pub returns-in_err-go_back-clause-told : goal.returns-in_err-go_back-clause-told
returns-in_err-go_back-clause-told g c = λ tells image is accepted whole.
    let same : g.D.Disk.history c.read.new.src ≡ g.D.Disk.history c.args.disk.now = g.met.D.Disk.kept_history _ _ tells c.read.ensures.kept in
    let blocks = g.met.D.Disk.open_blocks c.args.disk.now _ tells c.requires.«open» in
    let known = c.in_ok-known.ensures.told tells image (blocks ∙ is) accepted in
    let there = c.in_ok-go_there.ensures.told tells image (ap reads same ∙ is) accepted whole known in
    let err = err_from_is_err_and c.from_residual-in_err-go_back.result c.from_residual-in_err-go_back.ensures.1 in
    rw err.1 (subst (λ (e : Answer). RefusesRound image e) (sym err.2) (c.in_err-go_back.ensures.told tells _ refl image known there.2))

pub returns-clause-told : goal.returns-clause-told
returns-clause-told g c = λ tells image is accepted whole.
    let same : g.D.Disk.history c.read.new.src ≡ g.D.Disk.history c.args.disk.now = g.met.D.Disk.kept_history _ _ tells c.read.ensures.kept in
    let blocks = g.met.D.Disk.open_blocks c.args.disk.now _ tells c.requires.«open» in
    let known = c.in_ok-known.ensures.told tells image (blocks ∙ is) accepted in
    let there = c.in_ok-go_there.ensures.told tells image (ap reads same ∙ is) accepted whole known in
    let back = c.in_ok-go_back.ensures.told tells _ refl image known there.2 in
    round c.args.ids.now c.args.now image _ _ c.in_ok-known.known c.summary_of.result known there.0 there.1 back.0 back.1 c.summary_of.ensures

pub returns-in_err-known-clause-grows : goal.returns-in_err-known-clause-grows
returns-in_err-known-clause-grows g c = λ tells. stays_on _ _ (g.met.D.Disk.kept_history _ _ tells c.read.ensures.kept)

pub returns-in_err-go_there-clause-grows : goal.returns-in_err-go_there-clause-grows
returns-in_err-go_there-clause-grows g c = λ tells.
    subst (λ (h : History). GoesOn h (g.D.Disk.history c.go_there.new.disk)) (g.met.D.Disk.kept_history _ _ tells c.read.ensures.kept) (c.go_there.ensures.grows tells)

pub returns-in_err-go_back-clause-grows : goal.returns-in_err-go_back-clause-grows
returns-in_err-go_back-clause-grows g c = λ tells.
    subst (λ (h : History). GoesOn h (g.D.Disk.history c.go_back.new.disk)) (g.met.D.Disk.kept_history _ _ tells c.read.ensures.kept)
    (then_goes_on _ _ _ (c.go_there.ensures.grows tells) (c.go_back.ensures.grows tells))

pub returns-clause-grows : goal.returns-clause-grows
returns-clause-grows g c = λ tells.
    subst (λ (h : History). GoesOn h (g.D.Disk.history c.go_back.new.disk)) (g.met.D.Disk.kept_history _ _ tells c.read.ensures.kept)
    (then_goes_on _ _ _ (c.go_there.ensures.grows tells) (c.go_back.ensures.grows tells))
