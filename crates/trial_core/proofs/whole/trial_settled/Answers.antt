use Rattle.trial_core.proofs.Imports.{◌≡◌, refl, sym, ◌∙◌, subst, MatchResult, err_from_is_err_and, History, Image, reads, Answer, RefusesTrial, IsSampleMade, IsTried, trial_summary, GoesOn, stays_on, then_goes_on}
use Rattle.trial_core.proofs.Tried.{leaves_result, make_refuses, scratch_refuses, tried_result}
use Rattle.trial_core.proofs.whole.trial_settled.Goals as goal

pub returns-in_err-check_scratch-clause-tried : goal.returns-in_err-check_scratch-clause-tried
returns-in_err-check_scratch-clause-tried g c = λ tells image is.
    let blocks = g.met.D.Disk.open_blocks c.args.disk.now _ tells c.requires.«open» in
    let err = err_from_is_err_and c.from_residual.result c.from_residual.ensures.1 in
    rw err.1 (subst (λ (e : Answer). RefusesTrial c.args.number image e) (sym err.2) (scratch_refuses c.args.number image _ (c.in_err-check_scratch.ensures.found tells image (blocks ∙ is))))

pub returns-in_err-make_sample-clause-tried : goal.returns-in_err-make_sample-clause-tried
returns-in_err-make_sample-clause-tried g c = λ tells image is.
    let blocks = g.met.D.Disk.open_blocks c.args.disk.now _ tells c.requires.«open» in
    let scratch = c.in_ok-check_scratch.ensures.found tells image (blocks ∙ is) in
    let err = err_from_is_err_and c.from_residual-in_err-make_sample.result c.from_residual-in_err-make_sample.ensures.1 in
    rw err.1 (subst (λ (e : Answer). RefusesTrial c.args.number image e) (sym err.2) (make_refuses c.args.number image _ scratch c.in_err-make_sample.ensures.answers))

pub returns-clause-tried : goal.returns-clause-tried
returns-clause-tried g c = λ tells image is.
    let old : History = g.D.Disk.history c.args.disk.now in
    let mid : History = g.D.Disk.history c.make_sample.new.disk in
    let new : History = g.D.Disk.history c.go_round.new.disk in
    let same : g.D.Disk.history c.check_scratch.new.src ≡ old = g.met.D.Disk.kept_history _ _ tells c.check_scratch.ensures.kept in
    let scratch = c.in_ok-check_scratch.ensures.found tells (reads old) (g.met.D.Disk.open_blocks c.args.disk.now _ tells c.requires.«open») in
    let made = subst (λ (h : History). IsSampleMade c.args.number h mid) same (c.in_ok-make_sample.ensures.made tells) in
    subst (λ (disk : Image). MatchResult c.go_round.result (λ told. IsTried c.args.number c.args.ids.now c.args.now disk (reads new) × (told ≡ trial_summary c.args.number)) (RefusesTrial c.args.number disk)) is
    (tried_result c.args.number c.args.ids.now c.args.now old mid new scratch c.in_ok-make_sample.ensures.enough made c.rows_are_one.ensures c.go_round.result
    (c.go_round.ensures.told tells (reads mid) refl made.described.accepted made.unturned))

pub returns-clause-leaves : goal.returns-clause-leaves
returns-clause-leaves g c = λ tells.
    let old : History = g.D.Disk.history c.args.disk.now in
    let mid : History = g.D.Disk.history c.make_sample.new.disk in
    let new : History = g.D.Disk.history c.go_round.new.disk in
    let same : g.D.Disk.history c.check_scratch.new.src ≡ old = g.met.D.Disk.kept_history _ _ tells c.check_scratch.ensures.kept in
    let scratch = c.in_ok-check_scratch.ensures.found tells (reads old) (g.met.D.Disk.open_blocks c.args.disk.now _ tells c.requires.«open») in
    let made = subst (λ (h : History). IsSampleMade c.args.number h mid) same (c.in_ok-make_sample.ensures.made tells) in
    leaves_result c.args.number c.args.ids.now c.args.now old mid new scratch c.in_ok-make_sample.ensures.enough made c.go_round.result
    (c.go_round.ensures.told tells (reads mid) refl made.described.accepted made.unturned) (c.go_round.ensures.leaves tells made.unturned)

pub returns-in_err-check_scratch-clause-grows : goal.returns-in_err-check_scratch-clause-grows
returns-in_err-check_scratch-clause-grows g c = λ tells. stays_on _ _ (g.met.D.Disk.kept_history _ _ tells c.check_scratch.ensures.kept)

pub returns-in_err-make_sample-clause-grows : goal.returns-in_err-make_sample-clause-grows
returns-in_err-make_sample-clause-grows g c = λ tells.
    subst (λ (h : History). GoesOn h (g.D.Disk.history c.make_sample.new.disk)) (g.met.D.Disk.kept_history _ _ tells c.check_scratch.ensures.kept) (c.make_sample.ensures.grows tells)

pub returns-clause-grows : goal.returns-clause-grows
returns-clause-grows g c = λ tells.
    subst (λ (h : History). GoesOn h (g.D.Disk.history c.go_round.new.disk)) (g.met.D.Disk.kept_history _ _ tells c.check_scratch.ensures.kept)
    (then_goes_on _ _ _ (c.make_sample.ensures.grows tells) (c.go_round.ensures.grows tells))
