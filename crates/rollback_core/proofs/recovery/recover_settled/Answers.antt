use Rattle.rollback_core.proofs.Imports.{◌≡◌, ◌∙◌, inl, inr, refl, sym, subst, err_from_is_err_and, History, Image, WritesOnly, reads, Answer, left_unwritten, RefusesRecover, IsGiven, IsGivenOrRewrite, MendingStands, IsMend, RewritesFirst}
use Rattle.rollback_core.proofs.Rewriting.{first_none, first_only, first_weaker}
use Rattle.rollback_core.proofs.Standing.{crash_partly, given_mend, recovers, summary_is}
use Rattle.rollback_core.proofs.recovery.recover_settled.Goals as goal

pub returns-in_err-mending-clause-crash : goal.returns-in_err-mending-clause-crash
returns-in_err-mending-clause-crash g c = λ tells settled image left.
    inl (left_unwritten _ _ settled (g.met.D.Disk.kept_history _ _ tells c.plan.ensures.kept) image left)

pub returns-in_err-mending-clause-recovered : goal.returns-in_err-mending-clause-recovered
returns-in_err-mending-clause-recovered g c = λ tells image is.
    let blocks = g.met.D.Disk.open_blocks c.args.disk.now _ tells c.requires.«open» in
    let err = err_from_is_err_and c.from_residual.result c.from_residual.ensures.1 in
    rw err.1 (subst (λ (e : Answer). RefusesRecover image e) (sym err.2) (c.in_err-mending.ensures.planned tells image (blocks ∙ is)))

pub returns-clause-crash : goal.returns-clause-crash
returns-clause-crash g c = λ tells settled image left.
    let same : g.D.Disk.history c.plan.new.src ≡ g.D.Disk.history c.args.disk.now = g.met.D.Disk.kept_history _ _ tells c.plan.ensures.kept in
    let planned = c.in_ok-mending.ensures.planned tells _ (g.met.D.Disk.open_blocks c.args.disk.now _ tells c.requires.«open») in
    let only = first_only (IsGiven c.in_ok-mending.mending) _ _ (subst (λ (h : History). RewritesFirst (IsGiven c.in_ok-mending.mending) h (g.D.Disk.history c.write_mending.new.disk)) same (c.write_mending.ensures.order tells)) in
    inr (planned.can, crash_partly (reads (g.D.Disk.history c.args.disk.now)) c.in_ok-mending.mending planned (g.D.Disk.history c.args.disk.now) (g.D.Disk.history c.write_mending.new.disk) refl only settled image left)

pub returns-in_err-mirrors-clause-crash : goal.returns-in_err-mirrors-clause-crash
returns-in_err-mirrors-clause-crash g c = λ tells settled image left.
    let same : g.D.Disk.history c.plan.new.src ≡ g.D.Disk.history c.args.disk.now = g.met.D.Disk.kept_history _ _ tells c.plan.ensures.kept in
    let planned = c.in_ok-mending.ensures.planned tells _ (g.met.D.Disk.open_blocks c.args.disk.now _ tells c.requires.«open») in
    let only = first_only (IsGiven c.in_ok-mending.mending) _ _ (subst (λ (h : History). RewritesFirst (IsGiven c.in_ok-mending.mending) h (g.D.Disk.history c.write_mending.new.disk)) same (c.write_mending.ensures.order tells)) in
    inr (planned.can, crash_partly (reads (g.D.Disk.history c.args.disk.now)) c.in_ok-mending.mending planned (g.D.Disk.history c.args.disk.now) (g.D.Disk.history c.write_mending.new.disk) refl only settled image left)

pub returns-clause-recovered : goal.returns-clause-recovered
returns-clause-recovered g c = λ tells image is.
    let same : g.D.Disk.history c.plan.new.src ≡ g.D.Disk.history c.args.disk.now = g.met.D.Disk.kept_history _ _ tells c.plan.ensures.kept in
    let planned = c.in_ok-mending.ensures.planned tells image (g.met.D.Disk.open_blocks c.args.disk.now _ tells c.requires.«open» ∙ is) in
    let only = first_only (IsGiven c.in_ok-mending.mending) _ _ (subst (λ (h : History). RewritesFirst (IsGiven c.in_ok-mending.mending) h (g.D.Disk.history c.write_mending.new.disk)) same (c.write_mending.ensures.order tells)) in
    let stands = subst (λ (h : History). MendingStands c.in_ok-mending.mending (reads h) (reads (g.D.Disk.history c.write_mending.new.disk))) same (c.in_ok-mirrors.ensures.written tells) in (
      recovers image c.in_ok-mending.mending planned (g.D.Disk.history c.args.disk.now) (g.D.Disk.history c.write_mending.new.disk) is
          (subst (λ (i : Image). WritesOnly (IsGivenOrRewrite i c.in_ok-mending.mending) (g.D.Disk.history c.args.disk.now) (g.D.Disk.history c.write_mending.new.disk)) is only) stands,
      summary_is image c.in_ok-mending.mending planned c.in_ok-mirrors.mirrors c.in_ok-mirrors.ensures.count,
    )

pub returns-clause-unwritten : goal.returns-clause-unwritten
returns-clause-unwritten g c = λ tells none.
    c.in_ok-mirrors.ensures.unwritten tells none ∙ g.met.D.Disk.kept_history _ _ tells c.plan.ensures.kept

pub returns-in_err-mending-clause-order : goal.returns-in_err-mending-clause-order
returns-in_err-mending-clause-order g c = λ tells. first_none (IsMend (reads (g.D.Disk.history c.args.disk.now))) _ _ (g.met.D.Disk.kept_history _ _ tells c.plan.ensures.kept)

pub returns-clause-order : goal.returns-clause-order
returns-clause-order g c = λ tells.
    let same : g.D.Disk.history c.plan.new.src ≡ g.D.Disk.history c.args.disk.now = g.met.D.Disk.kept_history _ _ tells c.plan.ensures.kept in
    let planned = c.in_ok-mending.ensures.planned tells _ (g.met.D.Disk.open_blocks c.args.disk.now _ tells c.requires.«open») in
    first_weaker (IsGiven c.in_ok-mending.mending) _ _ (IsMend (reads (g.D.Disk.history c.args.disk.now))) (given_mend (reads (g.D.Disk.history c.args.disk.now)) c.in_ok-mending.mending planned)
    (subst (λ (h : History). RewritesFirst (IsGiven c.in_ok-mending.mending) h (g.D.Disk.history c.write_mending.new.disk)) same (c.write_mending.ensures.order tells))

pub returns-in_err-mirrors-clause-order : goal.returns-in_err-mirrors-clause-order
returns-in_err-mirrors-clause-order g c = λ tells.
    let same : g.D.Disk.history c.plan.new.src ≡ g.D.Disk.history c.args.disk.now = g.met.D.Disk.kept_history _ _ tells c.plan.ensures.kept in
    let planned = c.in_ok-mending.ensures.planned tells _ (g.met.D.Disk.open_blocks c.args.disk.now _ tells c.requires.«open») in
    first_weaker (IsGiven c.in_ok-mending.mending) _ _ (IsMend (reads (g.D.Disk.history c.args.disk.now))) (given_mend (reads (g.D.Disk.history c.args.disk.now)) c.in_ok-mending.mending planned)
    (subst (λ (h : History). RewritesFirst (IsGiven c.in_ok-mending.mending) h (g.D.Disk.history c.write_mending.new.disk)) same (c.write_mending.ensures.order tells))
