use Rattle.rollback_core.proofs.Imports.{◌≡◌, ◌∙◌, ◌⊎◌, inl, inr, ⊎_elim, ap, subst, IfOk, History, Image, reads, left_then, IsLeftByRecover, IsMend, IsRewrite, RewritesFirst, RecoverSummary, put_back}
use Rattle.rollback_core.proofs.Rewriting.{first_only, refused_alone, settled_told}
use Rattle.rollback_core.proofs.recovery.recover_synced.Goals as goal

pub returns-in_err-put_back-clause-crash : goal.returns-in_err-put_back-clause-crash
returns-in_err-put_back-clause-crash g c = λ tells settled image left. inl (c.put_back.ensures.crash tells settled image left)

pub returns-in_err-put_back-clause-order : goal.returns-in_err-put_back-clause-order
returns-in_err-put_back-clause-order g c = λ tells. inl (c.put_back.ensures.writes.only tells)

pub returns-clause-crash : goal.returns-clause-crash
returns-clause-crash g c = λ tells settled image left.
    let mid : History = g.D.Disk.history c.put_back.new.disk in
    ⊎_elim (λ early. inl (c.put_back.ensures.crash tells settled image early))
    (λ late. inr (subst (λ (i : Image). IsLeftByRecover i image) (c.in_ok-put_back.ensures.written tells) (c.recover_settled.ensures.crash tells (c.in_ok-put_back.ensures.settled tells settled) image late)))
    (left_then (λ b _. b ≡ 16) (λ b bytes. IsRewrite (reads mid) b bytes ⊎ IsMend (reads mid) b bytes) (g.D.Disk.history c.args.disk.now) mid (g.D.Disk.history c.recover_settled.new.disk)
    (c.put_back.ensures.writes.only tells) (first_only (IsMend (reads mid)) mid (g.D.Disk.history c.recover_settled.new.disk) (c.recover_settled.ensures.order tells)) image left)

pub returns-clause-order : goal.returns-clause-order
returns-clause-order g c = λ tells.
    inr (
      g.D.Disk.history c.put_back.new.disk,
      c.put_back.ensures.writes.only tells,
      c.in_ok-put_back.ensures.written tells,
      subst (λ (i : Image). RewritesFirst (IsMend i) (g.D.Disk.history c.put_back.new.disk) (g.D.Disk.history c.recover_settled.new.disk)) (c.in_ok-put_back.ensures.written tells) (c.recover_settled.ensures.order tells),
    )

pub returns-clause-recovered : goal.returns-clause-recovered
returns-clause-recovered g c = λ tells image is. c.recover_settled.ensures.recovered tells (put_back image) (c.in_ok-put_back.ensures.written tells ∙ ap put_back is)

pub returns-clause-unwritten : goal.returns-clause-unwritten
returns-clause-unwritten g c = λ tells none.
    subst (λ (h : History). IfOk c.recover_settled.result (λ (told : RecoverSummary). told.mirrors ≡ 0 → g.D.Disk.history c.recover_settled.new.disk ≡ h)) (c.put_back.ensures.unwritten tells none)
    (c.recover_settled.ensures.unwritten tells)

pub returns-clause-settled : goal.returns-clause-settled
returns-clause-settled g c = λ tells settled.
    settled_told c.recover_settled.result (g.D.Disk.history c.put_back.new.disk) _ (c.in_ok-put_back.ensures.settled tells settled) (c.recover_settled.ensures.unwritten tells) (c.recover_settled.ensures.settled tells)

pub returns-clause-refused : goal.returns-clause-refused
returns-clause-refused g c = λ tells.
    refused_alone c.recover_settled.result _ (g.D.Disk.history c.put_back.new.disk) _ (c.in_ok-put_back.ensures.written tells) (c.put_back.ensures.unwritten tells) (c.in_ok-put_back.ensures.settled tells) (c.recover_settled.ensures.refused tells)
