use Rattle.rollback_core.proofs.Imports.{◌≡◌, ◌∙◌, inl, sym, ap, subst, err_from_is_err_and, History, Image, reads, Answer, left_unwritten, GoesOn, goes_on, stays_on, RefusesRollback, IsTurned}
use Rattle.rollback_core.proofs.Back.{rolled_back}
use Rattle.rollback_core.proofs.Leaving.{writing_crash}
use Rattle.rollback_core.proofs.rolling.rollback_settled.Goals as goal

pub returns-in_err-way-clause-crash : goal.returns-in_err-way-clause-crash
returns-in_err-way-clause-crash g c = λ tells settled image left.
    inl (left_unwritten _ _ settled (g.met.D.Disk.kept_history _ _ tells c.read_way.ensures.kept) image left)

pub returns-in_err-way-clause-rolled_back : goal.returns-in_err-way-clause-rolled_back
returns-in_err-way-clause-rolled_back g c = λ tells image is.
    let blocks = g.met.D.Disk.open_blocks c.args.disk.now _ tells c.requires.«open» in
    let err = err_from_is_err_and c.from_residual.result c.from_residual.ensures.1 in
    rw err.1 (subst (λ (e : Answer). RefusesRollback image e) (sym err.2) (c.in_err-way.ensures.prepared tells image (blocks ∙ is)))

pub returns-clause-crash : goal.returns-clause-crash
returns-clause-crash g c = λ tells settled.
    let same : g.D.Disk.history c.read_way.new.disk ≡ g.D.Disk.history c.args.disk.now = g.met.D.Disk.kept_history _ _ tells c.read_way.ensures.kept in
    let prepared = c.in_ok-way.ensures.prepared tells _ (g.met.D.Disk.open_blocks c.args.disk.now _ tells c.requires.«open») in
    writing_crash _ _ _ _ same prepared c.in_ok-way.ensures.apart settled (c.write_back.ensures.crash tells)

pub returns-in_err-write_back-clause-crash : goal.returns-in_err-write_back-clause-crash
returns-in_err-write_back-clause-crash g c = λ tells settled.
    let same : g.D.Disk.history c.read_way.new.disk ≡ g.D.Disk.history c.args.disk.now = g.met.D.Disk.kept_history _ _ tells c.read_way.ensures.kept in
    let prepared = c.in_ok-way.ensures.prepared tells _ (g.met.D.Disk.open_blocks c.args.disk.now _ tells c.requires.«open») in
    writing_crash _ _ _ _ same prepared c.in_ok-way.ensures.apart settled (c.write_back.ensures.crash tells)

pub returns-clause-rolled_back : goal.returns-clause-rolled_back
returns-clause-rolled_back g c = λ tells image is.
    let same : g.D.Disk.history c.read_way.new.disk ≡ g.D.Disk.history c.args.disk.now = g.met.D.Disk.kept_history _ _ tells c.read_way.ensures.kept in
    let prepared = c.in_ok-way.ensures.prepared tells image (g.met.D.Disk.open_blocks c.args.disk.now _ tells c.requires.«open» ∙ is) in
    let turned = subst (λ (disk : Image). IsTurned c.in_ok-way.way disk (reads (g.D.Disk.history c.write_back.new.disk))) (ap reads same ∙ is) (c.in_ok-write_back.ensures.written tells) in
    (rolled_back image c.in_ok-way.way prepared _ turned (c.in_ok-write_back.ensures.wiped tells), prepared.summary_is)

pub returns-in_err-way-clause-grows : goal.returns-in_err-way-clause-grows
returns-in_err-way-clause-grows g c = λ tells. stays_on _ _ (g.met.D.Disk.kept_history _ _ tells c.read_way.ensures.kept)

pub returns-clause-grows : goal.returns-clause-grows
returns-clause-grows g c = λ tells.
    subst (λ (h : History). GoesOn h (g.D.Disk.history c.write_back.new.disk)) (g.met.D.Disk.kept_history _ _ tells c.read_way.ensures.kept)
    (goes_on _ _ _ (c.write_back.ensures.writes.only tells))

pub returns-in_err-write_back-clause-grows : goal.returns-in_err-write_back-clause-grows
returns-in_err-write_back-clause-grows g c = λ tells.
    subst (λ (h : History). GoesOn h (g.D.Disk.history c.write_back.new.disk)) (g.met.D.Disk.kept_history _ _ tells c.read_way.ensures.kept)
    (goes_on _ _ _ (c.write_back.ensures.writes.only tells))
