use Rattle.convert_core.proofs.Imports.{◌≢◌, ◌≡◌, ◌∙◌, inl, inr, ⊎_elim, ap, subst, err_from_is_err_and, IfErr, History, Image, reads, WritesOnly, left_then, writes_then, DiffersInFree, IsConvertPlace, IsEither, put_back}
use Rattle.convert_steps.specs.command_answers.declared.answer.Answer.TheVariants as answer
use Rattle.convert_core.proofs.Crashing.{back_places}
use Rattle.convert_core.proofs.Ending.{refused_alone}
use Rattle.convert_core.proofs.in_place.convert_synced.Goals as goal

pub returns-in_err-put_back-clause-crash : goal.returns-in_err-put_back-clause-crash
returns-in_err-put_back-clause-crash g c = λ tells settled image left. inl (c.put_back.ensures.crash tells settled image left)

pub returns-in_err-put_back-clause-only : goal.returns-in_err-put_back-clause-only
returns-in_err-put_back-clause-only g c = λ tells. back_places (put_back (reads (g.D.Disk.history c.args.disk.now))) _ _ (c.put_back.ensures.writes.only tells)

pub returns-in_err-put_back-clause-refused : goal.returns-in_err-put_back-clause-refused
returns-in_err-put_back-clause-refused g c = λ tells.
    let err = err_from_is_err_and c.from_residual.result c.from_residual.ensures.1 in
    rw err.1 (λ fault memory. absurd (fault err.2))

pub returns-clause-crash : goal.returns-clause-crash
returns-clause-crash g c = λ tells settled image left.
    ⊎_elim (λ early. inl (c.put_back.ensures.crash tells settled image early))
    (λ late. inr (subst (λ (i : Image). IsEither c.args.options.now c.args.ids.now c.args.now i image) (c.in_ok-put_back.ensures.written tells)
    (c.convert_settled.ensures.crash tells (c.in_ok-put_back.ensures.settled tells settled) image late)))
    (left_then (λ b _. b ≡ 16) (λ b _. IsConvertPlace (reads (g.D.Disk.history c.put_back.new.disk)) b) (g.D.Disk.history c.args.disk.now) (g.D.Disk.history c.put_back.new.disk) (g.D.Disk.history c.convert_settled.new.disk)
    (c.put_back.ensures.writes.only tells) (c.convert_settled.ensures.only tells) image left)

pub returns-clause-only : goal.returns-clause-only
returns-clause-only g c = λ tells.
    let old = g.D.Disk.history c.args.disk.now in
    let mid = g.D.Disk.history c.put_back.new.disk in
    let new = g.D.Disk.history c.convert_settled.new.disk in
    writes_then (λ b _. IsConvertPlace (put_back (reads old)) b) old mid new (back_places (put_back (reads old)) old mid (c.put_back.ensures.writes.only tells))
    (subst (λ (i : Image). WritesOnly (λ b _. IsConvertPlace i b) mid new) (c.in_ok-put_back.ensures.written tells) (c.convert_settled.ensures.only tells))

pub returns-clause-converted : goal.returns-clause-converted
returns-clause-converted g c = λ tells image is. c.convert_settled.ensures.converted tells (put_back image) (c.in_ok-put_back.ensures.written tells ∙ ap put_back is)

pub returns-clause-refused : goal.returns-clause-refused
returns-clause-refused g c = λ tells.
    refused_alone c.convert_settled.result _ (g.D.Disk.history c.put_back.new.disk) _ (c.in_ok-put_back.ensures.written tells) (c.put_back.ensures.unwritten tells) (c.in_ok-put_back.ensures.settled tells) (c.convert_settled.ensures.refused tells)

pub returns-clause-memory : goal.returns-clause-memory
returns-clause-memory g c = λ tells.
    subst (λ (i : Image). IfErr c.convert_settled.result (λ e. e ≡ answer.Memory → DiffersInFree i (reads (g.D.Disk.history c.convert_settled.new.disk)))) (c.in_ok-put_back.ensures.written tells)
    (c.convert_settled.ensures.memory tells)
