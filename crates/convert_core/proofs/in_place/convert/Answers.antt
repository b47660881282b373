use Rattle.convert_core.proofs.Imports.{◌≢◌, ◌≡◌, ◌∙◌, ap, subst, IfErr, History, Image, WritesOnly, reads, sync_only, writes_then, DiffersInFree, IsConvertPlace, IsLeftByConvert, IsPutBackAlone, put_back}
use Rattle.first_sync.proofs.Synced.{goes_on, synced_then, uncalled}
use Rattle.convert_steps.specs.command_answers.declared.answer.Answer.TheVariants as answer
use Rattle.convert_core.proofs.in_place.convert.Goals as goal

pub returns-in_err-sync-clause-crash : goal.returns-in_err-sync-clause-crash
returns-in_err-sync-clause-crash g c = λ tells. uncalled _ _ _ (c.in_err-sync.ensures.effect tells)

pub returns-clause-crash : goal.returns-clause-crash
returns-clause-crash g c = λ tells.
    synced_then (IsLeftByConvert c.args.options.now c.args.ids.now c.args.now) _ _ _ (c.in_ok-sync.ensures.effect tells) (goes_on _ _ _ (c.convert_synced.ensures.only tells)) (c.convert_synced.ensures.crash tells)

pub returns-in_err-sync-clause-only : goal.returns-in_err-sync-clause-only
returns-in_err-sync-clause-only g c = λ tells. sync_only (λ b _. IsConvertPlace (put_back (reads (g.D.Disk.history c.args.disk.now))) b) _ _ c.sync.result (c.sync.ensures.effect tells)

pub returns-clause-only : goal.returns-clause-only
returns-clause-only g c = λ tells.
    let old = g.D.Disk.history c.args.disk.now in
    let mid = g.D.Disk.history c.sync.new.self in
    let new = g.D.Disk.history c.convert_synced.new.disk in
    writes_then (λ b _. IsConvertPlace (put_back (reads old)) b) old mid new
    (sync_only (λ b _. IsConvertPlace (put_back (reads old)) b) old mid c.sync.result (c.sync.ensures.effect tells))
    (subst (λ (i : Image). WritesOnly (λ b _. IsConvertPlace (put_back i) b) mid new) (ap reads (c.in_ok-sync.ensures.effect tells)) (c.convert_synced.ensures.only tells))

pub returns-clause-converted : goal.returns-clause-converted
returns-clause-converted g c = λ tells image is. c.convert_synced.ensures.converted tells image (ap reads (c.in_ok-sync.ensures.effect tells) ∙ is)

pub returns-clause-refused : goal.returns-clause-refused
returns-clause-refused g c = λ tells.
    subst (λ (h : History). IfErr c.convert_synced.result (λ e. e ≢ answer.Fault → e ≢ answer.Memory → IsPutBackAlone h (g.D.Disk.history c.convert_synced.new.disk))) (c.in_ok-sync.ensures.effect tells)
    (c.convert_synced.ensures.refused tells)

pub returns-clause-memory : goal.returns-clause-memory
returns-clause-memory g c = λ tells.
    subst (λ (h : History). IfErr c.convert_synced.result (λ e. e ≡ answer.Memory → DiffersInFree (put_back (reads h)) (reads (g.D.Disk.history c.convert_synced.new.disk)))) (c.in_ok-sync.ensures.effect tells)
    (c.convert_synced.ensures.memory tells)
