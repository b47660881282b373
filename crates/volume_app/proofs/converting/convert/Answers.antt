use Rattle.volume_app.proofs.Imports.{◌≡◌, subst, sym, ap, IfErr, Fault, Memory, CrashesSynced, synced_now, uncalled, History, reads, WritesOnly, IsLeftByConvert, IsConvertPlace, IsPutBackAlone, put_back}
use Rattle.std.proofs.Common.{◌≢◌}
use Rattle.std.specs.Prelude.{ℕ, List}
use Rattle.reiser_volume.proofs.outside.Crash.{writes_none}
use Rattle.volume_app.proofs.converting.convert.Goals as goal

pub returns-clause-crash : goal.returns-clause-crash
returns-clause-crash g c = λ tells.
    subst (λ (h : History). CrashesSynced h (g.D.Disk.history c.convert.new.disk) (IsLeftByConvert c.args.options.now c.args.ids.now c.args.now (reads h)))
    (c.open.ensures.unchanged tells) (c.convert.ensures.crash tells)

pub returns-in_err-open-clause-crash : goal.returns-in_err-open-clause-crash
returns-in_err-open-clause-crash g c = λ tells. uncalled _ _ _ (c.open.ensures.unchanged tells)

pub returns-clause-right : goal.returns-clause-right
returns-clause-right g c = λ tells. c.convert.ensures.converted tells (reads (g.D.Disk.history c.args.disk.now)) (ap reads (c.open.ensures.unchanged tells))

pub returns-clause-refused : goal.returns-clause-refused
returns-clause-refused g c = λ tells.
    subst (λ (h : History). IfErr c.convert.result (λ e. e ≢ Fault → e ≢ Memory → IsPutBackAlone (synced_now h) (g.D.Disk.history c.convert.new.disk)))
    (c.open.ensures.unchanged tells) (c.convert.ensures.refused tells)

pub returns-clause-only : goal.returns-clause-only
returns-clause-only g c = λ tells.
    subst (λ (h : History). WritesOnly (λ b bytes. IsConvertPlace (put_back (reads h)) b) h (g.D.Disk.history c.convert.new.disk))
    (c.open.ensures.unchanged tells) (c.convert.ensures.only tells)

pub returns-in_err-open-clause-only : goal.returns-in_err-open-clause-only
returns-in_err-open-clause-only g c = λ tells.
    let old : History = g.D.Disk.history c.args.disk.now in
    let P = λ (b : ℕ) (bytes : List ℕ). IsConvertPlace (put_back (reads old)) b in
    subst (λ (h : History). WritesOnly P old h) (sym (c.open.ensures.unchanged tells)) (writes_none P old)
