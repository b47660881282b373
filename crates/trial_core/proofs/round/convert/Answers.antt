use Rattle.trial_core.proofs.Imports.{sym, subst, RefusesConvert, IsConverted, Image, reads, Answer, LeavesRound, RefusesRound, synced_now, first_goes_on, plain, put_back}
use Rattle.convert_core.specs.convert_options.declared.options.Options.{Options}
use Rattle.super_turn.proofs.Backs.{put_none}
use Rattle.trial_core.proofs.Refusing.{convert_leaves, convert_refused, step_cause}
use Rattle.trial_core.proofs.round.convert.Goals as goal

pub returns-in-Ok-clause-told : goal.returns-in-Ok-clause-told
returns-in-Ok-clause-told g c = λ tells image is accepted whole.
    let other : Image = reads (g.D.Disk.history c.convert.new.disk) in
    subst (λ (i : Image). IsConverted plain c.args.ids.now c.args.now i other) (put_none image whole)
    (subst (λ (o : Options). IsConverted o c.args.ids.now c.args.now (put_back image) other) c.plain.ensures (c.in-Ok.ensures.converted tells image is).0)

pub returns-in-Err-clause-told : goal.returns-in-Err-clause-told
returns-in-Err-clause-told g c = λ tells image is accepted whole.
    subst (λ (e : Answer). RefusesRound image e) (sym c.step_answer.ensures)
    (convert_refused c.refusals_break_rules.ensures c.in_order_has_format.ensures image c.in-Err.answer accepted
    (subst (λ (i : Image). RefusesConvert plain i c.in-Err.answer) (put_none image whole)
    (subst (λ (o : Options). RefusesConvert o (put_back image) c.in-Err.answer) c.plain.ensures (c.in-Err.ensures.converted tells image is))))

pub returns-in-Err-clause-leaves : goal.returns-in-Err-clause-leaves
returns-in-Err-clause-leaves g c = λ tells whole.
    subst (λ (e : Answer). LeavesRound (synced_now (g.D.Disk.history c.args.disk.now)) (g.D.Disk.history c.convert.new.disk) e) (sym c.step_answer.ensures)
    (convert_leaves (synced_now (g.D.Disk.history c.args.disk.now)) (g.D.Disk.history c.convert.new.disk) c.in-Err.answer
    (λ fault memory. (c.in-Err.ensures.refused tells fault memory).same whole))

pub returns-in-Ok-clause-grows : goal.returns-in-Ok-clause-grows
returns-in-Ok-clause-grows g c = λ tells. first_goes_on _ _ (c.convert.ensures.crash tells).first

pub returns-in-Err-clause-grows : goal.returns-in-Err-clause-grows
returns-in-Err-clause-grows g c = λ tells. first_goes_on _ _ (c.convert.ensures.crash tells).first

pub returns-in-Err-clause-cause : goal.returns-in-Err-clause-cause
returns-in-Err-clause-cause g c = rw c.step_answer.ensures (step_cause _ _ c.in-Err.answer _ _ c.in-Err.ensures.cause)
