use Rattle.program_words.proofs.Imports.{◌++◌, codes, sym, subst, Takes, words_to_end, btr_words}
use Rattle.command_answers.specs.refusals.declared.refusal.BtrRefusal.{BtrRefusal}
use Rattle.program_words.proofs.answer_line.write_btr_refused.Goals as goal

pub returns-in-Unsupported-clause-taken : goal.returns-in-Unsupported-clause-taken
returns-in-Unsupported-clause-taken g c = λ tells.
    subst (λ (r : BtrRefusal). Takes (g.E.Sink.taken c.args.err.now) (codes "refused" ++ words_to_end (btr_words r)) c.write_two-in-Unsupported.result (g.E.Sink.taken c.write_two-in-Unsupported.new.err)) (sym c.in-Unsupported.is)
    (rw c.feature_number.ensures at (c.write_two-in-Unsupported.ensures.taken tells))
