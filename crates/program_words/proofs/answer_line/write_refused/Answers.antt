use Rattle.program_words.proofs.Imports.{◌++◌, sym, subst, Takes, words_to_end, volume_words}
use Rattle.command_answers.specs.refusals.declared.refusal.VolumeRefusal.{VolumeRefusal}
use Rattle.program_words.proofs.answer_line.write_refused.Goals as goal

pub returns-in-Unsupported-clause-taken : goal.returns-in-Unsupported-clause-taken
returns-in-Unsupported-clause-taken g c = λ tells.
    subst (λ (r : VolumeRefusal). Takes (g.E.Sink.taken c.args.err.now) (c.args.first.now ++ words_to_end (volume_words r)) c.write_two.result (g.E.Sink.taken c.write_two.new.err)) (sym c.in-Unsupported.is)
    (rw c.feature_number.ensures at (c.write_two.ensures.taken tells))

pub returns-in-HasAttributes-clause-taken : goal.returns-in-HasAttributes-clause-taken
returns-in-HasAttributes-clause-taken g c = λ tells.
    subst (λ (r : VolumeRefusal). Takes (g.E.Sink.taken c.args.err.now) (c.args.first.now ++ words_to_end (volume_words r)) c.write_two-in-HasAttributes.result (g.E.Sink.taken c.write_two-in-HasAttributes.new.err)) (sym c.in-HasAttributes.is)
    (rw (c.from-in-HasAttributes.ensures, c.from-in-HasAttributes-2.ensures) at (c.write_two-in-HasAttributes.ensures.taken tells))
