use Rattle.program_words.proofs.Imports.{sym, subst, Takes, answer_line}
use Rattle.command_answers.specs.declared.answer.Answer.{Answer}
use Rattle.program_words.proofs.answer_line.write_answer.Goals as goal

pub returns-in-Fault-clause-taken : goal.returns-in-Fault-clause-taken
returns-in-Fault-clause-taken g c = λ tells.
    subst (λ (a : Answer). Takes (g.E.Sink.taken c.args.err.now) (answer_line a) c.write-in-Fault.result (g.E.Sink.taken c.write-in-Fault.new.self)) (sym c.in-Fault.is) (c.write-in-Fault.ensures.taken tells)
