use Rattle.convert_core.proofs.Imports.{◌≡◌, ◌⊎◌, sym, subst, Answer, IsPrepareAnswer}
use Rattle.convert_steps.specs.command_answers.declared.answer.Answer.TheVariants as answer
use Rattle.convert_core.proofs.Answering.{failure_of_writer, prepares_by_writer}
use Rattle.convert_core.proofs.Nodes.{places_end, units_fit, units_sound}
use Rattle.convert_core.proofs.volume.write_nodes.Goals as goal

pub write_trees-requires-clause-units : goal.write_trees-requires-clause-units
write_trees-requires-clause-units g c = units_fit c.args.prepared.now _ c.requires.plan c.requires.whole

pub write_trees-requires-clause-sound : goal.write_trees-requires-clause-sound
write_trees-requires-clause-sound g c = units_sound c.args.prepared.now _ c.requires.plan c.requires.whole

pub write_trees-requires-clause-places : goal.write_trees-requires-clause-places
write_trees-requires-clause-places g c = places_end c.args.prepared.now _ c.requires.plan c.requires.whole

pub returns-in-Err-clause-trees : goal.returns-in-Err-clause-trees
returns-in-Err-clause-trees g c = λ tells other is image m made for_ same fit.
    subst (λ (a : Answer). (a ≡ answer.Fault) ⊎ (a ≡ answer.Memory)) (sym c.write_answer.ensures) (failure_of_writer _ c.in-Err.answer (c.in-Err.ensures.trees tells other is image m made for_ same fit))

pub returns-in-Err-clause-answers : goal.returns-in-Err-clause-answers
returns-in-Err-clause-answers g c = subst IsPrepareAnswer (sym c.write_answer.ensures) (prepares_by_writer _ c.in-Err.answer)
