use Rattle.btr_check_files.proofs.Imports.{Files, part_number, TellOther, TellSame}
use Rattle.btr_check_files.proofs.Asking.{asked_none, none_named}
use Rattle.btr_check_files.proofs.name_pass.NamePass.finish.Goals as goal

pub returns-clause-told : goal.returns-clause-told
returns-clause-told c = λ begun items has.
    asked_none c.ask_none.result c.unmet.result (part_number Files) (TellSame begun.entries items) (TellOther begun.entries items) c.ask_none.ensures.ok c.ask_none.ensures.err (c.unmet.ensures begun items has)

pub returns-clause-answers : goal.returns-clause-answers
returns-clause-answers c = none_named c.ask_none.result c.unmet.result (part_number Files) c.ask_none.ensures.err
