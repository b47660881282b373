use Rattle.btr_reader.proofs.RootNames.{match_on, twice_refused}
use Rattle.btr_reader.proofs.Imports.{is_root_directory}
use Rattle.btr_reader.proofs.entries.see_entry.Goals as goal

pub returns-clause-seen : goal.returns-clause-seen
returns-clause-seen c = λ before root has. match_on _ _ c.see_name.result (c.see_name.ensures.seen is_root_directory before root has)

pub returns-clause-err : goal.returns-clause-err
returns-clause-err c = λ before root has. twice_refused _ c.see_name.result c.args.naming.now before (c.see_name.ensures.seen is_root_directory before root has)
