use Rattle.btr_reader_names.proofs.Imports.{◌≡◌, map, filter, take, is_step, step_of}
use Rattle.btr_reader_names.proofs.table.NameTable.steps.Given as goal

abbrev pub invariant-loop-naming : goal.invariant-loop-naming
invariant-loop-naming l = l.steps.items ≡ map step_of (filter (is_step l.self) (take l.naming-index l.self.namings.items))
