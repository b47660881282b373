use Rattle.btr_check_files.proofs.Imports.{[], sym, subst, NamesMet, HasNoted}
use Rattle.btr_check_files.proofs.Telling.{none_noted}
use Rattle.btr_check_files.proofs.name_pass.NamePass.new.Goals as goal

pub returns-clause-begun : goal.returns-clause-begun
returns-clause-begun c = λ names. subst (λ (t : NamesMet). HasNoted t t []) (sym c.in_ok-table.ensures) (none_noted c.args.list names)
