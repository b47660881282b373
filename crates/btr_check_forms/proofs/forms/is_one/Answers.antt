use Rattle.btr_check_forms.proofs.Imports.{dir_entry_value, IsEntry}
use Rattle.btr_check_forms.proofs.Deciding.{one_entry}
use Rattle.btr_check_forms.proofs.forms.is_one.Goals as goal

pub returns-clause-entry : goal.returns-clause-entry
returns-clause-entry c = λ e is. one_entry IsEntry c.args.entries.now (dir_entry_value c.get.result) e c.get.ensures c.is_entry.result c.is_entry.ensures is
