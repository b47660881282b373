use Rattle.btr_check_forms.proofs.Imports.{dir_items_of, IsEntry, ◌∙◌}
use Rattle.btr_check_forms.proofs.Deciding.{never, not_none, one_decides}
use Rattle.btr_check_forms.proofs.forms.is_dir_index.Goals as goal

pub returns-in-Some : goal.returns-in-Some
returns-in-Some c = one_decides IsEntry (dir_items_of c.args.body.now) _ c.in-Some.ensures _ c.is_one.ensures.one c.is_one.ensures.entry

pub returns-in-None : goal.returns-in-None
returns-in-None c = never (λ told. not_none _ (c.in-None.ensures ∙ told.1))
