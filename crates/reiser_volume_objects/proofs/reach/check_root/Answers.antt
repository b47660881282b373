use Rattle.reiser_volume_objects.proofs.Imports.{◌∙◌, sym}
use Rattle.reiser_volume_objects.proofs.Reaching.{other_root_refused}
use Rattle.reiser_volume_objects.proofs.reach.check_root.Goals as goal

pub returns-else-is_directory_mode-clause-checked : goal.returns-else-is_directory_mode-clause-checked
returns-else-is_directory_mode-clause-checked c = λ items noted.
    other_root_refused items c.args.root_block c.in-Some.stat c.off_form-else-is_directory_mode.result (sym (c.stat.ensures items noted) ∙ c.in-Some.is) (sym c.is_directory_mode.ensures ∙ c.if-is_directory_mode.false) c.off_form-else-is_directory_mode.ensures
