use Rattle.btr_reader_names.proofs.Imports.{◌∙◌, sym}
use Rattle.btr_reader_names.proofs.inode_rules.check_form.Goals as goal

pub returns-then-is_open-clause-blamed : goal.returns-then-is_open-clause-blamed
returns-then-is_open-clause-blamed c = (sym c.is_open.ensures ∙ c.if-is_open.true, c.bad.ensures)
