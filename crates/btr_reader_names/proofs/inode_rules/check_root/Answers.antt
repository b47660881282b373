use Rattle.btr_reader_names.proofs.Imports.{◌∙◌, sym, root_off, root_other}
use Rattle.btr_reader_names.proofs.inode_rules.check_root.Goals as goal

pub returns-in-None-kind_found-clause-blamed : goal.returns-in-None-kind_found-clause-blamed
returns-in-None-kind_found-clause-blamed c = root_off c.in-Some.found (sym c.found.ensures ∙ c.in-Some.is) (sym c.kind_found.ensures ∙ c.in-None-kind_found.is) c.bad-in-None-kind_found.ensures

pub returns-else-is_directory-clause-blamed : goal.returns-else-is_directory-clause-blamed
returns-else-is_directory-clause-blamed c =
    root_other c.in-Some.found c.in-Some-kind_found.kind (sym c.found.ensures ∙ c.in-Some.is) (sym c.kind_found.ensures ∙ c.in-Some-kind_found.is) (sym c.is_directory.ensures ∙ c.if-is_directory.false) c.bad-else-is_directory.ensures
