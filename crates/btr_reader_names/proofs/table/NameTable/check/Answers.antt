use Rattle.btr_reader_names.proofs.table.NameTable.check.Goals as goal

pub returns-clause-kept : goal.returns-clause-kept
returns-clause-kept c = λ items noted. (c.in_ok-check_all.ensures.all items noted (c.in_ok-named.ensures items noted)).0
