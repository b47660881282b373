use Rattle.btr_check_names.proofs.Imports.{◌≡◌, ◌≤◌, ℕ, ap, length, arith, List, IsPermutation, dir_entry_value, entry_by, NamedEntry, NamesMet, named}
use Rattle.btr_check_names.proofs.Marking.{absent}
use Rattle.btr_check_names.proofs.Noting.{no_entry}
use Rattle.btr_check_names.proofs.table.NameTable.note_hashed.Goals as goal

pub returns-in-Some-clause-noted : goal.returns-in-Some-clause-noted
returns-in-Some-clause-noted c = λ are met before. c.mark_hashed.ensures.noted are c.args.dir c.in-Some.ensures.1 met before

pub returns-in-None-clause-noted : goal.returns-in-None-clause-noted
returns-in-None-clause-noted c = λ are met before.
    let x : NamedEntry = entry_by c.args.dir (dir_entry_value c.args.e.now) in
    let long = ap (λ (t : NamesMet). length t.entries) c.self.view_is in
    absent (named c.args.self.now.entries) met x (no_entry c.args.self.now.entries c.len.result (omega arith) x c.in-None.ensures)
