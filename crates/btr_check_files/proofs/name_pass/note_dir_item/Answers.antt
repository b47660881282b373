use Rattle.btr_check_files.proofs.Imports.{◌++◌, List, map, sym, ap, subst, append-nil, IsPermutation, DirEntryValue, or_none, entry_by, hashed_of, NotesEntries}
use Rattle.btr_check_files.proofs.name_pass.note_dir_item.Goals as goal

pub returns-in-Some-clause-noted : goal.returns-in-Some-clause-noted
returns-in-Some-clause-noted c = λ names met before.
    subst (λ (z : List DirEntryValue). NotesEntries c.args.table.now.entries c.note_entries.new.table (met ++ map (entry_by c.args.dir) z) c.args.dir c.note_entries.result) (ap or_none c.in-Some.ensures)
    (c.note_entries.ensures.noted names met before)

pub returns-in-None-clause-noted : goal.returns-in-None-clause-noted
returns-in-None-clause-noted c = λ names met before.
    subst (λ (z : List DirEntryValue). IsPermutation (hashed_of c.args.table.now) (met ++ map (entry_by c.args.dir) z)) (ap or_none c.in-None.ensures)
    (subst (IsPermutation (hashed_of c.args.table.now)) (sym (append-nil met)) before)
