use Rattle.btr_check_files.proofs.Imports.{◌++◌, List, map, sym, ap, subst, append-nil, IsPermutation, ExtrefValue, or_none, told_of, NotesNames, extref_name}
use Rattle.btr_check_files.proofs.name_pass.note_extref.Goals as goal

pub returns-in-Some-clause-noted : goal.returns-in-Some-clause-noted
returns-in-Some-clause-noted c = λ names met before.
    subst (λ (z : List ExtrefValue). NotesNames c.args.table.now.entries c.note_extrefs.new.table (met ++ map (extref_name c.args.inode) z) c.args.inode c.note_extrefs.result) (ap or_none c.in-Some.ensures)
    (c.note_extrefs.ensures.noted names met before)

pub returns-in-None-clause-noted : goal.returns-in-None-clause-noted
returns-in-None-clause-noted c = λ names met before.
    subst (λ (z : List ExtrefValue). IsPermutation (told_of c.args.table.now) (met ++ map (extref_name c.args.inode) z)) (ap or_none c.in-None.ensures)
    (subst (IsPermutation (told_of c.args.table.now)) (sym (append-nil met)) before)
