use Rattle.btr_check_files.proofs.Imports.{◌++◌, List, map, sym, ap, subst, append-nil, IsPermutation, InodeRefValue, or_none, told_of, NotesNames, ref_name}
use Rattle.btr_check_files.proofs.name_pass.note_inode_ref.Goals as goal

pub returns-in-Some-clause-noted : goal.returns-in-Some-clause-noted
returns-in-Some-clause-noted c = λ names met before.
    subst (λ (z : List InodeRefValue). NotesNames c.args.table.now.entries c.note_refs.new.table (met ++ map (ref_name c.args.inode c.args.dir) z) c.args.inode c.note_refs.result) (ap or_none c.in-Some.ensures)
    (c.note_refs.ensures.noted names met before)

pub returns-in-None-clause-noted : goal.returns-in-None-clause-noted
returns-in-None-clause-noted c = λ names met before.
    subst (λ (z : List InodeRefValue). IsPermutation (told_of c.args.table.now) (met ++ map (ref_name c.args.inode c.args.dir) z)) (ap or_none c.in-None.ensures)
    (subst (IsPermutation (told_of c.args.table.now)) (sym (append-nil met)) before)
