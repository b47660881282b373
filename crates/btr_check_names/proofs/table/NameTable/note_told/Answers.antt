use Rattle.btr_check_names.proofs.Imports.{◌≡◌, ◌≤◌, ℕ, ap, sym, ◌∙◌, length, arith, List, true≢false, IsPermutation, BackName, NamesMet, given}
use Rattle.btr_check_names.proofs.Marking.{absent}
use Rattle.btr_check_names.proofs.Noting.{no_name, not_given}
use Rattle.btr_check_names.proofs.table.NameTable.note_told.Goals as goal

pub returns-in-Some-clause-noted : goal.returns-in-Some-clause-noted
returns-in-Some-clause-noted c = λ are met before.
    c.mark_told.ensures.noted are c.args.dir c.args.name.now c.in-Some.ensures.1 (λ is. true≢false (sym (c.is_own_name.ensures.1 is) ∙ c.if-is_own_name.false)) met before

pub returns-in-None-clause-noted : goal.returns-in-None-clause-noted
returns-in-None-clause-noted c = λ are met before.
    let x : BackName = record { inode = c.args.inode; dir = c.args.dir; index = c.args.index; name = c.args.name.now } in
    let long = ap (λ (t : NamesMet). length t.entries) c.self.view_is in
    absent (given c.args.self.now.entries) met x
    (not_given c.args.self.now.entries x (λ is. true≢false (sym (c.is_own_name.ensures.1 is) ∙ c.if-is_own_name.false)) (no_name c.args.self.now.entries c.len.result (omega arith) x c.in-None.ensures))
