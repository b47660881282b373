use Rattle.btr_check_names.proofs.Imports.{sym, subst, ap, ◌∙◌, IsPermutation, chosen, NamesMet, back_names, told_of}
use Rattle.btr_check_names.proofs.Meeting.{own_again, own_first}
use Rattle.btr_check_names.proofs.table.NameTable.note_own.Goals as goal

pub returns-then-self-clause-noted : goal.returns-then-self-clause-noted
returns-then-self-clause-noted c = λ are met before. own_again c.args.self.now (ap (λ (t : NamesMet). t.own) (sym c.self.view_is) ∙ c.if-self.true) are met before

pub returns-clause-noted : goal.returns-clause-noted
returns-clause-noted c = λ are met before.
    own_first c.self.inside.own (back_names (chosen c.self.inside.told.items c.self.inside.list)) met c.if-self.false (subst (λ (t : NamesMet). IsPermutation (told_of t) met) (sym c.self.view_is) before)
