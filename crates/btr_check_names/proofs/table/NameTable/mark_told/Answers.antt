use Rattle.btr_check_names.proofs.Imports.{◌≡◌, Bool, ap, sym, subst, ◌∙◌, length, true, get_or, ◌++◌, ◌∷◌, [], set, IsPermutation, chosen, BackName, NamesMet, back_names, own_names}
use Rattle.btr_check_names.proofs.Meeting.{name_again, name_first, name_other}
use Rattle.btr_check_names.proofs.table.NameTable.mark_told.Goals as goal
use Rattle.btr_check_names.proofs.table.NameTable.mark_told.Goals.{then-not-names-via-then-not-names, then-not-names-via-else-not-names+then-index}

pub returns-then-not-names-clause-noted : goal.returns-then-not-names-clause-noted
returns-then-not-names-clause-noted c = λ are dir name at apart met before.
    let x : BackName = record { inode = c.args.inode; dir = dir; index = c.args.index; name = name } in
    elim c.then-not-names.branch [
      | then-not-names-via-then-not-names w ↦ name_other c.args.self.now x c.args.i at c.names.result (c.names.ensures at.0 at.1) are apart w.if-not-names.true met
      | then-not-names-via-else-not-names+then-index w ↦ name_again c.args.self.now x c.args.i at c.names.result (c.names.ensures at.0 at.1)
          (subst (λ (t : NamesMet). length t.told ≡ length t.entries) c.self.view_is c.self.invariant.told_long) are w.if-not-names.false w.index.result.now
          (ap (λ (t : NamesMet). get_or t.told c.args.i w.index.result.now) (sym c.self.view_is) ∙ (sym w.index.ensures ∙ w.if-index.true)) met before
    ]

pub returns-clause-noted : goal.returns-clause-noted
returns-clause-noted c = λ are dir name at apart met before.
    let x : BackName = record { inode = c.args.inode; dir = dir; index = c.args.index; name = name } in
    subst (λ (t : NamesMet). IsPermutation (own_names t.own ++ back_names (chosen (set t.told c.args.i true) t.entries)) (met ++ x ∷ [])) (sym c.self.view_is)
    (name_first c.args.self.now x c.args.i at c.names.result (c.names.ensures at.0 at.1)
    (subst (λ (t : NamesMet). length t.told ≡ length t.entries) c.self.view_is c.self.invariant.told_long) c.if-not-names.false c.index.result.now
    (ap (λ (t : NamesMet). get_or t.told c.args.i c.index.result.now) (sym c.self.view_is) ∙ (sym c.index.ensures ∙ c.if-index.false)) met before)
