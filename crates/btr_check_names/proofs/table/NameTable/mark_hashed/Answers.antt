use Rattle.btr_check_names.proofs.Imports.{◌≡◌, Bool, ap, sym, subst, ◌∙◌, length, true, get_or, ◌++◌, ◌∷◌, [], set, IsPermutation, dir_entry_value, entry_by, chosen, NamedEntry, NamesMet, named}
use Rattle.btr_check_names.proofs.Meeting.{item_again, item_first, item_other}
use Rattle.btr_check_names.proofs.table.NameTable.mark_hashed.Goals as goal
use Rattle.btr_check_names.proofs.table.NameTable.mark_hashed.Goals.{then-not-tells-via-then-not-tells, then-not-tells-via-else-not-tells+then-index}

pub returns-then-not-tells-clause-noted : goal.returns-then-not-tells-clause-noted
returns-then-not-tells-clause-noted c = λ are dir at met before.
    let x : NamedEntry = entry_by dir (dir_entry_value c.args.e.now) in
    elim c.then-not-tells.branch [
      | then-not-tells-via-then-not-tells w ↦ item_other c.args.self.now x c.args.i at c.tells.result (c.tells.ensures at.0 at.1) are w.if-not-tells.true met
      | then-not-tells-via-else-not-tells+then-index w ↦ item_again c.args.self.now x c.args.i at c.tells.result (c.tells.ensures at.0 at.1)
          (subst (λ (t : NamesMet). length t.hashed ≡ length t.entries) c.self.view_is c.self.invariant.hashed_long) are w.if-not-tells.false w.index.result.now
          (ap (λ (t : NamesMet). get_or t.hashed c.args.i w.index.result.now) (sym c.self.view_is) ∙ (sym w.index.ensures ∙ w.if-index.true)) met before
    ]

pub returns-clause-noted : goal.returns-clause-noted
returns-clause-noted c = λ are dir at met before.
    let x : NamedEntry = entry_by dir (dir_entry_value c.args.e.now) in
    subst (λ (t : NamesMet). IsPermutation (named (chosen (set t.hashed c.args.i true) t.entries)) (met ++ x ∷ [])) (sym c.self.view_is)
    (item_first c.args.self.now x c.args.i at c.tells.result (c.tells.ensures at.0 at.1)
    (subst (λ (t : NamesMet). length t.hashed ≡ length t.entries) c.self.view_is c.self.invariant.hashed_long) c.if-not-tells.false c.index.result.now
    (ap (λ (t : NamesMet). get_or t.hashed c.args.i c.index.result.now) (sym c.self.view_is) ∙ (sym c.index.ensures ∙ c.if-index.false)) met before)
