use Rattle.btr_check_names.proofs.Imports.{◌≡◌, Bool, Some, ap, sym, subst, ◌∙◌, length, true, get_or, arith, List, slice_get, IndexEntry, NamesMet}
use Rattle.btr_check_names.proofs.Meeting.{item_missing, items_met}
use Rattle.btr_check_names.proofs.table.NameTable.without_item.Goals as goal

pub returns-then-not-index : goal.returns-then-not-index
returns-then-not-index c = λ met before.
    let long = ap (λ (t : NamesMet). length t.entries) c.self.view_is in
    item_missing c.args.self.now (subst (λ (t : NamesMet). length t.hashed ≡ length t.entries) c.self.view_is c.self.invariant.hashed_long) met before c.loop-i.i c.index.result.now c.head.result.dir (omega arith)
    (ap (λ (t : NamesMet). get_or t.hashed c.loop-i.i c.index.result.now) (sym c.self.view_is) ∙ (sym c.index.ensures ∙ c.if-not-index.true))
    (subst (λ (t : NamesMet). (e : IndexEntry) → slice_get t.entries c.loop-i.i ≡ Some e → c.head.result.dir ≡ e.entry.dir) c.self.view_is c.head.ensures.dir)

pub returns : goal.returns
returns c = λ met before.
    let long = ap (λ (t : NamesMet). length t.entries) c.self.view_is in
    items_met c.args.self.now (subst (λ (t : NamesMet). length t.hashed ≡ length t.entries) c.self.view_is c.self.invariant.hashed_long) met before (λ k b within. c.loop-i.invariant k b (omega arith))
