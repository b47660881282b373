use Rattle.btr_check_names.proofs.Imports.{◌≡◌, ◌<◌, ℕ, Bool, Some, ap, sym, subst, ◌∙◌, length, true, get_or, arith, below_more, List, slice_get, IndexEntry, names_inode_item, NamesMet}
use Rattle.btr_check_names.proofs.Meeting.{name_missing, name_over, names_met, no_inode, own_missing}
use Rattle.btr_check_names.proofs.table.NameTable.without_ref.Goals as goal
use Rattle.btr_check_names.proofs.table.NameTable.without_ref.Goals.{else-names_inode-via-then-names_inode+else-not-index, else-names_inode-via-else-names_inode}

pub returns-then-not-self : goal.returns-then-not-self
returns-then-not-self c = λ met before.
    own_missing c.args.self.now (subst (λ (t : NamesMet). length t.told ≡ length t.entries) c.self.view_is c.self.invariant.told_long) met before (ap (λ (t : NamesMet). t.own) (sym c.self.view_is) ∙ c.if-not-self.true)

pub returns-then-not-index : goal.returns-then-not-index
returns-then-not-index c = λ met before.
    let long = ap (λ (t : NamesMet). length t.entries) c.self.view_is in
    name_missing c.args.self.now (subst (λ (t : NamesMet). length t.told ≡ length t.entries) c.self.view_is c.self.invariant.told_long) met before c.loop-i.i c.index.result.now c.head.result.location (omega arith)
    (ap (λ (t : NamesMet). get_or t.told c.loop-i.i c.index.result.now) (sym c.self.view_is) ∙ (sym c.index.ensures ∙ c.if-not-index.true))
    (subst (λ (t : NamesMet). (e : IndexEntry) → slice_get t.entries c.loop-i.i ≡ Some e → c.head.result.location ≡ e.entry.location) c.self.view_is c.head.ensures.location)
    (sym c.names_inode.ensures ∙ c.if-names_inode.true)

pub loop-i-preserved : goal.loop-i-preserved
loop-i-preserved c =
    let long = ap (λ (t : NamesMet). length t.entries) c.self.view_is in
    below_more (λ k. (e : IndexEntry) (d : Bool) → names_inode_item (get_or c.args.self.now.entries k e) ≡ true → get_or c.args.self.now.told k d ≡ true) c.loop-i.i c.loop-i.invariant
    (elim c.else-names_inode.branch [
      | else-names_inode-via-then-names_inode+else-not-index w ↦
          name_over c.args.self.now (subst (λ (t : NamesMet). length t.told ≡ length t.entries) c.self.view_is c.self.invariant.told_long) c.loop-i.i w.index.result.now (omega arith)
          (ap (λ (t : NamesMet). get_or t.told c.loop-i.i w.index.result.now) (sym c.self.view_is) ∙ (sym w.index.ensures ∙ w.if-not-index.false))
      | else-names_inode-via-else-names_inode w ↦
          no_inode c.args.self.now c.loop-i.i c.head.result.location (omega arith)
          (subst (λ (t : NamesMet). (e : IndexEntry) → slice_get t.entries c.loop-i.i ≡ Some e → c.head.result.location ≡ e.entry.location) c.self.view_is c.head.ensures.location)
          (sym c.names_inode.ensures ∙ w.if-names_inode.false)
    ])

pub returns : goal.returns
returns c = λ met before.
    let long = ap (λ (t : NamesMet). length t.entries) c.self.view_is in
    names_met c.args.self.now (subst (λ (t : NamesMet). length t.told ≡ length t.entries) c.self.view_is c.self.invariant.told_long) met before (ap (λ (t : NamesMet). t.own) (sym c.self.view_is) ∙ c.if-not-self.false) (λ k e b within passes. c.loop-i.invariant k (omega arith) e b passes)
