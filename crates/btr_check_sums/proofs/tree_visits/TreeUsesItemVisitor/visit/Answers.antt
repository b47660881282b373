use Rattle.btr_check_sums.proofs.Imports.{◌∷◌, [], ℕ, List, ap, map, subst, sym, map-append, Inode, Item, in_leaf, bare_item, HoldsUses}
use Rattle.btr_check_sums.proofs.KeyOrder.{items_precede}
use Rattle.btr_check_sums.proofs.TreeSteps.{IsInodeItem, extent_item, inode_item, is_inode_key, other_item}
use Rattle.btr_check_sums.proofs.tree_visits.TreeUsesItemVisitor.visit.Goals as goal
use Rattle.btr_check_sums.proofs.tree_visits.TreeUsesItemVisitor.visit.Goals.{else-key-eq-INODE_ITEM-via-then-key-eq-INODE_ITEM+else-key-eq0, else-key-eq-INODE_ITEM-via-else-key-eq-INODE_ITEM}

pub returns-then-key-eq-EXTENT_DATA-clause-visited : goal.returns-then-key-eq-EXTENT_DATA-clause-visited
returns-then-key-eq-EXTENT_DATA-clause-visited c = λ begun items held order.
    let next = in_leaf c.args._leaf (c.args.key.now, c.args.body.now) in
    let i : Item = (c.args.key.now, c.args.body.now) in
    let met = c.in_ok-meet_extent.ensures in
    subst (λ (xs : List Item). HoldsUses begun c.meet_extent.new.self xs) (sym (map-append bare_item items (next ∷ [])))
    (extent_item (map bare_item items) i (items_precede items next order) begun c.args.self.now c.meet_extent.new.self c.if-key-eq-EXTENT_DATA.true met.is_read met.owner met.uses held)

pub returns-then-key-eq0-clause-visited : goal.returns-then-key-eq0-clause-visited
returns-then-key-eq0-clause-visited c = λ begun items held order.
    let next = in_leaf c.args._leaf (c.args.key.now, c.args.body.now) in
    let i : Item = (c.args.key.now, c.args.body.now) in
    let met = c.meet_inode.ensures in
    let key = is_inode_key c.args.key.now c.if-key-eq-INODE_ITEM.true c.if-key-eq0.true in
    subst (λ (xs : List Item). HoldsUses begun c.meet_inode.new.self xs) (sym (map-append bare_item items (next ∷ [])))
    (inode_item (map bare_item items) i (items_precede items next order) begun c.args.self.now c.meet_inode.new.self key met.is_read met.uses met.owner held)

pub returns-else-key-eq-INODE_ITEM-clause-visited : goal.returns-else-key-eq-INODE_ITEM-clause-visited
returns-else-key-eq-INODE_ITEM-clause-visited c = λ begun items held order.
    let next = in_leaf c.args._leaf (c.args.key.now, c.args.body.now) in
    let i : Item = (c.args.key.now, c.args.body.now) in
    let before = items_precede items next order in
    let never : (ino : ℕ) (inode : Inode) → ¬ IsInodeItem (map bare_item items) i before ino inode = λ ino inode new.
    elim c.else-key-eq-INODE_ITEM.branch [
      | else-key-eq-INODE_ITEM-via-then-key-eq-INODE_ITEM+else-key-eq0 w ↦ w.if-key-eq0.false (ap (λ (x : Item). x.0.offset) new.1)
      | else-key-eq-INODE_ITEM-via-else-key-eq-INODE_ITEM w ↦ w.if-key-eq-INODE_ITEM.false (ap (λ (x : Item). x.0.kind) new.1)
    ] in
    subst (λ (xs : List Item). HoldsUses begun c.args.self.now xs) (sym (map-append bare_item items (next ∷ [])))
    (other_item (map bare_item items) i before begun c.args.self.now c.if-key-eq-EXTENT_DATA.false never held)
