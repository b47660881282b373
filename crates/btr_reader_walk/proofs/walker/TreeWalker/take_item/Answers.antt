use Rattle.btr_reader_walk.proofs.Imports.{◌≡◌, ◌<◌, ◌+◌, ℕ, List, [], length, get_or, Some, refl, sym, ◌∙◌, ap, arith, get_or_default, Key, Item, items_in, TreeWalker, is_above}
use Rattle.btr_reader_walk.proofs.Opening.{few_items}
use Rattle.btr_reader_walk.proofs.Walking.{order_blamed, item_taken}
use Rattle.btr_reader_walk.proofs.walker.TreeWalker.take_item.Goals as goal

-- the next item, and any item where there is none
abbrev next_item : TreeWalker → Key → Item
next_item w key = get_or (items_in w.nodes.bytes.items) w.at.next (key, [])

within : (w : TreeWalker) → 0 < w.at.left → w.at.next < length (items_in w.nodes.bytes.items)
within w some = omega (arith, w.all (omega (arith, some)))

key_is : (w : TreeWalker) (key : Key) (view : List Item) (bytes : List ℕ) → key ≡ (get_or view w.at.next (key, [])).0 → view ≡ items_in bytes → bytes ≡ w.nodes.bytes.items → key ≡ (next_item w key).0
key_is w key view bytes is seen same = is ∙ (ap (λ (v : List Item). (get_or v w.at.next (key, [])).0) seen ∙ ap (λ (b : List ℕ). (get_or (items_in b) w.at.next (key, [])).0) same)

pub returns-then-not-is_above-clause-comes : goal.returns-then-not-is_above-clause-comes
returns-then-not-is_above-clause-comes c = λ image ranges given k.
    let w : TreeWalker = c.args.self.now in
    let key : Key = c.key-key.result in
    let is : key ≡ (next_item w key).0 = key_is w key c.of.result c.bytes.result.now (c.key-key.ensures (key, [])) c.of.ensures c.bytes.ensures in
    let lt = within w c.requires.left in
    order_blamed w image ranges given (next_item w key) k lt (omega (arith, c.requires.left)) (get_or_default (items_in w.nodes.bytes.items) w.at.next (next_item w key) (key, []) lt)
    (ap (λ (q : Key). is_above w.last q) (sym is) ∙ (sym c.is_above.ensures ∙ c.if-not-is_above.true))

pub overflow_add-self : goal.overflow_add-self
overflow_add-self c =
    let w : TreeWalker = c.args.self.now in
    let some : 0 < w.at.next + w.at.left = omega (arith, c.requires.left) in
    omega (arith, w.all some, few_items w.nodes.bytes.items (w.leaf some), w.nodes.buffer, c.requires.left)

pub returns-clause-comes : goal.returns-clause-comes
returns-clause-comes c = λ image ranges given k.
    let w : TreeWalker = c.args.self.now in
    let key : Key = c.key-key.result in
    let is : key ≡ (next_item w key).0 = key_is w key c.of.result c.bytes.result.now (c.key-key.ensures (key, [])) c.of.ensures c.bytes.ensures in
    let lt = within w c.requires.left in
    item_taken w _ image ranges given (next_item w key) k lt (omega (arith, c.requires.left)) (λ other. get_or_default (items_in w.nodes.bytes.items) w.at.next other (key, []) lt)
    (ap (λ (q : Key). is_above w.last q) (sym is) ∙ (sym c.is_above.ensures ∙ c.if-not-is_above.false))
    refl refl refl refl refl (ap Some is)
