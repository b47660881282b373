use Rattle.reiser_volume_contents.proofs.Imports.{◌≡◌, ◌-◌, ◌++◌, ℕ, suc, List, Some, drop, refl, sym, ap, ◌∙◌, arith, flat_map, ItemHead, head_at, head_place, body_at, heads_within, ReiserItem, leaf_items}
use Rattle.reiser_volume_contents.specs.declared.leaf.LeafInHand.{LeafInHand}
use Rattle.reiser_volume_contents.proofs.Looking.{looked, next_item, stands_next}
use Rattle.reiser_volume_contents.proofs.object_items.ObjectItems.look.Goals as goal

pub overflow_add-self : goal.overflow_add-self
overflow_add-self c =
    let l : LeafInHand = c.args.self.now.leaf in
    omega (arith, l.all (omega arith), heads_within l.block.bytes (l.leaf (omega arith)))

pub returns-clause-looks : goal.returns-clause-looks
returns-clause-looks c = λ leaves image given items reads.
    let l : LeafInHand = c.args.self.now.leaf in
    let head : ItemHead = c.head-head.result in
    let at : head_at l.block.bytes (head_place l.at.next) ≡ Some head = ap (λ (b : List ℕ). head_at b (head_place l.at.next)) (sym c.of.ensures) ∙ c.head-head.ensures in
    let left : l.at.left ≡ suc (l.at.left - 1) = omega arith in
    looked c.args.self.now _ leaves image given items (record { leaf = l.no; head = head; body = body_at l.block.bytes l.at.next }) refl refl
    (ap (λ (xs : List ReiserItem). xs ++ flat_map (leaf_items image) (drop c.args.self.now.place leaves)) (next_item l.no l.at.next l.block.bytes l.at.left (l.at.left - 1) head left at))
    reads c.object_order.result (sym c.object_order.ensures) (stands_next l.no l.at.next l.block.bytes head at)

pub returns-clause-from : goal.returns-clause-from
returns-clause-from c = λ first leaves from. record { later = from.later; hand = λ some. from.hand (omega (arith, c.requires.left)) }
