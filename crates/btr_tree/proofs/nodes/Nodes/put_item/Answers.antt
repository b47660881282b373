use Rattle.btr_tree.proofs.Imports.{◌≡◌, ◌≤◌, ◌<◌, ◌+◌, ◌++◌, ◌∷◌, [], true, length, sym, ◌∙◌, ap, subst, arith, ITEM_SIZE, Draft, IsDraft, room, keys_of, Ascends, key_spelled, Made}
use Rattle.btr_tree.proofs.Drafting.{was_done, item_right}
use Rattle.btr_tree.proofs.nodes.Nodes.put_item.Goals as goal

pub invariant_of-self : goal.invariant_of-self
invariant_of-self c =
    let before = c.self.invariant in
    let old : Draft = c.self.inside.writer in
    let fits : ITEM_SIZE + length c.args.body.now ≤ room old = omega (arith, c.requires.room, ap (λ (m : Made). room m.draft) c.self.view_is) in
    let new : Draft = record old { items = old.items ++ (c.args.key, c.args.body.now) ∷ [] } in
    let is : c.push.new.self ≡ new =
    was_done c.push.result (c.push.new.self ≡ new) (room old < ITEM_SIZE + length c.args.body.now) c.push.ensures.full (λ full. absurd (omega (arith, fits, full))) c.push.ensures.ok in
    let leaf : old.want.level ≡ 0 = ap (λ (m : Made). m.draft.want.level) c.self.view_is ∙ c.requires.leaf in
    let order : Ascends (keys_of old.items ++ c.args.key ∷ []) = subst (λ (m : Made). Ascends (keys_of m.draft.items ++ c.args.key ∷ [])) (sym c.self.view_is) c.requires.order in
    let started : old.started ≡ true = ap (λ (m : Made). m.draft.started) c.self.view_is ∙ c.requires.started in
    record {
      size = before.size;
      same = ap (λ (d : Draft). d.nodesize) is ∙ before.same;
      whole = before.whole;
      few = before.few;
      as_many = before.as_many;
      small = before.small;
      batch = before.batch;
      room_is = before.room_is;
      right = λ _. subst (λ (d : Draft). IsDraft d) (sym is) (item_right old c.args.key c.args.body.now (before.right started) leaf fits (key_spelled c.args.key (omega arith) (omega arith) (omega arith)) order);
    }
