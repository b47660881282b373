use Rattle.btr_tree.proofs.Imports.{◌≡◌, ◌≤◌, ◌<◌, ◌++◌, ◌∷◌, [], true, sym, ◌∙◌, ap, subst, arith, KEY_PTR_SIZE, Draft, IsDraft, room, first_keys, Ascends, key_spelled, child_spelled, Made}
use Rattle.btr_tree.proofs.Drafting.{was_done, child_right}
use Rattle.btr_tree.proofs.nodes.Nodes.put_child.Goals as goal

pub invariant_of-self : goal.invariant_of-self
invariant_of-self c =
    let before = c.self.invariant in
    let old : Draft = c.self.inside.writer in
    let fits : KEY_PTR_SIZE ≤ room old = omega (arith, c.requires.room, ap (λ (m : Made). room m.draft) c.self.view_is) in
    let new : Draft = record old { children = old.children ++ c.args.child ∷ [] } in
    let is : c.push_child.new.self ≡ new =
    was_done c.push_child.result (c.push_child.new.self ≡ new) (room old < KEY_PTR_SIZE) c.push_child.ensures.full (λ full. absurd (omega (arith, fits, full))) c.push_child.ensures.ok in
    let inner : 1 ≤ old.want.level = omega (arith, c.requires.inner, ap (λ (m : Made). m.draft.want.level) c.self.view_is) in
    let order : Ascends (first_keys old.children ++ c.args.child.key ∷ []) = subst (λ (m : Made). Ascends (first_keys m.draft.children ++ c.args.child.key ∷ [])) (sym c.self.view_is) c.requires.order in
    let started : old.started ≡ true = ap (λ (m : Made). m.draft.started) c.self.view_is ∙ c.requires.started in
    record {
      size = before.size;
      same = ap (λ (d : Draft). d.nodesize) is ∙ before.same;
      whole = before.whole;
      few = before.few;
      as_many = before.as_many;
      small = before.small;
      batch = before.batch;
      room_is = before.room_is;
      right = λ _. subst (λ (d : Draft). IsDraft d) (sym is)
          (child_right old c.args.child (before.right started) inner fits (child_spelled c.args.child (key_spelled c.args.child.key (omega arith) (omega arith) (omega arith)) (omega arith) (omega arith)) order);
    }
