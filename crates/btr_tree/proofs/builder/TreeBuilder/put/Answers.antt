use Rattle.btr_tree.proofs.Imports.{◌≡◌, ℕ, ◌+◌, ◌<◌, ◌≤◌, ◌++◌, ◌∷◌, [], Result, Ok, Err, length, sym, ◌∙◌, ap, subst, arith, OnOk, ITEM_SIZE, room, keys_of, Ascends, Child, taken, Building, HasPut, leaf_closed, leaf_begun, IsNextTaken, Inside}
use Rattle.btr_tree.proofs.Holding.{put_first, put_fits, put_next, first_short, next_short}
use Rattle.btr_tree.proofs.builder.TreeBuilder.put.Goals as goal

on_ok_map : {T E : Type 0} (r : Result T E) (P Q : Type 0) → (P → Q) → OnOk r P → OnOk r Q
on_ok_map (Ok x) P Q turn h = turn h
on_ok_map (Err e) P Q turn h = tt

abbrev seen : Inside → Building
seen i = record { made = i.nodes; children = i.children.items; hand = i.hand; spent = i.spent; done = i.done }

pub returns-in_default-clause-put : goal.returns-in_default-clause-put
returns-in_default-clause-put c =
    let b : Building = c.args.self.now in
    on_ok_map c.put_first.result ((a : ℕ) × IsNextTaken b.made a × (c.put_first.new.self ≡ leaf_begun b a c.args.key c.args.body.now)) (HasPut b c.put_first.new.self (c.args.key, c.args.body.now))
    (λ x. put_first b c.put_first.new.self x.0 c.args.key c.args.body.now (sym (ap (λ (x : Building). x.hand) c.self.view_is) ∙ c.in_default.is) x.1 c.requires.small x.2)
    c.put_first.ensures.begun

pub returns-in_default-clause-out : goal.returns-in_default-clause-out
returns-in_default-clause-out c = λ items holds is.
    first_short c.args.self.now (c.args.key, c.args.body.now) items holds (sym (ap (λ (x : Building). x.hand) c.self.view_is) ∙ c.in_default.is) (c.put_first.ensures.out is)

pub returns-then-body-room-clause-put : goal.returns-then-body-room-clause-put
returns-then-body-room-clause-put c =
    let b : Building = seen c.self.inside in
    subst (λ (x : Building). HasPut x (record b { made = c.put_item.new.self }) (c.args.key, c.args.body.now)) c.self.view_is
    (put_fits b c.put_item.new.self c.in-Some.child c.args.key c.args.body.now c.in-Some.is
    (subst (λ (x : Building). Ascends (keys_of x.made.draft.items ++ c.args.key ∷ [])) (sym c.self.view_is) c.requires.order) (omega (arith, c.if-body-room.true, c.room.ensures)) c.put_item.ensures)

pub returns-clause-put : goal.returns-clause-put
returns-clause-put c =
    let b : Building = c.args.self.now in
    let child : Child = c.in-Some.child in
    let full : room b.made.draft < ITEM_SIZE + length c.args.body.now = omega (arith, c.if-body-room.false, c.room.ensures, ap (λ (x : Building). room x.made.draft) c.self.view_is) in
    let closed : c.close_leaf.new.self ≡ leaf_closed b child = c.in_ok-close_leaf.ensures.ok in
    on_ok_map c.put_first-2.result
    ((a : ℕ) × IsNextTaken c.close_leaf.new.self.made a × (c.put_first-2.new.self ≡ leaf_begun c.close_leaf.new.self a c.args.key c.args.body.now)) (HasPut b c.put_first-2.new.self (c.args.key, c.args.body.now))
    (λ x.
    let at : IsNextTaken (leaf_closed b child).made x.0 = subst (λ (y : Building). IsNextTaken y.made x.0) closed x.1 in
    let is : c.put_first-2.new.self ≡ leaf_begun (leaf_closed b child) x.0 c.args.key c.args.body.now = x.2 ∙ ap (λ (y : Building). leaf_begun y x.0 c.args.key c.args.body.now) closed in
    put_next b c.put_first-2.new.self child x.0 c.args.key c.args.body.now (sym (ap (λ (x : Building). x.hand) c.self.view_is) ∙ c.in-Some.is) c.requires.order full c.in_ok-close_leaf.ensures.read at is)
    c.put_first-2.ensures.begun

pub returns-clause-out : goal.returns-clause-out
returns-clause-out c = λ items holds is.
    let b : Building = c.args.self.now in
    let child : Child = c.in-Some.child in
    let full : room b.made.draft < ITEM_SIZE + length c.args.body.now = omega (arith, c.if-body-room.false, c.room.ensures, ap (λ (x : Building). room x.made.draft) c.self.view_is) in
    next_short b child c.args.key c.args.body.now items holds (sym (ap (λ (x : Building). x.hand) c.self.view_is) ∙ c.in-Some.is) full
    (subst (λ (x : Building). length x.made.slots ≤ taken x.made) c.in_ok-close_leaf.ensures.ok (c.put_first-2.ensures.out is))
