use Rattle.btr_tree.proofs.Imports.{◌++◌, ◌∷◌, [], List, Result, Ok, Err, sym, ap, subst, OnOk, reads, Item, Made, Building, Holds, IsReady, Stands, all_made, told_nodes, Inside}
use Rattle.btr_tree.proofs.Fronts.{TakenOnly}
use Rattle.btr_tree.proofs.Standing.{standing_spent}
use Rattle.btr_tree.proofs.builder.TreeBuilder.push.Goals as goal

on_ok_map : {T E : Type 0} (r : Result T E) (P Q : Type 0) → (P → Q) → OnOk r P → OnOk r Q
on_ok_map (Ok x) P Q turn h = turn h
on_ok_map (Err e) P Q turn h = tt

abbrev seen : Inside → Building
seen i = record { made = i.nodes; children = i.children.items; hand = i.hand; spent = i.spent; done = i.done }

pub returns-clause-stands : goal.returns-clause-stands
returns-clause-stands g c = λ tells.
    let b : Building = seen c.self.inside in
    let new : Building = record b { spent = c.is_err-self-inside.result } in
    on_ok_map c.push_item-result.result (Stands c.push_item-result.new.self (reads (g.D.Disk.history c.push_item-result.new.disk))) (Stands new (reads (g.D.Disk.history c.push_item-result.new.disk)))
    (λ h.
    standing_spent (all_made b (told_nodes b (reads (g.D.Disk.history c.push_item-result.new.disk)))) c.is_err-self-inside.result b.done
    (subst (λ (x : Building). Stands x (reads (g.D.Disk.history c.push_item-result.new.disk))) (sym c.self.view_is) h))
    (c.push_item-result.ensures.stands tells)

pub returns-clause-holds : goal.returns-clause-holds
returns-clause-holds g c = λ items holds.
    let b : Building = seen c.self.inside in
    let new : Building = record b { spent = c.is_err-self-inside.result } in
    let all : List Item = items ++ (c.args.key, c.args.body.now) ∷ [] in
    on_ok_map c.push_item-result.result (Holds c.push_item-result.new.self all) (Holds new all)
    (λ h.
    let there : Holds b all = subst (λ (x : Building). Holds x all) (sym c.self.view_is) h in
    record {
      front = there.front;
      count = there.count;
      standing = standing_spent (all_made b there.front) c.is_err-self-inside.result b.done there.standing;
      pushed_is = there.pushed_is;
    })
    (c.push_item-result.ensures.holds items holds)

pub returns-clause-ready : goal.returns-clause-ready
returns-clause-ready g c =
    let items : List Item = c.requires.ready.0 in
    on_ok_map c.push_item-result.result (Holds _ (items ++ (c.args.key, c.args.body.now) ∷ [])) (IsReady _) (λ h. (_, h)) (returns-clause-holds g c items c.requires.ready.1)

pub returns-clause-only : goal.returns-clause-only
returns-clause-only g c = λ tells.
    subst (λ (m : Made). TakenOnly c.args.self.now.made m (g.D.Disk.history c.args.disk.now) (g.D.Disk.history c.push_item-result.new.disk)) (sym (ap (λ (b : Building). b.made) c.self.view_is))
    (c.push_item-result.ensures.only tells)
