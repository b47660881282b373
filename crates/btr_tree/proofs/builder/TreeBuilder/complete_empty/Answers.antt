use Rattle.btr_tree.proofs.Imports.{◌≡◌, ℕ, [], sym, ◌∙◌, ap, subst, refl, slice_get, node_bytes, Made, with_written, begun_at, with_node, NodeReadsBack, Building, IsNextTaken, IsNextSlot, all_made}
use Rattle.btr_tree.proofs.Completing.{completed_empty}
use Rattle.btr_tree.proofs.RaisingFronts.{whole_count}
use Rattle.btr_tree.proofs.builder.TreeBuilder.complete_empty.Goals as goal

pub returns-clause-done : goal.returns-clause-done
returns-clause-done c =
    let b : Building = c.args.self.now in
    let a : ℕ = c.in-Some.address in
    let made : c.self.inside.nodes ≡ b.made = ap (λ (x : Building). x.made) c.self.view_is in
    let taken_next : IsNextTaken b.made a = subst (λ (m : Made). IsNextTaken m a) made (sym c.next_slot.ensures ∙ c.in-Some.is) in
    let at : IsNextSlot (with_written b.made []) a = ap (slice_get b.made.slots) (sym (whole_count b.made [] (sym c.requires.none.1))) ∙ taken_next in
    let begun : c.begin.new.self ≡ begun_at b.made 0 a = c.begin.ensures ∙ ap (λ (m : Made). begun_at m 0 a) made in
    let read : NodeReadsBack (begun_at b.made 0 a).draft (node_bytes (begun_at b.made 0 a).draft) = subst (λ (m : Made). NodeReadsBack m.draft (node_bytes m.draft)) begun c.seal.ensures.read in
    let sealed : c.seal.new.self ≡ with_node (begun_at b.made 0 a) (node_bytes (begun_at b.made 0 a).draft) = c.seal.ensures.made ∙ ap (λ (m : Made). with_node m (node_bytes m.draft)) begun in
    let none : c.seal.new.self.written ≡ 0 = ap (λ (m : Made). m.written) sealed ∙ c.requires.none.1 in
    completed_empty c.leaves_give_items.ensures c.subtrees_are_trees.ensures (all_made b [])
    (record { made = with_written c.seal.new.self []; children = c.self.inside.children.items; hand = c.self.inside.hand; spent = c.self.inside.spent; done = c.self.inside.done })
    (record { address = a; level = 0; nodes = c.len.result }) a c.requires.none.0 c.requires.no_items at read (ap (λ (m : Made). with_written m []) sealed) refl refl
    (c.len.ensures ∙ whole_count c.seal.new.self [] (sym none))
