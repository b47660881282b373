use Rattle.btr_tree.proofs.Imports.{◌++◌, ◌∷◌, [], length, get_or, sym, ◌∙◌, ap, arith, slice_get_within, first_keys, ascends, Child, Made, taken}
use Rattle.btr_tree.proofs.Raising.{front_ascends}
use Rattle.btr_tree.proofs.parents.make_parent.Goals as goal

abbrev no_child : Child
no_child = record { key = record { objectid = 0; kind = 0; offset = 0 }; address = 0; generation = 0 }

pub put_child-requires-clause-order : goal.put_child-requires-clause-order
put_child-requires-clause-order c =
    ap (λ (m : Made). ascends (first_keys m.draft.children ++ (get_or c.args.part.now c.loop-child.child-index no_child).key ∷ [])) c.loop-child.invariant
    ∙ front_ascends c.args.part.now c.loop-child.child-index no_child c.requires.order c.loop-child-test.true

pub seal-requires-clause-slot : goal.seal-requires-clause-slot
seal-requires-clause-slot c =
    let inside = slice_get_within c.args.nodes.now.slots (taken c.args.nodes.now) c.in-Some.address (sym c.next_slot.ensures ∙ c.in-Some.is) in
    omega (arith, inside, ap (λ (m : Made). length m.nodes) c.loop-child.invariant, ap (λ (m : Made). m.written) c.loop-child.invariant, ap (λ (m : Made). length m.slots) c.loop-child.invariant)
