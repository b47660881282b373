use Rattle.btr_tree.proofs.Imports.{ℕ, ◌+◌, drop, sym, ◌∙◌, ap, Made, taken}
use Rattle.btr_tree.specs.Slots.{SlotLists}
use Rattle.btr_tree.proofs.PiecesOf.{length-pieces_of}
use Rattle.btr_tree.proofs.nodes.Nodes.rest.Goals as goal

pub returns : goal.returns
returns c =
    c.without_first.ensures
    ∙ (ap (λ (n : ℕ). let s : SlotLists = record { addresses = drop (c.self.inside.written + n) c.self.inside.slots.addresses; offsets = drop (c.self.inside.written + n) c.self.inside.slots.offsets } in s) (sym (length-pieces_of c.self.inside.form.nodesize c.self.inside.held c.self.inside.bytes.items))
    ∙ ap (λ (m : Made). let s : SlotLists = record { addresses = drop (taken m) m.slots; offsets = drop (taken m) m.offsets } in s) c.self.view_is)
