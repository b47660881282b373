use Rattle.btr_tree.proofs.Imports.{ℕ, ◌+◌, [], sym, ◌∙◌, ap, Made, flushed}
use Rattle.btr_tree.proofs.PiecesOf.{length-pieces_of}
use Rattle.btr_tree.proofs.nodes.Nodes.let_go.Goals as goal

pub returns : goal.returns
returns c =
    let made : ℕ → Made = λ held. record {
      form = c.self.inside.form;
      owner = c.self.inside.owner;
      generation = c.self.inside.generation;
      chunk_tree = c.self.inside.chunk_tree;
      slots = c.self.inside.slots.addresses;
      offsets = c.self.inside.slots.offsets;
      written = c.self.inside.written + held;
      nodes = [];
      draft = c.self.inside.writer;
    } in
    ap made (sym (length-pieces_of c.self.inside.form.nodesize c.self.inside.held c.self.inside.bytes.items)) ∙ ap flushed c.self.view_is
