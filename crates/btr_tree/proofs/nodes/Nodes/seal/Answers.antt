use Rattle.btr_tree.proofs.Imports.{◌≡◌, ℕ, suc, ◌+◌, ◌*◌, ◌<◌, ◌++◌, ◌∷◌, [], List, length, sym, ◌∙◌, ap, subst, arith, length-append, mul-suc, Draft, IsDraft, node_bytes, Made, pieces_of, taken, with_node}
use Rattle.btr_tree.proofs.PiecesOf.{length-pieces_of, pieces_of-push}
use Rattle.btr_tree.proofs.nodes.Nodes.seal.Goals as goal

one_more : (n k : ℕ) → n * (k + 1) ≡ n * k + n
one_more n k = let next : k + 1 ≡ suc k = omega arith in rw next (mul-suc n k)

pub append_node-requires-clause-right : goal.append_node-requires-clause-right
append_node-requires-clause-right c = c.self.invariant.right (ap (λ (m : Made). m.draft.started) c.self.view_is ∙ c.requires.started)

pub invariant_of-self : goal.invariant_of-self
invariant_of-self c =
    let n : ℕ = c.self.inside.form.nodesize in
    let nodes : length (pieces_of n c.self.inside.held c.self.inside.bytes.items) ≡ c.self.inside.held = length-pieces_of n c.self.inside.held c.self.inside.bytes.items in
    let held : length (pieces_of n c.self.inside.held c.self.inside.bytes.items) < 16 = omega (arith, c.requires.batch, ap (λ (m : Made). length m.nodes) c.self.view_is) in
    let count : c.self.inside.written + length (pieces_of n c.self.inside.held c.self.inside.bytes.items) < length c.self.inside.slots.addresses =
    omega (arith, c.requires.slot, ap taken c.self.view_is, ap (λ (m : Made). length m.slots) c.self.view_is) in
    record {
      size = c.self.invariant.size;
      same = ap (λ (d : Draft). d.nodesize) c.append_node.ensures.same ∙ c.self.invariant.same;
      whole =
          ap length c.append_node.ensures.appended
          ∙ (length-append c.self.inside.bytes.items (node_bytes c.self.inside.writer)
          ∙ omega (arith, c.self.invariant.whole, c.self.invariant.same, c.append_node.ensures.read.size, one_more n c.self.inside.held));
      few = omega (arith, count, nodes);
      as_many = c.self.invariant.as_many;
      small = c.self.invariant.small;
      batch = omega (arith, held, nodes);
      room_is = omega (arith, c.self.invariant.room_is, c.append_node.ensures.room);
      right = λ started. subst (λ (d : Draft). IsDraft d) (sym c.append_node.ensures.same) c.append_node.ensures.read.right;
    }

pub returns-clause-made : goal.returns-clause-made
returns-clause-made c =
    let n : ℕ = c.self.inside.form.nodesize in
    let made : List (List ℕ) → Draft → Made = λ nodes draft. record {
      form = c.self.inside.form;
      owner = c.self.inside.owner;
      generation = c.self.inside.generation;
      chunk_tree = c.self.inside.chunk_tree;
      slots = c.self.inside.slots.addresses;
      offsets = c.self.inside.slots.offsets;
      written = c.self.inside.written;
      nodes = nodes;
      draft = draft;
    } in
    let size : length (node_bytes c.self.inside.writer) ≡ n = c.append_node.ensures.read.size ∙ c.self.invariant.same in
    let nodes : pieces_of n (c.self.inside.held + 1) c.append_node.new.bytes.items ≡ pieces_of n c.self.inside.held c.self.inside.bytes.items ++ node_bytes c.self.inside.writer ∷ [] =
    ap (pieces_of n (c.self.inside.held + 1)) c.append_node.ensures.appended
    ∙ pieces_of-push n c.self.inside.held c.self.inside.bytes.items (node_bytes c.self.inside.writer) c.self.invariant.whole size in
    ap (λ ns. made ns c.append_node.new.writer) nodes
    ∙ (ap (made (pieces_of n c.self.inside.held c.self.inside.bytes.items ++ node_bytes c.self.inside.writer ∷ [])) c.append_node.ensures.same
    ∙ ap (λ (m : Made). with_node m (node_bytes m.draft)) c.self.view_is)
