use Rattle.btr_node.proofs.Imports.{refl, subst, length, ap, ◌∙◌, arith, IsDraft, node_bytes, children_in, items_in}
use Rattle.btr_node.proofs.Holding.{room_of, finish_steps, sealed_is}
use Rattle.btr_node.proofs.NodeBack.{length-node_bytes, leaf_back, leaf_items, inner_back, inner_children}
use Rattle.btr_node.proofs.writer.NodeWriter.finish.Goals as goal

pub overflow_add-head : goal.overflow_add-head
overflow_add-head c =
    let known = room_of c.self.inside.buffer.items c.self.inside.low c.self.inside.started c.self.inside.want c.self.inside.chunk_tree c.self.inside.items c.self.inside.children c.self.invariant in
    omega (arith, known.entries, known.low_within, known.small)

pub overflow_cast-head : goal.overflow_cast-head
overflow_cast-head c =
    let known = room_of c.self.inside.buffer.items c.self.inside.low c.self.inside.started c.self.inside.want c.self.inside.chunk_tree c.self.inside.items c.self.inside.children c.self.invariant in
    omega (arith, known.entries, known.low_within, known.small)

pub seal-requires : goal.seal-requires
seal-requires c =
    let known = room_of c.self.inside.buffer.items c.self.inside.low c.self.inside.started c.self.inside.want c.self.inside.chunk_tree c.self.inside.items c.self.inside.children c.self.invariant in
    omega (arith, known.large)

pub invariant_of-self : goal.invariant_of-self
invariant_of-self c =
    let bytes = sealed_is c.self.inside.buffer.items c.seal.new.buffer.items c.self.inside.low c.self.inside.started c.self.inside.want c.self.inside.chunk_tree c.self.inside.items c.self.inside.children c.self.invariant c.seal.ensures in
    (finish_steps c.self.inside.buffer.items c.seal.new.buffer.items c.self.inside.low c.self.inside.started c.self.inside.want c.self.inside.chunk_tree c.self.inside.items c.self.inside.children c.self.invariant bytes).holds

pub returns : goal.returns
returns c =
    let bytes = sealed_is c.self.inside.buffer.items c.seal.new.buffer.items c.self.inside.low c.self.inside.started c.self.inside.want c.self.inside.chunk_tree c.self.inside.items c.self.inside.children c.self.invariant c.seal.ensures in
    let read = c.as_slice.ensures.value ∙ bytes ∙ ap node_bytes c.self.view_is in
    let kept = finish_steps c.self.inside.buffer.items c.seal.new.buffer.items c.self.inside.low c.self.inside.started c.self.inside.want c.self.inside.chunk_tree c.self.inside.items c.self.inside.children c.self.invariant bytes in
    let draft : IsDraft c.args.self.now = subst IsDraft c.self.view_is c.self.invariant.right in (
      (refl, λ _. tt, kept.is ∙ c.self.view_is),
      record {
        bytes = read;
        size = ap length read ∙ length-node_bytes c.args.self.now draft;
        leaf = λ leaf. rw read (leaf_back c.args.self.now draft leaf);
        items = λ leaf. ap items_in read ∙ leaf_items c.args.self.now draft leaf;
        inner = λ inner. rw read (inner_back c.args.self.now draft inner (c.requires.children inner));
        links = λ inner. ap children_in read ∙ inner_children c.args.self.now draft inner;
        after = tt;
      },
    )
