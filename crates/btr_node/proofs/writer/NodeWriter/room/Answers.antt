use Rattle.btr_node.proofs.Imports.{ap, ◌∙◌, arith, room}
use Rattle.btr_node.proofs.Holding.{room_of}
use Rattle.btr_node.proofs.writer.NodeWriter.room.Goals as goal

pub overflow_mul-result : goal.overflow_mul-result
overflow_mul-result c =
    let known = room_of c.self.inside.buffer.items c.self.inside.low c.self.inside.started c.self.inside.want c.self.inside.chunk_tree c.self.inside.items c.self.inside.children c.self.invariant in
    omega (arith, known.entries, known.low_within, known.small)

pub overflow_sub-result : goal.overflow_sub-result
overflow_sub-result c =
    let known = room_of c.self.inside.buffer.items c.self.inside.low c.self.inside.started c.self.inside.want c.self.inside.chunk_tree c.self.inside.items c.self.inside.children c.self.invariant in
    omega (arith, known.entries)

pub overflow_mul-result-2 : goal.overflow_mul-result-2
overflow_mul-result-2 c =
    let known = room_of c.self.inside.buffer.items c.self.inside.low c.self.inside.started c.self.inside.want c.self.inside.chunk_tree c.self.inside.items c.self.inside.children c.self.invariant in
    omega (arith, known.entries, known.low_within, known.small)

pub overflow_sub-result-2 : goal.overflow_sub-result-2
overflow_sub-result-2 c =
    let known = room_of c.self.inside.buffer.items c.self.inside.low c.self.inside.started c.self.inside.want c.self.inside.chunk_tree c.self.inside.items c.self.inside.children c.self.invariant in
    omega (arith, known.entries)

pub returns : goal.returns
returns c =
    let known = room_of c.self.inside.buffer.items c.self.inside.low c.self.inside.started c.self.inside.want c.self.inside.chunk_tree c.self.inside.items c.self.inside.children c.self.invariant in
    known.room_is ∙ ap room c.self.view_is
