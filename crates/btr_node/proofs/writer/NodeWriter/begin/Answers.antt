use Rattle.btr_node.proofs.Imports.{◌≡◌, ℕ, ◌+◌, ◌-◌, length, true, ap, ◌∙◌, arith, HEADER_SIZE, started_for}
use Rattle.btr_node.proofs.Holding.{room_of, start_steps, head_spelled}
use Rattle.btr_node.proofs.Putting.{length-zeros}
use Rattle.btr_node.proofs.writer.NodeWriter.begin.Goals as goal

pub invariant_of-self : goal.invariant_of-self
invariant_of-self c =
    let known = room_of c.self.inside.buffer.items c.self.inside.low c.self.inside.started c.self.inside.want c.self.inside.chunk_tree c.self.inside.items c.self.inside.children c.self.invariant in
    let n : ℕ = length c.self.inside.buffer.items in
    let placed : HEADER_SIZE + (c.len.result - HEADER_SIZE) ≡ n = omega (arith, known.large, ap length c.clear.ensures, length-zeros n) in
    let spelled = head_spelled n true c.args.want c.args.chunk_tree (omega arith) (omega arith) (omega arith) (omega arith) (omega arith) (omega arith) in
    let started = start_steps c.clear.new.buffer.items n (c.len.result - HEADER_SIZE) true c.args.want c.args.chunk_tree c.clear.ensures c.self.invariant.right.nodesize placed spelled in
    started.holds

pub returns : goal.returns
returns c =
    let known = room_of c.self.inside.buffer.items c.self.inside.low c.self.inside.started c.self.inside.want c.self.inside.chunk_tree c.self.inside.items c.self.inside.children c.self.invariant in
    let n : ℕ = length c.self.inside.buffer.items in
    let placed : HEADER_SIZE + (c.len.result - HEADER_SIZE) ≡ n = omega (arith, known.large, ap length c.clear.ensures, length-zeros n) in
    let spelled = head_spelled n true c.args.want c.args.chunk_tree (omega arith) (omega arith) (omega arith) (omega arith) (omega arith) (omega arith) in
    let started = start_steps c.clear.new.buffer.items n (c.len.result - HEADER_SIZE) true c.args.want c.args.chunk_tree c.clear.ensures c.self.invariant.right.nodesize placed spelled in
    started.is ∙ ap (λ d. started_for d.nodesize c.args.want c.args.chunk_tree) c.self.view_is
