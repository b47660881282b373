use Rattle.btr_node.proofs.Imports.{◌-◌, false, ap, refl, arith, HEADER_SIZE, Expect}
use Rattle.csum_kinds.specs.declared.kind.SumKind.TheVariants.{Crc32c}
use Rattle.btr_node.proofs.Holding.{start_steps, head_spelled}
use Rattle.btr_node.proofs.NodeBack.{size_within}
use Rattle.btr_node.proofs.Putting.{zeros}
use Rattle.btr_node.proofs.writer.NodeWriter.new.Goals as goal

abbrev nothing : Expect
nothing = record { address = 0; fsid = zeros 16; owner = 0; level = 0; generation = 0; sums = Crc32c }

pub invariant_of-result : goal.invariant_of-result
invariant_of-result c =
    let size = size_within c.args.nodesize c.requires in
    let spelled = head_spelled c.args.nodesize false nothing (zeros 16) refl (omega arith) refl (omega arith) (omega arith) (omega arith) in
    (start_steps c.in_ok-zeroed.field-0.items c.args.nodesize (c.args.nodesize - HEADER_SIZE) false nothing (zeros 16) c.in_ok-zeroed.ensures c.requires (omega (arith, size.0)) spelled).holds

pub returns : goal.returns
returns c =
    let size = size_within c.args.nodesize c.requires in
    let spelled = head_spelled c.args.nodesize false nothing (zeros 16) refl (omega arith) refl (omega arith) (omega arith) (omega arith) in
    let is = (start_steps c.in_ok-zeroed.field-0.items c.args.nodesize (c.args.nodesize - HEADER_SIZE) false nothing (zeros 16) c.in_ok-zeroed.ensures c.requires (omega (arith, size.0)) spelled).is in
    record {
      size = ap (λ d. d.nodesize) is;
      idle = refl;
      no_items = ap (λ d. d.items) is;
      no_children = ap (λ d. d.children) is;
    }
