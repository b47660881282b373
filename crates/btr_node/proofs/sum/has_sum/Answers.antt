use Rattle.btr_node.proofs.Imports.{take, ap, ◌∙◌, arith, length-take, take_rest, CSUM_SIZE, kind_sum}
use Rattle.std.specs.Str.{bytes_eq}
use Rattle.btr_node.proofs.sum.has_sum.Goals as goal

pub slice_bounds-eq-end : goal.slice_bounds-eq-end
slice_bounds-eq-end c = omega (arith, length-take CSUM_SIZE c.args.bytes.now)

pub returns : goal.returns
returns c =
    c.eq.ensures
    ∙ ap (bytes_eq (take CSUM_SIZE c.args.bytes.now)) (c.as_slice.ensures ∙ c.kind_sum.ensures ∙ ap (kind_sum c.args.sums) (take_rest c.args.bytes.now CSUM_SIZE))
