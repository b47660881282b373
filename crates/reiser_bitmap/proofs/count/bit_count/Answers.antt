use Rattle.reiser_bitmap.proofs.Imports.{◌+◌, ◌∙◌, ap, arith, sum_by, count_ones, take_all, sum_by-take-le}
use Rattle.reiser_bitmap.proofs.CountLemmas.{ones_are_bits, ones_more}
use Rattle.reiser_bitmap.proofs.count.bit_count.Goals as goal

pub overflow_add-count : goal.overflow_add-count
overflow_add-count c =
    omega (
      arith,
      c.loop-byte.invariant,
      ones_more c.args.bytes.now c.loop-byte.byte-index c.loop-byte-test.true,
      sum_by-take-le count_ones c.args.bytes.now (c.loop-byte.byte-index + 1),
      ones_are_bits c.args.bytes.now (λ i. omega (arith, c.type_inv.bytes i)),
    )

pub returns : goal.returns
returns c =
    c.loop-byte.invariant ∙ (ap (sum_by count_ones) (take_all c.loop-byte.byte-index c.args.bytes.now c.loop-byte-test.false) ∙ ones_are_bits c.args.bytes.now (λ i. omega (arith, c.type_inv.bytes i)))
