use Rattle.reiser_bitmap.proofs.Imports.{◌≡◌, ◌+◌, ◌*◌, ◌/◌, ◌<◌, ◌≤◌, ℕ, Bool, true, false, sym, subst, arith, is_bit}
use Rattle.reiser_bitmap.proofs.Ends.{bits_more, end_is, other_bit}
use Rattle.reiser_bitmap.proofs.next.end_of_bits.Goals as goal

pub loop-b-preserved-then-are_bits : goal.loop-b-preserved-then-are_bits
loop-b-preserved-then-are_bits c = record {
  low = omega (arith, c.loop-b.invariant.low);
  high = omega (arith, c.if-end-b-ge64.true, c.loop-b.invariant.high);
  all = bits_more (is_bit c.args.bytes.now c.args.bit) c.args.from c.loop-b.b 64 c.loop-b.invariant.all (λ i h.
      let at : 8 * (c.loop-b.b / 8) + i ≡ c.loop-b.b + i = omega (arith, c.if-b-eq0.true) in
      subst (λ (k : ℕ). is_bit c.args.bytes.now c.args.bit k ≡ true) at (c.are_bits.ensures c.if-are_bits.true i h));
}

pub returns-else-has_bit-bit : goal.returns-else-has_bit-bit
returns-else-has_bit-bit c =
    end_is (is_bit c.args.bytes.now c.args.bit) c.args.from c.args.end c.loop-b.b (record {
      low = c.loop-b.invariant.low;
      high = c.loop-b.invariant.high;
      all = c.loop-b.invariant.all;
      stop = λ h. other_bit c.args.bytes.now c.args.bit c.loop-b.b c.has_bit.result c.has_bit.ensures c.if-has_bit-bit.false;
    })

pub returns : goal.returns
returns c =
    end_is (is_bit c.args.bytes.now c.args.bit) c.args.from c.args.end c.loop-b.b (record {
      low = c.loop-b.invariant.low;
      high = c.loop-b.invariant.high;
      all = c.loop-b.invariant.all;
      stop = λ h. absurd (omega (arith, c.loop-b-test.false));
    })
