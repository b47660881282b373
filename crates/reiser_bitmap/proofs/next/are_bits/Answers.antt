use Rattle.reiser_bitmap.proofs.Imports.{◌≡◌, ◌+◌, ◌*◌, Bool, true, sym, subst, is_bit}
use Rattle.reiser_bitmap.proofs.Ends.{ones_are_bits}
use Rattle.reiser_bitmap.proofs.next.are_bits.Goals as goal

pub returns-then-bit : goal.returns-then-bit
returns-then-bit c = λ all i h. subst (λ (b : Bool). is_bit c.args.bytes.now b (8 * c.args.at + i) ≡ true) (sym c.if-bit.true) (ones_are_bits c.args.bytes.now c.args.at (c.are_ones.ensures all) i h)
