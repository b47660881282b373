use Rattle.reiser_bitmap.proofs.Imports.{arith, eq-eqb, eqb-true}
use Rattle.reiser_bitmap.proofs.Zeros.{lanes_from_zeros, zeros_from_lanes, no_bits_from_zeros, zeros_from_no_bits}
use Rattle.reiser_bitmap.proofs.units.has_no_bits.Goals as goal

pub returns : goal.returns
returns c = (
  λ is. no_bits_from_zeros c.args.bytes.now c.args.at (zeros_from_lanes c.args.bytes.now c.args.at (eqb-true _ 0 is)),
  λ none. eq-eqb _ 0 (lanes_from_zeros c.args.bytes.now c.args.at (zeros_from_no_bits c.args.bytes.now c.args.at (λ i. omega (arith, c.type_inv.bytes i)) none)),
)
