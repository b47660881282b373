use Rattle.extent_pieces.proofs.Imports.{◌+◌, ◌*◌, ◌/◌, ◌%◌, ◌∙◌, Some, Option, ℕ, ap, arith, slice_get-get_or, get_or_from_slice_get, blocks_of_units}
use Rattle.extent_pieces.proofs.Placing.{get_or-blocks, length-blocks}
use Rattle.extent_pieces.proofs.place.data_block.Goals as goal

pub returns : goal.returns
returns c =
    slice_get-get_or (blocks_of_units c.args.units.now) c.args.i 0 (omega (arith, length-blocks c.args.units.now, c.requires.inside))
    ∙ ap (λ (n : ℕ). let o : Option ℕ = Some n in o)
    (get_or-blocks c.args.units.now c.args.i c.requires.inside
    ∙ ap (λ (u : ℕ). 256 * u + c.args.i % 256) (get_or_from_slice_get c.args.units.now (c.args.i / 256) c.get-unit.result 0 c.get-unit.ensures))
