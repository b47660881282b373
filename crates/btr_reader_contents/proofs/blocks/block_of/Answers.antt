use Rattle.btr_reader_contents.proofs.Imports.{sym, ◌∙◌, arith, place_within}
use Rattle.btr_reader_contents.proofs.blocks.block_of.Goals as goal

pub overflow_cast-result : goal.overflow_cast-result
overflow_cast-result c = omega (arith, place_within c.args.device c.args.ranges.now c.args.address c.in-Some.at c.requires (sym c.place.ensures ∙ c.in-Some.is), c.ranges.device.fits)

pub returns-in-Some-clause-within : goal.returns-in-Some-clause-within
returns-in-Some-clause-within c = omega (arith, place_within c.args.device c.args.ranges.now c.args.address c.in-Some.at c.requires (sym c.place.ensures ∙ c.in-Some.is))
