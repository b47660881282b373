use Rattle.btr_reader_contents.proofs.Imports.{sym, ◌∙◌, place}
use Rattle.btr_reader_contents.proofs.Places.{not_placed}
use Rattle.btr_reader_contents.proofs.blocks.read_place.Goals as goal

pub returns-in-None-clause-block : goal.returns-in-None-clause-block
returns-in-None-clause-block g c = λ tells image is. c.zero.ensures ∙ not_placed image (place c.args.ranges.now c.args.address) (sym c.in-None.is ∙ c.block_of.ensures.block)
