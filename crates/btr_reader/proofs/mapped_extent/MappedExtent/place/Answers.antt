use Rattle.btr_reader.proofs.Imports.{◌<◌, ◌*◌, sym, ◌∙◌, arith}
use Rattle.btr_reader_walk.proofs.Mapping.{place_within}
use Rattle.btr_reader.proofs.mapped_extent.MappedExtent.place.Goals as goal

pub overflow_cast-result : goal.overflow_cast-result
overflow_cast-result c =
    let within : c.in-Some.at < 4096 * c.args.device = place_within c.args.device c.args.ranges.now _ c.in-Some.at c.requires (sym c.place.ensures ∙ c.in-Some.is) in
    omega (arith, within)

pub returns-in-Some-clause-inside : goal.returns-in-Some-clause-inside
returns-in-Some-clause-inside c =
    let within : c.in-Some.at < 4096 * c.args.device = place_within c.args.device c.args.ranges.now _ c.in-Some.at c.requires (sym c.place.ensures ∙ c.in-Some.is) in
    omega (arith, within)
