use Rattle.btr_reader.proofs.Imports.{[], ◌∷◌, ◌++◌, ◌∙◌, ap, MapRange}
use Rattle.btr_reader.proofs.MapBlocks.{added_inside}
use Rattle.btr_reader.proofs.chunk.add_chunk.Goals as goal

pub returns-clause-inside : goal.returns-clause-inside
returns-clause-inside c =
    added_inside c.args.device c.args.ranges.now.items _ c.args.c.now c.requires.inside c.in_ok-check_chunk.ensures.lies
    (c.in_ok-push_range.ensures.ok ∙ ap (λ (r : MapRange). c.args.ranges.now.items ++ r ∷ []) c.range_of.ensures)
