use Rattle.btr_reader.proofs.Imports.{leb, rules, IsPartitionPoint-from_clause, MappedExtent}
use Rattle.btr_reader.proofs.Searching.{begun_first}
use Rattle.btr_reader.proofs.image_place.begun.Goals as goal

pub returns-clause-parts : goal.returns-clause-parts
returns-clause-parts c = IsPartitionPoint-from_clause (λ (p : MappedExtent). leb p.first c.args.b) _ _ c.partition_point.ensures.partitioned (begun_first c.args.pieces.now c.args.b c.requires) (λ a r q k. search rules)
