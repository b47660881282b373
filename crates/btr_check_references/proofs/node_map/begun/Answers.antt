use Rattle.btr_check_references.proofs.Imports.{leb, rules, IsPartitionPoint-from_clause, NodeRange}
use Rattle.btr_check_references.proofs.Blocks.{begun_first}
use Rattle.btr_check_references.proofs.node_map.begun.Goals as goal

pub returns-clause-parts : goal.returns-clause-parts
returns-clause-parts c = IsPartitionPoint-from_clause (λ (r : NodeRange). leb r.first c.args.block) _ _ c.partition_point.ensures.partitioned (begun_first c.args.ranges.now c.args.block c.requires) (λ a r q k. search rules)
