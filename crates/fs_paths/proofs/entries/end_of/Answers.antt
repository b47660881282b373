use Rattle.fs_paths.proofs.Imports.{is_le, rules, IsPartitionPoint-from_clause, node_cmp}
use Rattle.fs_paths.proofs.Middle.{parted_le}
use Rattle.fs_paths.proofs.Parting.{rises}
use Rattle.fs_paths.proofs.entries.end_of.Goals as goal

pub returns-clause-parts : goal.returns-clause-parts
returns-clause-parts c =
    IsPartitionPoint-from_clause (λ link. is_le (node_cmp link.dir c.args.dir)) _ _ c.partition_point.ensures.partitioned
    (parted_le (λ link. node_cmp link.dir c.args.dir) c.args.links.now (rises c.args.links.now c.args.dir c.requires)) (λ a r q k. search rules)
