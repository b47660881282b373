use Rattle.btr_check_names.proofs.Imports.{rules, IsPartitionPoint-from_clause, IsPartitionedBy-ltb, nat_lt, InodeAt}
use Rattle.btr_check_names.proofs.Numbering.{rises}
use Rattle.btr_check_names.proofs.inodes.first_from.Goals as goal

pub returns-clause-parts : goal.returns-clause-parts
returns-clause-parts c =
    IsPartitionPoint-from_clause (λ (i : InodeAt). nat_lt i.ino c.args.ino) _ _ c.partition_point.ensures.partitioned
    (IsPartitionedBy-ltb (λ (i : InodeAt). i.ino) c.args.inodes.now c.args.ino (rises c.args.inodes.now c.requires)) (λ a r q k. search rules)
