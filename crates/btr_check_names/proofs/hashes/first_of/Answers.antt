use Rattle.btr_check_names.proofs.Imports.{rules, IsPartitionPoint-from_clause, is_lt, nat_cmp, parted_lt}
use Rattle.btr_check_names.proofs.Hashing.{rises}
use Rattle.btr_check_names.proofs.hashes.first_of.Goals as goal

pub returns-clause-parts : goal.returns-clause-parts
returns-clause-parts c =
    IsPartitionPoint-from_clause (λ k. is_lt (nat_cmp k.hash c.args.hash)) _ _ c.partition_point.ensures.partitioned
    (parted_lt (λ k. nat_cmp k.hash c.args.hash) c.args.keys.now (rises c.args.keys.now c.args.hash c.requires)) (λ a r q k. search rules)
