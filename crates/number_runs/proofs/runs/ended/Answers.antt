use Rattle.number_runs.proofs.Imports.{arith, ltb, ltb-false, ltb-true, rules, IsPartitionPoint-from_clause, IsPartitionedBy-ltb}
use Rattle.number_runs.proofs.Finding.{lasts_ascend}
use Rattle.number_runs.proofs.runs.ended.Goals as goal

pub returns : goal.returns
returns c =
    let parts =
    IsPartitionPoint-from_clause (λ r. ltb r.last c.args.number) c.args.runs.now c.partition_point.result c.partition_point.ensures.partitioned
    (IsPartitionedBy-ltb (λ r. r.last) c.args.runs.now c.args.number (lasts_ascend c.args.runs.now c.requires)) (λ a r q k. search rules) in
    ((λ k d low high. ltb-true _ c.args.number (parts.0 k d low high)), (λ k d low high. let below = ltb-false _ c.args.number (parts.1 k d low high) in omega (arith, below)))
