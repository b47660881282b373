use Rattle.extent_pieces.proofs.Imports.{leb, rules, leb-true, leb-false, IsPartitionPoint-from_clause, IsPartitionedBy-leb}
use Rattle.extent_pieces.proofs.Owning.{first_rises}
use Rattle.extent_pieces.proofs.owned.begun.Goals as goal

pub returns-clause-parts : goal.returns-clause-parts
returns-clause-parts c = λ owner tells.
    let parts =
    IsPartitionPoint-from_clause (λ r. leb r.first c.args.b) c.args.runs.now c.partition_point.result c.partition_point.ensures.partitioned
    (IsPartitionedBy-leb (λ r. r.first) c.args.runs.now c.args.b (first_rises c.args.runs.now tells.ascending)) (λ a r q k. search rules) in
    ((λ k d low high. leb-true _ c.args.b (parts.0 k d low high)), (λ k d low high. leb-false _ c.args.b (parts.1 k d low high)))
