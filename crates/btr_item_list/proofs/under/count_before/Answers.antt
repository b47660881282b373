use Rattle.btr_item_list.proofs.Imports.{nat_lt, sym, rules, IsPartitionPoint-from_clause, Spot}
use Rattle.btr_item_list.proofs.Before.{count_at, parted}
use Rattle.btr_item_list.proofs.under.count_before.Goals as goal

pub returns-clause-count : goal.returns-clause-count
returns-clause-count c ascend =
    sym (count_at (λ (spot : Spot). nat_lt spot.number c.args.number) c.args.spots.now c.partition_point.result c.partition_point.ensures.bound
    (IsPartitionPoint-from_clause (λ (spot : Spot). nat_lt spot.number c.args.number) _ _ c.partition_point.ensures.partitioned (parted c.args.spots.now c.args.number ascend) (λ a r q k. search rules)))
