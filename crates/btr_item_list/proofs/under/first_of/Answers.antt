use Rattle.btr_item_list.proofs.Imports.{is_lt, rules, nat_cmp, IsPartitionPoint-from_clause, parted_lt}
use Rattle.btr_item_list.proofs.Parting.{rises}
use Rattle.btr_item_list.proofs.under.first_of.Goals as goal

pub returns-clause-parts : goal.returns-clause-parts
returns-clause-parts c =
    IsPartitionPoint-from_clause (λ spot. is_lt (nat_cmp spot.of c.args.of)) _ _ c.partition_point.ensures.partitioned
    (parted_lt (λ spot. nat_cmp spot.of c.args.of) c.args.spots.now (rises c.args.spots.now c.args.of c.requires)) (λ a r q k. search rules)
