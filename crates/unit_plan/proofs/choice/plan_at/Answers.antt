use Rattle.unit_plan.proofs.Imports.{◌<◌, sym, ap, subst, arith, All, AllPairs, usable_units, units_in}
use Rattle.unit_plan.proofs.Enough.{range_below, others_below}
use Rattle.unit_plan.proofs.Sound.{spare_ascend, spare_few}
use Rattle.unit_plan.proofs.choice.plan_at.Goals as goal

pub spare_runs-requires-clause-system : goal.spare_runs-requires-clause-system
spare_runs-requires-clause-system c =
    subst (All (λ u. u < usable_units c.args.map.now)) (sym c.in_ok-system.ensures) (range_below c.args.first c.args.need.now.system (usable_units c.args.map.now) (omega (arith, c.requires.inside)))

pub spare_runs-requires-clause-metadata : goal.spare_runs-requires-clause-metadata
spare_runs-requires-clause-metadata c =
    subst (All (λ u. u < usable_units c.args.map.now)) (sym c.in_ok-metadata.ensures) (others_below c.args.map.now c.args.first c.args.need.now.system 0 c.args.need.now.metadata)

pub spare_runs-requires-clause-data_ : goal.spare_runs-requires-clause-data_
spare_runs-requires-clause-data_ c =
    subst (All (λ u. u < usable_units c.args.map.now)) (sym c.in_ok-data_.ensures) (others_below c.args.map.now c.args.first c.args.need.now.system c.args.need.now.metadata c.args.need.now.data_)

pub staying-requires-clause-small : goal.staying-requires-clause-small
staying-requires-clause-small c =
    omega (arith, ap units_in c.in_ok-spare.ensures.exact, spare_few c.args.map.now c.in_ok-system.system c.in_ok-metadata.metadata c.in_ok-data_.data_, c.in_ok-spare.ensures.small)

pub staying-requires-clause-ascending : goal.staying-requires-clause-ascending
staying-requires-clause-ascending c =
    subst (AllPairs (λ r s. r.first < s.first)) (sym c.in_ok-spare.ensures.exact) (spare_ascend c.args.map.now c.in_ok-system.system c.in_ok-metadata.metadata c.in_ok-data_.data_)
