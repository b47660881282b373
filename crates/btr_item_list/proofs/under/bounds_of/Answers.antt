use Rattle.btr_item_list.proofs.Imports.{nat_cmp, in_order, middle_is, is_under}
use Rattle.btr_item_list.proofs.Parting.{same_cmp}
use Rattle.btr_item_list.proofs.under.bounds_of.Goals as goal

pub returns-clause-ordered : goal.returns-clause-ordered
returns-clause-ordered c =
    in_order (λ spot. nat_cmp spot.of c.args.of) c.args.spots.now c.first_of.result c.end_of.result c.first_of.ensures.within c.end_of.ensures.within c.first_of.ensures.parts c.end_of.ensures.parts

pub returns-clause-between : goal.returns-clause-between
returns-clause-between c =
    middle_is (λ spot. nat_cmp spot.of c.args.of) c.args.spots.now c.first_of.result c.end_of.result c.first_of.ensures.within c.end_of.ensures.within c.first_of.ensures.parts c.end_of.ensures.parts
    (is_under c.args.of) (λ spot. same_cmp spot.of c.args.of)
