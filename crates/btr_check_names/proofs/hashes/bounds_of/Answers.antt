use Rattle.btr_check_names.proofs.Imports.{nat_cmp, in_order, middle_is, has_hash}
use Rattle.btr_check_names.proofs.Hashing.{same_cmp}
use Rattle.btr_check_names.proofs.hashes.bounds_of.Goals as goal

pub returns-clause-ordered : goal.returns-clause-ordered
returns-clause-ordered c =
    in_order (λ k. nat_cmp k.hash c.args.hash) c.args.keys.now c.first_of.result c.end_of.result c.first_of.ensures.within c.end_of.ensures.within c.first_of.ensures.parts c.end_of.ensures.parts

pub returns-clause-between : goal.returns-clause-between
returns-clause-between c =
    middle_is (λ k. nat_cmp k.hash c.args.hash) c.args.keys.now c.first_of.result c.end_of.result c.first_of.ensures.within c.end_of.ensures.within c.first_of.ensures.parts c.end_of.ensures.parts
    (has_hash c.args.hash) (λ k. same_cmp k.hash c.args.hash)
