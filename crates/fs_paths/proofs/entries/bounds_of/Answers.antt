use Rattle.fs_paths.proofs.Imports.{node_cmp, is_of}
use Rattle.fs_paths.proofs.Middle.{in_order, middle_is}
use Rattle.fs_paths.proofs.Parting.{same_node_cmp}
use Rattle.fs_paths.proofs.entries.bounds_of.Goals as goal

pub returns-clause-ordered : goal.returns-clause-ordered
returns-clause-ordered c =
    in_order (λ link. node_cmp link.dir c.args.dir) c.args.links.now c.first_of.result c.end_of.result c.first_of.ensures.within c.end_of.ensures.within c.first_of.ensures.parts c.end_of.ensures.parts

pub returns-clause-between : goal.returns-clause-between
returns-clause-between c =
    middle_is (λ link. node_cmp link.dir c.args.dir) c.args.links.now c.first_of.result c.end_of.result c.first_of.ensures.within c.end_of.ensures.within c.first_of.ensures.parts c.end_of.ensures.parts
    (is_of c.args.dir) (λ link. same_node_cmp link.dir c.args.dir)
