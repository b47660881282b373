use Rattle.btr_tree_writer.proofs.Imports.{identity, maps_itself}
use Rattle.btr_tree_writer.proofs.write.write_tree.Goals as goal

pub returns-clause-tree : goal.returns-clause-tree
returns-clause-tree g c = (rw c.in_place.ensures at c.write_tree_at.ensures.tree) identity (maps_itself c.args.form.nodesize c.args.slots c.requires.size c.requires.slots)

pub returns-clause-whole : goal.returns-clause-whole
returns-clause-whole g c = (rw c.in_place.ensures at c.write_tree_at.ensures.whole) identity (maps_itself c.args.form.nodesize c.args.slots c.requires.size c.requires.slots)

pub returns-clause-only : goal.returns-clause-only
returns-clause-only g c = rw c.in_place.ensures at c.write_tree_at.ensures.only
