use Rattle.btr_tree.proofs.Imports.{take, subst, WritesOnly, taken, Building, IsInSlots}
use Rattle.btr_tree.proofs.builder.TreeBuilder.complete_levels.Goals as goal

pub returns-clause-only : goal.returns-clause-only
returns-clause-only g c = λ tells.
    subst (λ (x : Building). WritesOnly (λ b _. IsInSlots x.made.form.nodesize (take (taken c.climb.new.nodes) x.made.offsets) b) (g.D.Disk.history c.args.disk.now) (g.D.Disk.history c.climb.new.disk)) c.self.view_is
    (c.climb.ensures.only tells)
