use Rattle.btr_tree.proofs.Imports.{sym, ap, subst, Made, Building}
use Rattle.btr_tree.proofs.Fronts.{TakenOnly}
use Rattle.btr_tree.proofs.builder.TreeBuilder.finish.Goals as goal

pub returns-clause-only : goal.returns-clause-only
returns-clause-only g c = λ tells.
    subst (λ (m : Made). TakenOnly c.args.self.now.made m (g.D.Disk.history c.args.disk.now) (g.D.Disk.history c.write_tree-result.new.disk)) (sym (ap (λ (b : Building). b.made) c.self.view_is))
    (c.write_tree-result.ensures.only tells)
