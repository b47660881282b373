use Rattle.btr_reader.proofs.Imports.{nat_eq, contains, has_root, same_node, roots_on}
use Rattle.btr_reader.proofs.Answered.{checked_by}
use Rattle.btr_reader.proofs.volume.Btrfs.named.Goals as goal

pub returns-clause-named : goal.returns-clause-named
returns-clause-named c = λ image roots items noted.
    checked_by (λ named. contains same_node named) c.args.names.now c.check.result items c.args.root (contains nat_eq c.args.self.now.roots.numbers) (has_root (roots_on image c.args.self.now.sup c.args.self.now.ranges.items))
    (λ j number. roots.numbers number j)
    (c.check.ensures.named items noted) (c.check.ensures.kept items noted) (c.check.ensures.links items noted) (c.check.ensures.refused items noted)
