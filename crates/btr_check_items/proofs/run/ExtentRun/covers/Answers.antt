use Rattle.btr_check_items.proofs.Imports.{Decides-at}
use Rattle.btr_check_items.proofs.RunRules.{decides_covered}
use Rattle.btr_check_items.proofs.run.ExtentRun.covers.Goals as goal

pub returns : goal.returns
returns c = λ items is. Decides-at _ _ c.is_covered.ensures (decides_covered c.args.sup.now c.args.inode.now items c.args.self.now is)
