use Rattle.btr_check_items.proofs.Imports.{Decides-at}
use Rattle.btr_check_items.proofs.RunRules.{decides_told}
use Rattle.btr_check_items.proofs.run.ExtentRun.has_nbytes.Goals as goal

pub returns : goal.returns
returns c = λ items is. Decides-at _ _ c.is_told.ensures (decides_told c.args.inode.now items c.args.self.now is)
