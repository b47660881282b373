use Rattle.btr_check_items.proofs.Imports.{ℕ, ◌+◌, ap}
use Rattle.btr_check_items.proofs.RunRules.{not_with, with_next}
use Rattle.btr_check_items.proofs.run.ExtentRun.with.Goals as goal

pub returns-in-None : goal.returns-in-None
returns-in-None c = λ items i at reads kept is. not_with c.args.sup.now c.args.inode.now items i c.args.place _ c.args.self at reads kept is c.in-None.ensures.exact

pub returns-in-Some : goal.returns-in-Some
returns-in-Some c = λ items i at reads kept is. with_next c.args.sup.now c.args.inode.now items i c.args.place _ c.args.self _ at reads kept is c.in-Some.ensures.exact c.args.self.within.0 c.whole_with.ensures.exact (ap (λ (n : ℕ). c.args.self.nbytes + n) c.nbytes.ensures.exact)
