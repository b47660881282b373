use Rattle.rollback_core.proofs.Imports.{sym, subst, Option, WritesOnly, Block, IsGivenAt}
use Rattle.rollback_core.proofs.Standing.{some_only}
use Rattle.rollback_core.proofs.writing.write_given.Goals as goal

pub returns-in-Some-clause-only : goal.returns-in-Some-clause-only
returns-in-Some-clause-only g c = λ tells.
    subst (λ (found : Option Block). WritesOnly (IsGivenAt c.args.place found) (g.D.Disk.history c.args.disk.now) (g.D.Disk.history c.write.new.self)) (sym c.in-Some.is)
    (some_only c.args.place c.in-Some.block (g.D.Disk.history c.args.disk.now) (g.D.Disk.history c.write.new.self) c.write.result (c.write.ensures.effect tells))
