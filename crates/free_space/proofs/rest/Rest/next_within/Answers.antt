use Rattle.free_space.proofs.Imports.{sym, ◌∙◌}
use Rattle.free_space.proofs.Steps.{first_past, no_first}
use Rattle.free_space.proofs.rest.Rest.next_within.Goals as goal

pub returns-in_default-clause-next : goal.returns-in_default-clause-next
returns-in_default-clause-next g c = no_first c.args.self.now.end (g.U.UsedRanges.ahead c.args.self.now.used) (sym c.first.ensures.next ∙ c.in_default.is)

pub returns-else-range-self-clause-next : goal.returns-else-range-self-clause-next
returns-else-range-self-clause-next g c =
    first_past c.args.self.now.end (g.U.UsedRanges.ahead c.args.self.now.used) c.in-Some.range (sym c.first.ensures.next ∙ c.in-Some.is) c.if-range-self.false
