use Rattle.btr_keys.proofs.Imports.{◌≤◌, ◌+◌, length, ap, ◌∙◌, Some, arith, field}
use Rattle.btr_keys.proofs.Starts.{named_whole}
use Rattle.btr_keys.proofs.named.Records.start.Goals as goal

pub returns-clause-head : goal.returns-clause-head
returns-clause-head g c =
    let bytes = c.record_start.result.now in
    let size : g.row.HEAD + field 2 bytes g.row.AT ≤ length bytes =
    named_whole g.row.HEAD g.row.AT bytes (c.record_start.ensures.whole c.args.self.now (c.self.invariant.0 ∙ ap Some c.self.view_is) c.requires) in
    omega (arith, size)

pub returns-clause-name : goal.returns-clause-name
returns-clause-name g c =
    named_whole g.row.HEAD g.row.AT c.record_start.result.now (c.record_start.ensures.whole c.args.self.now (c.self.invariant.0 ∙ ap Some c.self.view_is) c.requires)
