use Rattle.volume_state.proofs.Imports.{arith}
use Rattle.volume_state.proofs.Lying.{by_range}
use Rattle.volume_state.proofs.reserved.reserved_by_copy.Goals as goal

pub returns : goal.returns
returns c =
    by_range c.args.range.now c.args.start c.args.address c.args.count c.args.blocks c.max-first.result c.min-end.result (omega (arith, c.if-first-end.false)) (omega arith) (omega arith) (omega arith) (omega arith)
    (λ x from own. omega (arith, from, own)) (λ x below inside. omega (arith, below, inside)) c.reserved_between.result c.reserved_between.ensures
