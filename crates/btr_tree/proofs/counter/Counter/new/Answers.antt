use Rattle.btr_tree.proofs.Groups.{counts_none}
use Rattle.btr_tree.proofs.counter.Counter.new.Goals as goal

pub returns-clause-counted : goal.returns-clause-counted
returns-clause-counted c = counts_none c.args.nodesize
