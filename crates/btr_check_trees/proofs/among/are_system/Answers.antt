use Rattle.btr_check_trees.proofs.SameChunks.{both_among, first_missing}
use Rattle.btr_check_trees.proofs.among.are_system.Goals as goal

pub returns-then-not-are_among : goal.returns-then-not-are_among
returns-then-not-are_among c = first_missing c.args.boot.now c.args.system.now c.if-not-are_among.ensures

pub returns : goal.returns
returns c = both_among c.are_among-2.result c.args.boot.now c.args.system.now c.if-not-are_among.ensures c.are_among-2.ensures
