use Rattle.btr_check_extents.proofs.Looking.{count_found, count_none}
use Rattle.btr_check_extents.proofs.lookup.count_of.Goals as goal

pub returns-in-None : goal.returns-in-None
returns-in-None c = λ list are. count_none c.args.counts.now _ list c.in-None.ensures are

pub returns-in-Some : goal.returns-in-Some
returns-in-Some c = λ list are. count_found c.args.counts.now _ c.in-Some.i _ list c.requires c.in-Some.ensures.0 (c.in-Some.ensures.1 _) are
