use Rattle.btr_reader_contents.proofs.Imports.{Option, nat_eq, subst, get, Hand, HasGathered}
use Rattle.btr_reader_contents.proofs.Gathered.{first_hand}
use Rattle.btr_reader_contents.proofs.gathering.take_up.Goals as goal

pub returns-in-Some-clause-gathered : goal.returns-in-Some-clause-gathered
returns-in-Some-clause-gathered c = λ plan image ranges given top planned le has.
    c.go_on.ensures.gathered plan image ranges given top planned le
    (subst (λ (o : Option Hand). HasGathered plan image ranges given top (λ other. get nat_eq c.args.done.now other) o) c.in-Some.is has)

pub returns-in-None-clause-gathered : goal.returns-in-None-clause-gathered
returns-in-None-clause-gathered c = λ plan image ranges given top planned le has.
    first_hand plan image ranges given top c.args.ino c.args.wanted (λ other. get nat_eq c.args.done.now other) c.new.result planned
    (subst (λ (o : Option Hand). HasGathered plan image ranges given top (λ other. get nat_eq c.args.done.now other) o) c.in-None.is has) c.new.ensures.ino (c.new.ensures.holds plan image ranges given planned)
