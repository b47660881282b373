use Rattle.btr_reader_contents.proofs.Imports.{Option, nat_eq, subst, get, Hand, HasGathered}
use Rattle.btr_reader_contents.proofs.Gathered.{last_finished}
use Rattle.btr_reader_contents.proofs.gathering.Gathering.finish.Goals as goal

pub returns-in_ok-close-in-Some : goal.returns-in_ok-close-in-Some
returns-in_ok-close-in-Some c = λ plan image ranges given top has.
    let at = subst (λ (o : Option Hand). HasGathered plan image ranges given top (λ ino. get nat_eq c.args.self.done ino) o) c.in-Some.is has in
    last_finished plan image ranges given top (λ ino. get nat_eq c.args.self.done ino) _ c.in-Some.hand at (c.in_ok-close-in-Some.ensures plan image ranges given at.at.0)
