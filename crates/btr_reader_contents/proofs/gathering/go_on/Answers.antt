use Rattle.btr_reader_contents.proofs.Imports.{◌==◌, ◌≡◌, false, nat_eq, arith, nat_tests, get}
use Rattle.btr_reader_contents.proofs.Gathered.{next_hand}
use Rattle.btr_reader_contents.proofs.gathering.go_on.Goals as goal

pub returns-clause-gathered : goal.returns-clause-gathered
returns-clause-gathered c = λ plan image ranges given top planned le has.
    let apart : (c.args.hand.ino == c.args.ino) ≡ false = grind (arith, nat_tests, c.if-hand-ino.false) in
    next_hand plan image ranges given top c.args.ino c.args.wanted (λ other. get nat_eq c.args.done.now other) _ c.args.hand c.new.result planned le apart has (c.in_ok-close.ensures plan image ranges given has.at.0) c.new.ensures.ino
    (c.new.ensures.holds plan image ranges given planned)
