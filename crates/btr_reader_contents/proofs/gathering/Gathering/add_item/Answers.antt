use Rattle.btr_reader_contents.proofs.Imports.{nat_eq, sym, ◌∙◌, get}
use Rattle.btr_reader_contents.proofs.Gathered.{pass_over}
use Rattle.btr_reader_contents.proofs.gathering.Gathering.add_item.Goals as goal

pub returns-in-Some-clause-adds : goal.returns-in-Some-clause-adds
returns-in-Some-clause-adds g c = λ tells image is blocks plan given i top key body leaf wanted le has.
    c.add_extent.ensures.adds tells image is blocks plan given i top key body leaf (sym c.in-Some.is ∙ wanted) le has

pub returns-in-None-clause-adds : goal.returns-in-None-clause-adds
returns-in-None-clause-adds g c = λ tells image is blocks plan given i top key body leaf wanted le has.
    pass_over plan image c.args.ranges.now given i top (λ ino. get nat_eq c.args.self.now.done ino) c.args.self.now.hand (sym c.in-None.is ∙ wanted) le has
