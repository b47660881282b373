use Rattle.btr_check_files.proofs.Imports.{sym, ap, ◌∙◌, file_extent_of}
use Rattle.btr_check_files.proofs.Tallying.{unread_extent}
use Rattle.btr_check_files.proofs.counting.next_run.Goals as goal

pub returns-in-None : goal.returns-in-None
returns-in-None c = λ items i at is kept run. unread_extent c.args.sup.now c.args.t.now.inode items i (ap file_extent_of is ∙ sym c.in-None.ensures)

pub returns-in-Some : goal.returns-in-Some
returns-in-Some c = λ items i at is kept run. c.with.ensures items i at (ap file_extent_of is ∙ sym c.in-Some.ensures) kept run
