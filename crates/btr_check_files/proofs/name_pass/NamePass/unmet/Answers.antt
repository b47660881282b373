use Rattle.btr_check_files.proofs.Imports.{hashed_in, told_in}
use Rattle.btr_check_files.proofs.Telling.{all_noted, without_entry}
use Rattle.btr_check_files.proofs.name_pass.NamePass.unmet.Goals as goal

pub returns-in-Some : goal.returns-in-Some
returns-in-Some c = λ begun items has. without_entry begun c.args.self.now.table items has c.in-Some.dir (c.in-Some.ensures (hashed_in items) has.hashed)

pub returns-in-None : goal.returns-in-None
returns-in-None c = λ begun items has.
    all_noted begun c.args.self.now.table items has (c.in-None.ensures (hashed_in items) has.hashed) c.without_ref.result (c.without_ref.ensures (told_in items) has.told)
