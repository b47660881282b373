use Rattle.btr_check_files.proofs.Imports.{refl}
use Rattle.btr_check_files.proofs.Tallying.{none_kept, tally_first}
use Rattle.btr_check_files.proofs.tally.Tally.of.Goals as goal

pub returns-clause-tally : goal.returns-clause-tally
returns-clause-tally c = λ s kind i is. tally_first s _ i is kind refl refl (none_kept s c.args.inode) c.new.ensures
