use Rattle.btr_check_files.proofs.Imports.{refl, arith}
use Rattle.btr_check_files.proofs.Tallying.{size_decides, size_other}
use Rattle.btr_check_files.proofs.tally.Tally.has_size.Goals as goal

pub returns-in-Directory : goal.returns-in-Directory
returns-in-Directory c = λ own s is. size_decides s own c.args.self.now is c.in-Directory.is (omega arith) _ refl

pub returns-in_default : goal.returns-in_default
returns-in_default c = λ own s is. size_other s own c.args.self.now is c.in_default.not-Directory
