use Rattle.btr_check_files.proofs.Imports.{refl}
use Rattle.btr_check_files.proofs.Tallying.{root_decides, root_none, root_other}
use Rattle.btr_check_files.proofs.tally.Tally.is_root.Goals as goal

pub returns-then-ino-ne-FIRST_FREE_OBJECTID : goal.returns-then-ino-ne-FIRST_FREE_OBJECTID
returns-then-ino-ne-FIRST_FREE_OBJECTID c = λ own s is. root_other s own c.args.self.now is c.args.ino c.if-ino-ne-FIRST_FREE_OBJECTID.true

pub returns-in-Directory : goal.returns-in-Directory
returns-in-Directory c = λ own s is. root_decides s own c.args.self.now is c.args.ino c.if-ino-ne-FIRST_FREE_OBJECTID.false c.in-Directory.is _ refl

pub returns-in_default : goal.returns-in_default
returns-in_default c = λ own s is. root_none s own c.args.self.now is c.args.ino c.if-ino-ne-FIRST_FREE_OBJECTID.false c.in_default.not-Directory
