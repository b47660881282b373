use Rattle.btr_check_files.proofs.Imports.{arith, names_in}
use Rattle.btr_check_files.proofs.Tallying.{field_is}
use Rattle.btr_check_files.proofs.tally.Tally.has_links.Goals as goal

pub returns : goal.returns
returns c = λ own s is. field_is c.args.self.now.names c.args.self.now.inode.nlink (names_in own) is.names (omega arith)
