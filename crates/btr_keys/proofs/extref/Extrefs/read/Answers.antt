use Rattle.btr_keys.proofs.Imports.{◌∙◌, INODE_EXTREF_SIZE, extref_front, behind_named, starts}
use Rattle.btr_keys.proofs.Starts.{records_read}
use Rattle.btr_keys.proofs.extref.Extrefs.read.Goals as goal

pub returns : goal.returns
returns c = records_read extref_front (starts (behind_named INODE_EXTREF_SIZE 16) c.args.body.now) _ c.in_ok-read.ensures

pub returns-in_err-read : goal.returns-in_err-read
returns-in_err-read c = c.from_residual.ensures ∙ records_read extref_front (starts (behind_named INODE_EXTREF_SIZE 16) c.args.body.now) _ c.in_err-read.ensures
