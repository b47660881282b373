use Rattle.btr_keys.proofs.Imports.{◌∙◌, INODE_REF_SIZE, inode_ref_front, behind_named, starts}
use Rattle.btr_keys.proofs.Starts.{records_read}
use Rattle.btr_keys.proofs.inode_ref.InodeRefs.read.Goals as goal

pub returns : goal.returns
returns c = records_read inode_ref_front (starts (behind_named INODE_REF_SIZE 8) c.args.body.now) _ c.in_ok-read.ensures

pub returns-in_err-read : goal.returns-in_err-read
returns-in_err-read c = c.from_residual.ensures ∙ records_read inode_ref_front (starts (behind_named INODE_REF_SIZE 8) c.args.body.now) _ c.in_err-read.ensures
