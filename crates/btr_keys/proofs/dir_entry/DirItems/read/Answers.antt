use Rattle.btr_keys.proofs.Imports.{◌∙◌, DIR_ITEM_SIZE, dir_entry_front, behind_named, starts}
use Rattle.btr_keys.proofs.Starts.{records_read}
use Rattle.btr_keys.proofs.dir_entry.DirItems.read.Goals as goal

pub returns : goal.returns
returns c = records_read dir_entry_front (starts (behind_named DIR_ITEM_SIZE 27) c.args.body.now) _ c.in_ok-read.ensures

pub returns-in_err-read : goal.returns-in_err-read
returns-in_err-read c = c.from_residual.ensures ∙ records_read dir_entry_front (starts (behind_named DIR_ITEM_SIZE 27) c.args.body.now) _ c.in_err-read.ensures
