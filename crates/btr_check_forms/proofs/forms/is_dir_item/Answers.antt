use Rattle.btr_check_forms.proofs.Imports.{All, dir_items_of, IsHashed}
use Rattle.btr_check_forms.proofs.Deciding.{read_decides, unread_decides}
use Rattle.btr_check_forms.proofs.forms.is_dir_item.Goals as goal

pub returns-in-Some : goal.returns-in-Some
returns-in-Some c = read_decides (All (IsHashed c.args.hash)) (dir_items_of c.args.body.now) _ c.in-Some.ensures _ c.are_hashed.ensures

pub returns-in-None : goal.returns-in-None
returns-in-None c = unread_decides (All (IsHashed c.args.hash)) (dir_items_of c.args.body.now) c.in-None.ensures
