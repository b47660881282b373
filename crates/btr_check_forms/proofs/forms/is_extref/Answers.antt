use Rattle.btr_check_forms.proofs.Imports.{All, extrefs_of, IsTold}
use Rattle.btr_check_forms.proofs.Deciding.{read_decides, unread_decides}
use Rattle.btr_check_forms.proofs.forms.is_extref.Goals as goal

pub returns-in-Some : goal.returns-in-Some
returns-in-Some c = read_decides (All (IsTold c.args.hash)) (extrefs_of c.args.body.now) _ c.in-Some.ensures _ c.are_told.ensures

pub returns-in-None : goal.returns-in-None
returns-in-None c = unread_decides (All (IsTold c.args.hash)) (extrefs_of c.args.body.now) c.in-None.ensures
