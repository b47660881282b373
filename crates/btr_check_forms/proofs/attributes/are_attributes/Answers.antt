use Rattle.btr_check_forms.proofs.Imports.{none_left, some_left}
use Rattle.btr_check_forms.proofs.Gone.{body_decides, empty_decides}
use Rattle.btr_check_forms.proofs.attributes.are_attributes.Goals as goal

pub returns-then-is_empty : goal.returns-then-is_empty
returns-then-is_empty c = empty_decides c.args.hash c.args.body.now (none_left c.is_empty.result _ c.is_empty.ensures c.if-is_empty.true)

pub returns : goal.returns
returns c = body_decides c.args.hash c.args.body.now (some_left c.is_empty.result _ c.is_empty.ensures c.if-is_empty.false) _ c.are_records.ensures
