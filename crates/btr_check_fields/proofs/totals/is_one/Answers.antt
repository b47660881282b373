use Rattle.btr_check_fields.proofs.TotalRules.{alone_none, alone_one, alone_wrong}
use Rattle.btr_check_fields.proofs.totals.is_one.Goals as goal

pub returns-in-None : goal.returns-in-None
returns-in-None c = λ s items finds. alone_none s items c.args.devices.now c.in-None.is finds

pub returns-in-One : goal.returns-in-One
returns-in-One c = λ s items finds. alone_one s items c.args.devices.now c.in-One.is finds

pub returns-in-Wrong : goal.returns-in-Wrong
returns-in-Wrong c = λ s items finds. alone_wrong s items c.args.devices.now c.in-Wrong.is finds
