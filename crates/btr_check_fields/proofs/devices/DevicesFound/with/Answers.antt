use Rattle.btr_check_fields.proofs.TotalRules.{none_met, one_met, wrong_met}
use Rattle.btr_check_fields.proofs.devices.DevicesFound.with.Goals as goal

pub returns-in-None : goal.returns-in-None
returns-in-None c = λ items finds.
    none_met c.args.sup.now items c.args.key.now c.args.body.now c.args.self c.is_device_item.result c.first_device.result c.in-None.is c.is_device_item.ensures c.first_device.ensures finds

pub returns-in-One : goal.returns-in-One
returns-in-One c = λ items finds. one_met c.args.sup.now items c.args.key.now c.args.body.now c.args.self c.in-One.is finds

pub returns-in-Wrong : goal.returns-in-Wrong
returns-in-Wrong c = λ items finds. wrong_met c.args.sup.now items c.args.key.now c.args.body.now c.args.self c.in-Wrong.is finds
