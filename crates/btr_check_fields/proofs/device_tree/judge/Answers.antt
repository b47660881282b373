use Rattle.btr_check_fields.proofs.Imports.{extents_in}
use Rattle.btr_check_fields.proofs.NotedRules.{judged_right, judged_wrong}
use Rattle.btr_check_fields.proofs.device_tree.judge.Goals as goal

pub returns-in-Some : goal.returns-in-Some
returns-in-Some c = λ items holds. judged_wrong c.args.chunks.now items c.args.notes.now.extents.items c.args.notes.now.wrong _ c.in-Some.is holds

pub returns-in-None : goal.returns-in-None
returns-in-None c = λ items holds.
    c.wrong_extent.ensures (extents_in items) (judged_right items c.args.notes.now.extents.items c.as_slice.result.now c.args.notes.now.wrong c.in-None.is c.as_slice.ensures.value holds)
