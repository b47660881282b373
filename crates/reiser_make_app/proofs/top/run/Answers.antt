use Rattle.reiser_make_app.proofs.Outcomes.{made_or_memory, usage_exactly, risen, faultless}
use Rattle.reiser_make_app.proofs.top.run.Goals as goal

pub returns-clause-complete : goal.returns-clause-complete
returns-clause-complete g c = λ room same low.
    rw c.status.ensures
    (made_or_memory _ _ c.perform-ending.result _ _ room c.perform-ending.ensures.right c.perform-ending.ensures.cause same low)

pub returns-clause-usage : goal.returns-clause-usage
returns-clause-usage g c =
    rw c.status.ensures
    (usage_exactly _ _ c.perform-ending.result c.perform-ending.ensures.right)

pub returns-clause-device : goal.returns-clause-device
returns-clause-device g c = rw c.status.ensures (risen c.perform-ending.result _ _ c.perform-ending.ensures.cause)

pub returns-clause-faultless : goal.returns-clause-faultless
returns-clause-faultless g c = rw c.status.ensures (faultless c.perform-ending.result _ _ c.perform-ending.ensures.cause)
