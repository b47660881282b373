use Rattle.trial_core.proofs.Imports.{◌≡◌, length, arith, reads, goes_on, synced_on, then_goes_on}
use Rattle.trial_core.proofs.Tried.{made_whole}
use Rattle.trial_core.proofs.making.make_sample.Goals as goal

pub returns-clause-made : goal.returns-clause-made
returns-clause-made g c = λ tells.
    let size : g.D.BlockSource.size c.args.disk.now ≡ length (reads (g.D.Disk.history c.args.disk.now)) = g.met.D.Disk.open_size _ _ tells c.requires.«open» in
    made_whole c.samples_are_as_described.ensures c.samples_mark_used.ensures c.args.number _ _ _ c.requires.number c.in_default.ensures.enough (omega (arith, size, c.requires.inside))
    (c.in_default.ensures.written tells) (c.make.ensures.only tells) (c.in_ok-sync.ensures.effect tells)

pub returns-in-Err-clause-grows : goal.returns-in-Err-clause-grows
returns-in-Err-clause-grows g c = λ tells. goes_on _ _ _ (c.make.ensures.only tells)

pub returns-in_err-sync-clause-grows : goal.returns-in_err-sync-clause-grows
returns-in_err-sync-clause-grows g c = λ tells. then_goes_on _ _ _ (goes_on _ _ _ (c.make.ensures.only tells)) (synced_on _ _ c.sync.result (c.sync.ensures.effect tells))

pub returns-clause-grows : goal.returns-clause-grows
returns-clause-grows g c = λ tells. then_goes_on _ _ _ (goes_on _ _ _ (c.make.ensures.only tells)) (synced_on _ _ c.sync.result (c.sync.ensures.effect tells))
