use Rattle.rollback_core.proofs.Imports.{◌≡◌, ◌<◌, true, length, refl, arith, rules, reads, one_write}
use Rattle.rollback_core.proofs.Phases.{one_stands}
use Rattle.rollback_core.proofs.restore.wipe_if.Goals as goal

pub returns-clause-writes : goal.returns-clause-writes
returns-clause-writes g c =
    let yes : c.args.wiped ≡ true = search rules in
    one_write c.args.place c.zero.result.bytes c.write.result (yes, (refl, c.zero.ensures)) c.write.ensures.open c.write.ensures.size c.write.ensures.borrow c.write.ensures.effect

pub returns-clause-written : goal.returns-clause-written
returns-clause-written g c = λ tells.
    let yes : c.args.wiped ≡ true = search rules in
    let sizes : g.D.BlockSource.size c.args.disk.now ≡ length (reads (g.D.Disk.history c.args.disk.now)) =
    g.met.D.Disk.open_size c.args.disk.now _ tells c.requires.open in
    let room : c.args.place < g.D.BlockSource.size c.args.disk.now = c.requires.room yes in
    let long : c.args.place < length (reads (g.D.Disk.history c.args.disk.now)) = omega (arith, sizes, room) in
    one_stands c.args.wiped c.args.place c.zero.result.bytes _ _ c.write.result c.zero.ensures long (c.write.ensures.effect tells)
