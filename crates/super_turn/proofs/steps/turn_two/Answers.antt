use Rattle.super_turn.proofs.Imports.{◌≡◌, ◌<◌, inl, length, arith, reads, then_writes, weaker_writes}
use Rattle.super_turn.proofs.Stepping.{stands_start, step_crash, step_stands, step_written, two_crash}
use Rattle.super_turn.proofs.steps.turn_two.Goals as goal

pub returns-in_err-write_step-clause-crash : goal.returns-in_err-write_step-clause-crash
returns-in_err-write_step-clause-crash g c = λ tells settled image left.
    inl (step_crash _ c.args.first.now.bytes _ _ _ (stands_start (reads (g.D.Disk.history c.args.disk.now))) settled (c.write_step.ensures.writes.only tells) image left)

pub returns-in_err-write_step-clause-writes : goal.returns-in_err-write_step-clause-writes
returns-in_err-write_step-clause-writes g c = weaker_writes (λ b bytes is. is.0) c.write_step.ensures.writes

pub returns-clause-crash : goal.returns-clause-crash
returns-clause-crash g c = λ tells settled image left.
    let sizes : g.D.BlockSource.size c.args.disk.now ≡ length (reads (g.D.Disk.history c.args.disk.now)) =
    g.met.D.Disk.open_size c.args.disk.now _ tells c.requires.open in
    let long : 16 < length (reads (g.D.Disk.history c.args.disk.now)) = omega (arith, sizes, c.requires.in_range) in
    let stands = step_stands _ c.args.first.now.bytes (reads (g.D.Disk.history c.args.disk.now)) (g.D.Disk.history c.args.disk.now) (g.D.Disk.history c.write_step.new.disk)
    (stands_start (reads (g.D.Disk.history c.args.disk.now))) long (c.in_ok-write_step.ensures.written tells) in
    two_crash c.args.first.now.bytes c.args.second.now.bytes _ _ _ settled (c.write_step.ensures.writes.only tells) (c.in_ok-write_step.ensures.settled tells) stands (c.write_step-2.ensures.writes.only tells) image left

pub returns-clause-writes : goal.returns-clause-writes
returns-clause-writes g c =
    then_writes (weaker_writes (λ b bytes is. is.0) c.write_step.ensures.writes) (weaker_writes (λ b bytes is. is.0) c.write_step-2.ensures.writes)

pub returns-clause-written : goal.returns-clause-written
returns-clause-written g c = λ tells.
    let sizes : g.D.BlockSource.size c.args.disk.now ≡ length (reads (g.D.Disk.history c.args.disk.now)) =
    g.met.D.Disk.open_size c.args.disk.now _ tells c.requires.open in
    let long : 16 < length (reads (g.D.Disk.history c.args.disk.now)) = omega (arith, sizes, c.requires.in_range) in
    let stands = step_stands _ c.args.first.now.bytes (reads (g.D.Disk.history c.args.disk.now)) (g.D.Disk.history c.args.disk.now) (g.D.Disk.history c.write_step.new.disk)
    (stands_start (reads (g.D.Disk.history c.args.disk.now))) long (c.in_ok-write_step.ensures.written tells) in
    step_written c.write_step-2.result c.args.first.now.bytes c.args.second.now.bytes (reads (g.D.Disk.history c.args.disk.now)) (g.D.Disk.history c.write_step.new.disk) (g.D.Disk.history c.write_step-2.new.disk) stands
    (omega (arith, long, stands.size)) (c.write_step-2.ensures.written tells)
