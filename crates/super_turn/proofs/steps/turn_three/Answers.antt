use Rattle.super_turn.proofs.Imports.{◌≡◌, ◌<◌, inl, inr, ⊎_elim, ◌∙◌, length, arith, reads, then_writes, weaker_writes}
use Rattle.super_turn.proofs.Stepping.{step_written, three_crash}
use Rattle.super_turn.proofs.steps.turn_three.Goals as goal

pub returns-in_err-turn_two-clause-crash : goal.returns-in_err-turn_two-clause-crash
returns-in_err-turn_two-clause-crash g c = λ tells settled image left.
    ⊎_elim (λ first. inl first) (λ second. inr (inl second)) (c.turn_two.ensures.crash tells settled image left)

pub returns-clause-crash : goal.returns-clause-crash
returns-clause-crash g c = λ tells settled image left.
    three_crash c.args.first.now.bytes c.args.second.now.bytes c.args.third.now.bytes _ _ _ (c.turn_two.ensures.writes.only tells) (c.in_ok-turn_two.ensures.settled tells) (c.in_ok-turn_two.ensures.written tells)
    (c.write_step.ensures.writes.only tells) (c.turn_two.ensures.crash tells settled) image left

pub returns-clause-writes : goal.returns-clause-writes
returns-clause-writes g c = then_writes c.turn_two.ensures.writes (weaker_writes (λ b bytes is. is.0) c.write_step.ensures.writes)

pub returns-clause-written : goal.returns-clause-written
returns-clause-written g c = λ tells.
    let sizes : g.D.BlockSource.size c.args.disk.now ≡ length (reads (g.D.Disk.history c.args.disk.now)) =
    g.met.D.Disk.open_size c.args.disk.now _ tells c.requires.open in
    let long : 16 < length (reads (g.D.Disk.history c.args.disk.now)) = omega (arith, sizes, c.requires.in_range) in
    let stands = c.in_ok-turn_two.ensures.written tells in
    step_written c.write_step.result c.args.second.now.bytes c.args.third.now.bytes (reads (g.D.Disk.history c.args.disk.now)) (g.D.Disk.history c.turn_two.new.disk) (g.D.Disk.history c.write_step.new.disk) stands
    (omega (arith, long, stands.size)) (c.write_step.ensures.written tells)
