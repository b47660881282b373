use Rattle.unit_plan.proofs.Imports.{◌≡◌, ◌+◌, ◌-◌, arith, subst, both_ways, role_in}
use Rattle.unit_plan.proofs.Dividing.{begun, goes_on, ended, divided}
use Rattle.unit_plan.proofs.Told.{role_inside}
use Rattle.unit_plan.proofs.division.divide.Goals as goal

pub loop-u-preserved-then-is_joined : goal.loop-u-preserved-then-is_joined
loop-u-preserved-then-is_joined c =
    goes_on (role_in c.args.roles.now) c.args.usable (role_inside c.args.roles.now c.args.usable c.requires.usable) c.loop-u.first c.loop-u.u c.loop-u.chunks c.loop-u.invariant
    (c.is_joined.ensures.0 c.if-is_joined.true)

pub loop-u-preserved : goal.loop-u-preserved
loop-u-preserved c =
    ended (role_in c.args.roles.now) c.args.usable (role_inside c.args.roles.now c.args.usable c.requires.usable) c.loop-u.first c.loop-u.u c.loop-u.chunks c.loop-u.invariant
    (λ joined. both_ways c.is_joined.result c.if-is_joined.false (c.is_joined.ensures.1 joined)) c.add_chunk.new.chunks c.in_ok-add_chunk.ensures

pub returns : goal.returns
returns c =
    divided (role_in c.args.roles.now) c.args.usable (role_inside c.args.roles.now c.args.usable c.requires.usable) c.loop-u.first c.loop-u.u (c.loop-u.u - 1) c.loop-u.chunks c.loop-u.invariant
    (omega (arith, c.loop-u.auto.u)) (omega (arith, c.loop-u-test.false, c.div_ceil-u-end.ensures))
