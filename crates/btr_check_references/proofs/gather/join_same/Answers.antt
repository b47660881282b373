use Rattle.btr_check_references.proofs.Imports.{◌<◌, arith, length, rules, get_or_default}
use Rattle.btr_check_references.proofs.Joining.{joined_more}
use Rattle.btr_check_references.proofs.gather.join_same.Goals as goal

pub loop-i-preserved : goal.loop-i-preserved
loop-i-preserved c =
    let long = c.loop-i.invariant.long in
    let within : c.loop-i.i < length c.args.entries.now = omega arith in
    joined_more c.args.entries.now c.loop-i.entries c.join_next.new.entries c.loop-i.i c.loop-i.kept c.in_ok-kept.kept _ within (get_or_default c.loop-i.entries c.loop-i.i _ _ (omega (arith, long, within)))
    c.loop-i.invariant (search rules) c.in_ok-kept.ensures.rest c.in_ok-kept.ensures.within c.in_ok-kept.ensures.joined
