use Rattle.reiser_make.proofs.Imports.{◌≡◌, ap, ◌∙◌, arith, reads, needed, total, IsUsed, laid_over, system_placed, system_row}
use Rattle.reiser_make.proofs.Laying.{goes_none, goes_more, only_more, in_range}
use Rattle.reiser_make.proofs.Placed.{used_below, system_below, total_some}
use Rattle.reiser_make.proofs.layout.write_system.Goals as goal

pub loop-b-init : goal.loop-b-init
unfolding system_row
loop-b-init g c = goes_none _ (IsUsed c.args.usage.now) _ _ _ _

pub write-requires-clause-in_range : goal.write-requires-clause-in_range
write-requires-clause-in_range g c =
    in_range _ (needed c.args.plan.now.sample) c.args.usage.now.needed c.args.usage.now.blocks _ _ (system_below (total c.args.plan.now.sample) c.loop-b.b (total_some c.args.plan.now.sample) c.loop-b-test.true)
    c.requires.usage.needed c.requires.usage.fits c.requires.inside c.loop-b.invariant.size

pub returns-in_err-write-clause-only : goal.returns-in_err-write-clause-only
returns-in_err-write-clause-only g c =
    only_more _ (IsUsed c.args.usage.now) _ _ _ _ _ _ _ _ _ (system_row c.args.plan.now.sample c.args.usage.now.blocks c.loop-b.b) c.loop-b.b c.put_system.new.into.bytes _ c.loop-b.invariant
    (used_below c.args.plan.now.sample c.args.usage.now c.loop-b.b c.requires.usage (system_below (total c.args.plan.now.sample) c.loop-b.b (total_some c.args.plan.now.sample) c.loop-b-test.true))
    c.write.ensures.effect

pub loop-b-preserved : goal.loop-b-preserved
unfolding system_row
loop-b-preserved g c =
    goes_more _ (IsUsed c.args.usage.now) _ _ _ _ _ _ _ _ _ _ _ _ (system_placed c.args.plan.now.sample c.args.usage.now.blocks) 0 c.loop-b.b c.loop-b.b c.loop-b.b c.put_system.new.into.bytes
    c.loop-b.invariant (omega arith)
    (used_below c.args.plan.now.sample c.args.usage.now c.loop-b.b c.requires.usage (system_below (total c.args.plan.now.sample) c.loop-b.b (total_some c.args.plan.now.sample) c.loop-b-test.true))
    (ap (λ bytes. (c.loop-b.b, bytes)) c.put_system.ensures) c.write.ensures.open c.write.ensures.size c.in_ok-write.ensures.cause.kept c.in_ok-write.ensures.effect

pub returns-clause-written : goal.returns-clause-written
returns-clause-written g c = λ tells.
    c.loop-b.invariant.written tells
    ∙ ap (λ n. laid_over (system_row c.args.plan.now.sample c.args.usage.now.blocks n) (reads (g.D.Disk.history c.args.disk.now))) (let end : c.loop-b.b ≡ 8211 = omega (arith, c.loop-b-test.false, c.loop-b.auto.b-end) in end)
