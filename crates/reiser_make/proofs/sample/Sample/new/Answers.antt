use Rattle.reiser_make.proofs.Imports.{arith}
use Rattle.reiser_make.proofs.Growing.{grows_first, grows_more}
use Rattle.reiser_make.proofs.sample.Sample.new.Goals as goal

pub loop-i-init : goal.loop-i-init
loop-i-init c = rw (c.new-draws.ensures, c.new-names.ensures.items) (grows_first c.args.number)

pub loop-i-preserved : goal.loop-i-preserved
loop-i-preserved c =
    rw (c.draw-content.ensures.state, c.in_ok-push.ensures.items, c.stored_blocks-stored.ensures.stored)
    (grows_more c.args.number c.loop-i.i c.loop-i.draws.state c.loop-i.names.items c.loop-i.stored c.draw-content.result
    c.loop-i-test.true c.loop-i.invariant c.draw-content.ensures.content c.draw-content.ensures.small
    (omega (arith, c.stored_blocks-stored.ensures.most, c.stored_blocks-stored.ensures.stored)))
