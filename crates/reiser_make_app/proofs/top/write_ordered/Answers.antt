use Rattle.reiser_make_app.proofs.Imports.{ℕ, List, arith, seen, Uses}
use Rattle.sink_text.proofs.outside.Crash.{writes_then, sync_only}
use Rattle.reiser_make_app.proofs.Making.{made_whole}
use Rattle.reiser_make_app.proofs.top.write_ordered.Goals as goal

pub returns-clause-only : goal.returns-clause-only
returns-clause-only g c = λ tells.
    let P : ℕ → List ℕ → Type 0 = λ b _. Uses (seen c.args.order.now) b in
    writes_then P _ _ _ (c.make_ordered.ensures.only tells) (sync_only P _ _ c.sync.result (c.sync.ensures.effect tells))

pub returns-clause-made : goal.returns-clause-made
returns-clause-made g c = λ tells.
    let size = g.met.D.Disk.open_size c.args.disk.now _ tells c.requires.open in
    made_whole (seen c.args.order.now) _ _ _ c.args.order.now.few c.args.order.now.most c.in_ok-make_ordered.ensures.enough (omega (arith, size, c.requires.inside))
    (c.in_ok-make_ordered.ensures.written tells) (c.in_ok-sync.ensures.effect tells)
