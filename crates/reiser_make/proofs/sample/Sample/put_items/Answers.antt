use Rattle.reiser_make.proofs.Imports.{◌∙◌, refl, items_behind}
use Rattle.reiser_make.proofs.Storing.{stored_first, put_first_place, next_fits}
use Rattle.reiser_make.proofs.sample.Sample.put_items.Goals as goal

pub loop-i-init : goal.loop-i-init
loop-i-init c =
    put_first_place c.args.self.now (items_behind c.args.self.now c.args.at) c.args.at _ c.clear.new.bytes refl (c.clear.auto.bytes ∙ c.requires.room)
    (c.clear.ensures ∙ stored_first c.args.self.now _ c.requires.room)

pub put_next-low-requires-clause-fits : goal.put_next-low-requires-clause-fits
put_next-low-requires-clause-fits c =
    next_fits c.args.self.now (items_behind c.args.self.now c.args.at) c.loop-i.i c.args.count c.loop-i.at c.loop-i.low c.loop-i.behind c.loop-i.invariant c.loop-i-test.true c.requires.count c.requires.fits
