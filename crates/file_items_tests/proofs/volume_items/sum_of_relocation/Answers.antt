use Rattle.file_items_tests.proofs.volume_items.sum_of_relocation.Goals as goal

pub sum-requires-clause-fits : goal.sum-requires-clause-fits
sum-requires-clause-fits c = c.in_ok-items.ensures.fits c.args.volume.now c.args.pieces.now.items.items
