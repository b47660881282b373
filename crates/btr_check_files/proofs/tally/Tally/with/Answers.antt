use Rattle.btr_check_files.proofs.tally.Tally.with.Goals as goal

pub returns-then-key-eq-EXTENT_DATA : goal.returns-then-key-eq-EXTENT_DATA
returns-then-key-eq-EXTENT_DATA c = c.with_extent.ensures

pub returns-else-key-eq-EXTENT_DATA : goal.returns-else-key-eq-EXTENT_DATA
returns-else-key-eq-EXTENT_DATA c = λ own is. (c.with_names.ensures.tally c.args.sup.now own is, c.with_names.ensures.inode)
