use Rattle.btr_reader.proofs.file_notes.FileNotes.new.Goals as goal

pub returns-clause-begun : goal.returns-clause-begun
returns-clause-begun c = record { inode = tt; extents = c.nothing.ensures.gathers c.args.ranges.now }
