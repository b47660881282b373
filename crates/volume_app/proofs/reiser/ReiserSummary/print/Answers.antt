use Rattle.volume_app.proofs.reiser.ReiserSummary.print.Goals as goal

pub returns-clause-taken : goal.returns-clause-taken
returns-clause-taken g c = λ tells. rw (c.from.ensures, c.from-2.ensures, c.label_piece.ensures, c.label_of.ensures) at (c.write_pieces.ensures.taken tells)
