use Rattle.sink_text.proofs.Imports.{◌≡◌, IsTrue, take, text_of, Pushed}
use Rattle.sink_text.proofs.buffered.Buffered.push_pieces.Given as goal

abbrev pub invariant-loop-piece : goal.invariant-loop-piece
invariant-loop-piece g l = record {
  taken : IsTrue g.S.Sink.tells → Pushed (g.S.Sink.taken l.initial.out) l.initial.self (text_of (take l.piece-index l.pieces)) (g.S.Sink.taken l.out) l.self;
  same : g.S.Sink.faults l.out ≡ g.S.Sink.faults l.initial.out;
}
