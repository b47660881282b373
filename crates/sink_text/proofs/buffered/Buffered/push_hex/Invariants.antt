use Rattle.sink_text.proofs.Imports.{◌≡◌, IsTrue, take, hex_text, Pushed}
use Rattle.sink_text.proofs.buffered.Buffered.push_hex.Given as goal

abbrev pub invariant-loop-byte : goal.invariant-loop-byte
invariant-loop-byte g l = record {
  taken : IsTrue g.S.Sink.tells → Pushed (g.S.Sink.taken l.initial.out) l.initial.self (hex_text (take l.byte-index l.bytes)) (g.S.Sink.taken l.out) l.self;
  same : g.S.Sink.faults l.out ≡ g.S.Sink.faults l.initial.out;
}
