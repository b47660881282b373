use Rattle.fs_rows.proofs.Imports.{◌≡◌, IsTrue, take, flat_map, Pushed, row_text}
use Rattle.fs_rows.proofs.write.push_rows.Given as goal

abbrev pub invariant-loop-i : goal.invariant-loop-i
invariant-loop-i g l = record {
  taken : IsTrue g.S.Sink.tells → Pushed (g.S.Sink.taken l.initial.out) l.initial.text (flat_map row_text (take l.i l.rows)) (g.S.Sink.taken l.out) l.text;
  same : g.S.Sink.faults l.out ≡ g.S.Sink.faults l.initial.out;
}
