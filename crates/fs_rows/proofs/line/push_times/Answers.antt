use Rattle.fs_rows.proofs.Imports.{ℕ, List, subst, Pushes}
use Rattle.std.specs.Fmt.{signed_decimal}
use Rattle.sink_text.specs.Digits.{fraction}
use Rattle.fs_rows.proofs.LineLemmas.{times_text}
use Rattle.fs_rows.proofs.line.push_times.Goals as goal

pub returns-clause-taken : goal.returns-clause-taken
returns-clause-taken g c = λ tells.
    let r = c.args.row.now in
    let P : List ℕ → Type 0 = λ z. Pushes (g.S.Sink.taken c.args.out.now) c.args.text.now z c.push_pieces.result (g.S.Sink.taken c.push_pieces.new.out) c.push_pieces.new.self in
    let parts = times_text (signed_decimal r.atime.sec) (fraction r.atime.nsec) (signed_decimal r.mtime.sec) (fraction r.mtime.nsec) (signed_decimal r.ctime.sec) (fraction r.ctime.nsec) in
    subst P parts (rw (c.seconds.ensures, c.seconds-2.ensures, c.seconds-3.ensures) at (c.push_pieces.ensures.taken tells))
