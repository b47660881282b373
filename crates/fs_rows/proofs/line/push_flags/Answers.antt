use Rattle.fs_rows.proofs.Imports.{ℕ, List, codes, not, subst, Pushes, any_flag, dash, flag}
use Rattle.fs_rows.proofs.LineLemmas.{flags_parts}
use Rattle.fs_rows.proofs.line.push_flags.Goals as goal

pub returns-clause-taken : goal.returns-clause-taken
returns-clause-taken g c = λ tells.
    let r = c.args.row.now in
    let P : List ℕ → Type 0 = λ z. Pushes (g.S.Sink.taken c.args.out.now) c.args.text.now z c.push_pieces.result (g.S.Sink.taken c.push_pieces.new.out) c.push_pieces.new.self in
    let parts = flags_parts (flag r.sync (codes "S")) (flag r.immutable (codes "i")) (flag r.append (codes "a")) (flag r.nodump (codes "d")) (flag r.noatime (codes "A")) (flag (not (any_flag r)) dash) in
    subst P parts (rw (c.flag.ensures, c.flag-2.ensures, c.flag-3.ensures, c.flag-4.ensures, c.flag-5.ensures, c.flag-6.ensures, c.any_flag.ensures) at (c.push_pieces.ensures.taken tells))
