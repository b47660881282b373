use Rattle.fs_rows.proofs.Imports.{◌≡◌, drop, nat_eq, pointwise}
use Rattle.fs_rows.proofs.path.PathPartialEq.eq.Given as goal

abbrev pub invariant-loop-i : goal.invariant-loop-i
invariant-loop-i l = pointwise (pointwise nat_eq) (drop l.i l.self) (drop l.i l.other) ≡ pointwise (pointwise nat_eq) l.self l.other
