use Rattle.btr_check_names.proofs.Imports.{◌≢◌, take, All, IsNamedAt}
use Rattle.btr_check_names.proofs.table.NameTable.find_but.Given as goal

abbrev pub invariant-loop-k : goal.invariant-loop-k
invariant-loop-k l = All (λ k. k.number ≢ l.but → ¬ IsNamedAt l.self.entries l.dir l.name k.number) (take l.k-index l.k-items)
