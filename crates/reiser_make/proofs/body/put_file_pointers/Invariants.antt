use Rattle.reiser_make.proofs.Imports.{◌≡◌, ◌*◌, take, pointers_bytes}
use Rattle.reiser_make.proofs.body.put_file_pointers.Given as goal

abbrev pub invariant-loop-k : goal.invariant-loop-k
invariant-loop-k l = take (4 * l.k) l.into ≡ pointers_bytes l.first l.sparse l.k
