use Rattle.extent_pieces.proofs.Imports.{◌≡◌, take, length, sum_by, links_in, capped}
use Rattle.extent_pieces.proofs.counts.letter_count.Given as goal

abbrev pub invariant-loop-i : goal.invariant-loop-i
invariant-loop-i l = l.count ≡ capped (sum_by (λ n. length n.name) (take l.i (links_in l.volume)))
