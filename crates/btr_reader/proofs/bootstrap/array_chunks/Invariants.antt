use Rattle.btr_reader.proofs.Imports.{◌≡◌, ◌≤◌, ℕ, ◌++◌, length, option_map, chunks_within, array_chunks}
use Rattle.btr_reader.proofs.bootstrap.array_chunks.Given as goal

abbrev pub invariant-loop-rest : goal.invariant-loop-rest
invariant-loop-rest l = (n : ℕ) × (length l.rest ≤ n) × (option_map (λ cs. l.chunks.items ++ cs) (chunks_within n l.rest) ≡ array_chunks l.array)

abbrev pub decreases-loop-rest : goal.decreases-loop-rest
decreases-loop-rest l = length l.rest
