use Rattle.outside_mem.proofs.Imports.{◌≡◌, ◌*◌, ◌∷◌, length, take, get_or, written, by_number, sectors_of, calls_of}
use Rattle.outside_mem.proofs.crash.torn.Given as goal

abbrev pub invariant-loop-s : goal.invariant-loop-s
invariant-loop-s l = record {
  done : take (l.s * 512) l.block.bytes ≡ sectors_of (λ s. by_number (l.synced.bytes ∷ written (calls_of l.calls) l.n) (get_or l.numbers s 0)) l.s;
  whole : length l.block.bytes ≡ 4096;
}
