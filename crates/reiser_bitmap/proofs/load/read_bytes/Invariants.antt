use Rattle.reiser_bitmap.proofs.Imports.{◌≡◌, ◌*◌, min, length, IsTrue}
use Rattle.reiser_bitmap.proofs.LoadLemmas.{HasBitsOf}
use Rattle.reiser_bitmap.proofs.load.read_bytes.Given as goal

abbrev pub invariant-loop-k : goal.invariant-loop-k
invariant-loop-k g l = record {
  kept : g.S.BlockSource.kept l.initial.src l.src;
  same : g.S.BlockSource.faults l.src ≡ g.S.BlockSource.faults l.initial.src;
  filled : length l.bytes.items ≡ min (4096 * l.k) l.size;
  read : IsTrue g.S.BlockSource.tells → HasBitsOf (g.S.BlockSource.blocks l.initial.src) l.bytes.items;
}
