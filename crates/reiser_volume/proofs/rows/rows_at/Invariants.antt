use Rattle.reiser_volume.proofs.Imports.{◌≡◌, map, take, IsTrue, Image, row_of, whole_row, IsOpened, IsAccepted, HasPaths, AreKeptMarks, keys}
use Rattle.reiser_volume.proofs.rows.rows_at.Given as goal

abbrev pub invariant-loop-i : goal.invariant-loop-i
invariant-loop-i g l = record {
  kept : g.S.BlockSource.kept l.fn.src l.src;
  same : g.S.BlockSource.faults l.src ≡ g.S.BlockSource.faults l.fn.src;
  told : IsTrue g.S.BlockSource.tells → (image : Image) → g.S.BlockSource.blocks l.fn.src ≡ image → IsAccepted image → IsOpened l.volume image → HasPaths l.volume l.paths.items → AreKeptMarks image (keys l.volume.named) l.marks.items → l.rows ≡ map (λ p. row_of (whole_row image l.paths.items p)) (take l.i l.paths.items);
}
