use Rattle.reiser_volume.proofs.Imports.{◌≡◌, IsTrue, keys, Image, AreKeptMarks, IsOpened, IsAccepted}
use Rattle.reiser_volume.proofs.volume.Volume.put_marks.Given as goal

abbrev pub invariant-loop-i : goal.invariant-loop-i
invariant-loop-i g l = record {
  kept : g.S.BlockSource.kept l.fn.src l.src;
  same : g.S.BlockSource.faults l.src ≡ g.S.BlockSource.faults l.fn.src;
  told : IsTrue g.S.BlockSource.tells → (image : Image) → g.S.BlockSource.blocks l.fn.src ≡ image → IsAccepted image → IsOpened l.self image → AreKeptMarks image (keys l.self.named) l.fn.marks.items → AreKeptMarks image (keys l.self.named) l.marks.items;
}
