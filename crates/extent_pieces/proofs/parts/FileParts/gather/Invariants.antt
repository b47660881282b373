use Rattle.extent_pieces.proofs.Imports.{◌≡◌, take, IsTrue, keys, Image, IsOpened, IsAccepted, volume_items, Gathers}
use Rattle.extent_pieces.proofs.parts.FileParts.gather.Given as goal

abbrev pub invariant-loop-i : goal.invariant-loop-i
invariant-loop-i g l = record {
  kept : g.S.BlockSource.kept l.fn.src l.src;
  same : g.S.BlockSource.faults l.src ≡ g.S.BlockSource.faults l.fn.src;
  told : IsTrue g.S.BlockSource.tells → (image : Image) → g.S.BlockSource.blocks l.fn.src ≡ image → IsAccepted image → IsOpened l.volume image → Gathers l.inline (volume_items image) (keys l.volume.named) (take l.i (keys l.volume.named)) l.parts;
}
