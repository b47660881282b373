use Rattle.file_items.proofs.Imports.{take, Image, IsOpened, links_in, AreBelow, TellsPlaces}
use Rattle.file_items.proofs.link_index.dir_spots.Given as goal

abbrev pub invariant-loop-n : goal.invariant-loop-n
invariant-loop-n l = record {
  below : AreBelow l.n l.spots.items;
  places : (image : Image) → IsOpened l.volume image → TellsPlaces (λ n. n.dir) l.volume (take l.n (links_in l.volume)) l.spots.items;
}
