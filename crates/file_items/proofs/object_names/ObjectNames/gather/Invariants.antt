use Rattle.file_items.proofs.Imports.{take, keys, Image, ObjectKey, links_in, HasNames, IsKnown, IsObjectAt, names_of}
use Rattle.file_items.proofs.object_names.ObjectNames.gather.Given as goal

abbrev pub invariant-loop-i : goal.invariant-loop-i
invariant-loop-i l = (image : Image) → IsKnown l.volume l.links l.numbers image → (key : ObjectKey) → IsObjectAt l.volume l.place key → HasNames (keys l.volume.named) l.ino (take l.i (names_of (links_in l.volume) key)) l.self
