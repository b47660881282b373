use Rattle.file_items.proofs.Imports.{map, take, keys, Image, ObjectKey, stat_at, kind_by, links_in, volume_items, HasEntries, IsKnown, IsObjectAt, indexed, names_in}
use Rattle.file_items.proofs.directory.Directory.gather_links.Given as goal

abbrev pub invariant-loop-i : goal.invariant-loop-i
invariant-loop-i l =
    (image : Image) → IsKnown l.volume l.links l.numbers image → (key : ObjectKey) → IsObjectAt l.volume l.place key
    → HasEntries l.ino (map (indexed (λ k. kind_by (stat_at (volume_items image) k)) (keys l.volume.named)) (take l.i (names_in (links_in l.volume) key))) l.self
