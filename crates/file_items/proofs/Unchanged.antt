-- What is still to come of a stream is decided by the items of the volume, and not by where their leaves lie.
use Rattle.file_items.proofs.Imports.{◌≡◌, List, ◌++◌, refl, ap, drop, flat_map, keys, Image, Item, ahead, rest_ahead, file_ahead, Source, object_items, FileTree, Items, by_inode, links_in, volume_items, Volume, ReiserItem, Piece}
use Rattle.file_items.specs.declared.items.Rest.{Rest}
use Rattle.file_items.specs.declared.items.Rest.TheVariants as rest

-- the source of a file tree, by the items alone
abbrev by_items : FileTree → Volume → List Piece → List ReiserItem → Source
by_items f volume pieces items = record {
  flags = volume.sup.flags;
  items = items;
  keys = keys volume.named;
  links = links_in volume;
  pieces = pieces;
  inline = f.basis.inline;
  datasum = f.basis.datasum;
}

rest_same : (rest : Rest) (volume : Volume) (pieces : List Piece) (image other : Image) → volume_items other ≡ volume_items image → rest_ahead rest volume pieces other ≡ rest_ahead rest volume pieces image
rest_same rest.Nothing volume pieces image other same = refl
rest_same (rest.Image extents) volume pieces image other same = refl
rest_same (rest.Files f) volume pieces image other same =
    ap (λ (items : List ReiserItem). file_ahead f.file pieces ++ flat_map (object_items (by_items f volume pieces items)) (drop f.begun (by_inode (keys volume.named)))) same

pub ahead_same : (items : Items) (volume : Volume) (pieces : List Piece) (image other : Image) → volume_items other ≡ volume_items image → ahead items volume pieces other ≡ ahead items volume pieces image
ahead_same items volume pieces image other same = ap (λ (all : List Item). drop items.given items.list ++ all) (rest_same items.rest volume pieces image other same)
