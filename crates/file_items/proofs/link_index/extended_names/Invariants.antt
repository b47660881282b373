use Rattle.file_items.proofs.Imports.{◌≡◌, length, map, take, keys, Image, IsOpened, links_in, indexed_links, AreSizes}
use Rattle.file_items.proofs.link_index.extended_names.Given as goal

abbrev pub invariant-loop-n : goal.invariant-loop-n
invariant-loop-n l = record {
  count : length l.extended.items ≡ l.n;
  sizes : (image : Image) → IsOpened l.volume image → AreSizes (keys l.volume.named) l.sizes (take l.n (links_in l.volume));
  extended : (image : Image) → IsOpened l.volume image → l.extended.items ≡ map (λ e. e.extended) (indexed_links (take l.n (links_in l.volume)));
}
