use Rattle.reiser_volume.proofs.Imports.{◌≡◌, map, take, is_known, link_list, FitsKey, link_of}
use Rattle.std.specs.List.{All}
use Rattle.reiser_volume.proofs.ways.links_of.Given as goal

abbrev pub invariant-loop-naming : goal.invariant-loop-naming
invariant-loop-naming l = record {
  links : l.links.items ≡ map link_of (link_list (is_known l.volume.named) (take l.naming-index l.volume.objects.namings.items));
  fit : All (λ k. FitsKey k.target) l.links.items;
}
