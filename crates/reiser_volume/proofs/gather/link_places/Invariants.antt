use Rattle.reiser_volume.proofs.Imports.{◌≡◌, map, take, Some, slice_get, Naming, is_known, link_list}
use Rattle.reiser_volume.proofs.gather.link_places.Given as goal

abbrev pub invariant-loop-i : goal.invariant-loop-i
invariant-loop-i l = map (slice_get l.objects.namings.items) l.places.items ≡ map (λ (n : Naming). Some n) (link_list (is_known l.named) (take l.i l.objects.namings.items))
