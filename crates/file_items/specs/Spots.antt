-- Links under the places of objects.
use Rattle.std.specs.Prelude.{◌≡◌, ◌<◌, ℕ, List, map, filter, slice_get, Some, All}
use Rattle.indexmap.specs.IndexMap.{keys}
use Rattle.btr_item_list.specs.Places.{places_from}
use Rattle.btr_item_list.specs.Spots.{is_under}
use Rattle.btr_item_list.specs.declared.spot.Spot.{Spot}
use Rattle.reiser_volume_objects.specs.declared.key.ObjectKey.{ObjectKey}
use Rattle.reiser_volume_objects.specs.declared.naming.Naming.{Naming}
use Rattle.reiser_volume_objects.specs.Keys.{same_key}
use Rattle.reiser_volume.specs.declared.volume.Volume.{Volume}

-- the numbers are among the first n
abbrev pub AreBelow : ℕ → List Spot → Type 0
AreBelow n spots = All (λ spot. spot.number < n) spots

-- an object at a place
abbrev pub IsObjectAt : Volume → ℕ → ObjectKey → Type 0
IsObjectAt volume place key = slice_get (keys volume.named) place ≡ Some key

-- Under each object at a place stand the places of its links, in their order.
abbrev pub TellsPlaces : (Naming → ObjectKey) → Volume → List Naming → List Spot → Type 0
TellsPlaces key_of volume links spots =
    (place : ℕ) (key : ObjectKey) → IsObjectAt volume place key → map (λ spot. spot.number) (filter (is_under place) spots) ≡ places_from (λ n. same_key (key_of n) key) 0 links
