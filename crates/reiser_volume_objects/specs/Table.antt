-- What the table of objects says of the items that were noted.
use Rattle.std.specs.Prelude.{◌≡◌, ℕ, ◌≤◌, List, [], Option, Contains, find}
use Rattle.std.specs.Option.{MatchOption, option_map}
use Rattle.indexmap.specs.IndexMap.{get}
use Rattle.reiser_walk.specs.Items.{ReiserItem}
use Rattle.reiser_walk.specs.Bodies.{is_save_link}
use Rattle.reiser_volume_objects.specs.declared.key.ObjectKey.{ObjectKey}
use Rattle.reiser_volume_objects.specs.declared.object.Object.{Object}
use Rattle.reiser_volume_objects.specs.declared.table.Objects.{Objects}
use Rattle.reiser_volume_objects.specs.Keys.{same_key, object_key_of, items_of}
use Rattle.reiser_volume_objects.specs.Leaves.{leaves_of, IsFirstLeaf}
use Rattle.reiser_volume_objects.specs.Names.{namings}
use Rattle.reiser_volume_objects.specs.Summary.{Summarises}

-- the item comes behind all these of its object
abbrev pub IsBehind : List ReiserItem → ReiserItem → Type 0
IsBehind items i = (e : ReiserItem) → Contains (items_of (object_key_of i.head) items) e → e.head.offset ≤ i.head.offset

-- the object of the first save link
abbrev pub first_save_link : List ReiserItem → Option ℕ
first_save_link items = option_map (λ i. i.head.object) (find (λ i. is_save_link i.head) items)

-- what is kept of an object, if anything is, tells that these are its items
abbrev pub TellsItems : Option Object → List ReiserItem → Type 0
TellsItems kept items = MatchOption kept (items ≡ []) (λ o. Summarises o items)

-- These items were noted.
pub record HasNoted (t : Objects) (items : List ReiserItem) : Type 0 where
  pub each : (key : ObjectKey) → TellsItems (get same_key t.map key) (items_of key items)
  pub namings : t.namings.items ≡ namings items
  pub save_link : t.save_link ≡ first_save_link items
  pub leaves : t.leaves ≡ leaves_of items
  pub firsts : (key : ObjectKey) → MatchOption (get same_key t.map key) (Unit {0}) (λ o. IsFirstLeaf key items o.first)
