-- The links of a volume: the entries that give its named objects their names.
use Rattle.std.specs.Prelude.{◌≡◌, ◌≢◌, ◌↔◌, true, List, filter, Contains, AllPairs}
use Rattle.std.specs.Ordering.{nat_cmp, ordering_then}
use Rattle.std.specs.declared.cmp.Ordering.{Ordering}
use Rattle.reiser_volume_objects.specs.reiser_walk.Items.{ReiserItem}
use Rattle.reiser_volume_objects.specs.declared.key.ObjectKey.{ObjectKey}
use Rattle.reiser_volume_objects.specs.declared.naming.Naming.{Naming}
use Rattle.reiser_volume_objects.specs.Names.{namings, is_followed, IsNamed}
use Rattle.reiser_volume_objects.specs.Reach.{Keys}

-- the test of the named objects
abbrev pub TellsNamed : List ReiserItem → Keys → Type 0
TellsNamed items has = (key : ObjectKey) → (has key ≡ true) ↔ IsNamed items key

-- The entries of named directories, and of these the links: those that are not of the root's private directory. Both are in
-- the order of the items and of the heads in each, and there is exactly one list of each.
pub record AreLinks (items : List ReiserItem) (visible links : List Naming) : Type 0 where
  pub has : Keys
  pub exact : TellsNamed items has
  pub are_visible : visible ≡ filter (λ n. has n.dir) (namings items)
  pub are_links : links ≡ filter is_followed visible

abbrev pub object_cmp : ObjectKey → ObjectKey → Ordering
object_cmp a b = ordering_then (nat_cmp a.dir b.dir) (nat_cmp a.object b.object)

-- The keys of the named objects, each once, in any order.
pub record AreNamedKeys (items : List ReiserItem) (keys : List ObjectKey) : Type 0 where
  pub once : AllPairs (λ a b. a ≢ b) keys
  pub exact : (key : ObjectKey) → Contains keys key ↔ IsNamed items key
