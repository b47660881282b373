-- The private directory of the root, in which Linux keeps extended attributes. Setting and removing one leaves the
-- directory `xattrs` in it with empty directories.
use Rattle.std.specs.Prelude.{◌≡◌, ◌≢◌, ◌≤◌, ◌⊎◌, ℕ, zero, suc, true, false, Option, Some, None, List, [], ◌∷◌, length, filter, codes, Contains}
use Rattle.reiser_volume_objects.specs.refusals.declared.answer.VolAnswer.{VolAnswer}
use Rattle.reiser_volume_objects.specs.refusals.declared.answer.VolAnswer.TheVariants.{Refused, Fault, Memory}
use Rattle.reiser_volume_objects.specs.refusals.declared.refusal.VolumeRefusal.TheVariants.{HasAttributes}
use Rattle.reiser_volume_objects.specs.reiser_items.Entries.{are_entries}
use Rattle.reiser_volume_objects.specs.reiser_walk.Items.{ReiserItem}
use Rattle.reiser_volume_objects.specs.declared.key.ObjectKey.{ObjectKey}
use Rattle.reiser_volume_objects.specs.declared.naming.Naming.{Naming}
use Rattle.reiser_volume_objects.specs.Keys.{same_key, items_of}
use Rattle.reiser_volume_objects.specs.Names.{namings, is_followed}
use Rattle.reiser_volume_objects.specs.Reach.{Keys}
use Rattle.reiser_volume_objects.specs.Rules.{IsDirectory}
use Rattle.reiser_volume_objects.specs.Summary.{has_entries}

-- the entries of a directory that count
abbrev pub listing : List ReiserItem → ObjectKey → List Naming
listing items key = filter (λ n. same_key n.dir key) (namings items)

-- a directory whose items are all on the grammar of entries
pub record HasReadableEntries (items : List ReiserItem) (key : ObjectKey) : Type 0 where
  pub directory : IsDirectory items key
  pub forms : (i : ReiserItem) → Contains (items_of key items) i → has_entries i.head.kind ≡ true → are_entries i.head.count i.body ≡ true

pub record IsEmpty (items : List ReiserItem) (key : ObjectKey) : Type 0 where
  pub readable : HasReadableEntries items key
  pub empty : listing items key ≡ []

-- a directory of empty directories
pub record HoldsNoAttribute (items : List ReiserItem) (key : ObjectKey) : Type 0 where
  pub readable : HasReadableEntries items key
  pub each : (n : Naming) → Contains (listing items key) n → IsEmpty items n.target

-- The directory is empty, or has one entry, `xattrs`, which holds no attribute.
pub record HasNoAttributes (items : List ReiserItem) (key : ObjectKey) : Type 0 where
  pub readable : HasReadableEntries items key
  pub one : length (listing items key) ≤ 1
  pub name : (n : Naming) → Contains (listing items key) n → n.name ≡ codes "xattrs"
  pub inner : (n : Naming) → Contains (listing items key) n → HoldsNoAttribute items n.target

-- the object is the first one, or reached from it by so many entries
abbrev pub IsBelow : List ReiserItem → ℕ → ObjectKey → ObjectKey → Type 0
IsBelow items zero from key = key ≡ from
IsBelow items (suc steps) from key = (n : Naming) × Contains (namings items) n × (n.target ≡ key) × IsBelow items steps from n.dir

-- there is no entry, or one, `xattrs`, for that object
abbrev pub IsOnly : List Naming → Option ObjectKey → Type 0
IsOnly ns None = ns ≡ []
IsOnly ns (Some key) = (n : Naming) × (ns ≡ n ∷ []) × (n.name ≡ codes "xattrs") × (n.target ≡ key)

-- an entry for that object is not `xattrs`, or is not the only one
abbrev pub IsExtra : List Naming → ObjectKey → Type 0
IsExtra ns key = (n : Naming) × Contains ns n × (n.target ≡ key) × ((n.name ≢ codes "xattrs") ⊎ (2 ≤ length ns))

-- the set has exactly what these entries name, all readable directories
pub record AreTargets (items : List ReiserItem) (ns : List Naming) (has : Keys) : Type 0 where
  pub in_set : (n : Naming) → Contains ns n → has n.target ≡ true
  pub readable : (n : Naming) → Contains ns n → HasReadableEntries items n.target
  pub from : (key : ObjectKey) → has key ≡ true → (n : Naming) × Contains ns n × (n.target ≡ key)

abbrev pub BlamesTargets : List ReiserItem → List Naming → VolAnswer → Type 0
BlamesTargets items ns (Refused refusal) = (n : Naming) × Contains ns n × (¬ HasReadableEntries items n.target) × (refusal ≡ HasAttributes n.target.dir n.target.object)
BlamesTargets items ns Fault = ⊥
BlamesTargets items ns Memory = Unit {0}

-- the directory breaks a rule of it, and the refusal has an object at it or below
abbrev pub BlamesBelow : List ReiserItem → Type 0 → ObjectKey → VolAnswer → Type 0
BlamesBelow items P dir (Refused refusal) = (key : ObjectKey) × ((steps : ℕ) × (¬ P) × IsBelow items steps dir key × (refusal ≡ HasAttributes key.dir key.object))
BlamesBelow items P dir Fault = ⊥
BlamesBelow items P dir Memory = Unit {0}

abbrev pub BlamesPrivate : List ReiserItem → List Naming → VolAnswer → Type 0
BlamesPrivate items ns (Refused refusal) = (n : Naming) × Contains ns n × (is_followed n ≡ false) × BlamesBelow items (HasNoAttributes items n.target) n.target (Refused refusal)
BlamesPrivate items ns Fault = ⊥
BlamesPrivate items ns Memory = Unit {0}
