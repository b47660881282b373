-- How the objects that the root reaches are found: the nodes that are reached over the steps of the entries, and their keys.
use Rattle.std.specs.Prelude.{◌≡◌, ℕ, Bool, true, List, Contains, is_some}
use Rattle.reiser_bitmap.specs.refusals.declared.answer.VolAnswer.{VolAnswer}
use Rattle.reiser_bitmap.specs.refusals.declared.answer.VolAnswer.TheVariants.{Refused, Fault, Memory}
use Rattle.reiser_bitmap.specs.refusals.declared.refusal.VolumeRefusal.{VolumeRefusal}
use Rattle.reiser_bitmap.specs.refusals.declared.refusal.VolumeRefusal.TheVariants.{NotVolume, Unclean, Unsupported, Short, JournalPending, Damaged, HasAttributes, PendingLinks, NameTaken, NameTooLong, HashCrowd}
use Rattle.reiser_bitmap.specs.refusals.declared.rule.Rule.{Rule}
use Rattle.reiser_bitmap.specs.refusals.declared.rule.Rule.TheVariants.{ObjectForm, Overlap, SizeRange}
use Rattle.std.specs.Prelude.{[], ◌∷◌}
use Rattle.fs_paths.specs.declared.node.NodeId.{NodeId}
use Rattle.reiser_walk.specs.Items.{ReiserItem}
use Rattle.reiser_volume_objects.specs.declared.key.ObjectKey.{ObjectKey}
use Rattle.reiser_volume_objects.specs.declared.naming.Naming.{Naming}
use Rattle.reiser_volume_objects.specs.Keys.{root}
use Rattle.reiser_volume_objects.specs.Items.{stat_of_object}
use Rattle.reiser_volume_objects.specs.Names.{is_followed, IsNamed}
use Rattle.reiser_volume_objects.specs.Nodes.{node_of}
use Rattle.reiser_volume_objects.specs.Rules.{IsDirectory, IsObjectsRefusal}

-- the rules of objects
abbrev pub object_rules : List Rule
object_rules = ObjectForm ∷ Overlap ∷ SizeRange ∷ []

-- a refusal that names a rule of objects, or a save link
abbrev pub IsObjectsRule : VolumeRefusal → Type 0
IsObjectsRule NotVolume = ⊥
IsObjectsRule (Unclean state) = ⊥
IsObjectsRule (Unsupported feature value) = ⊥
IsObjectsRule (Short volume device) = ⊥
IsObjectsRule (JournalPending trans) = ⊥
IsObjectsRule (Damaged block rule) = Contains object_rules rule
IsObjectsRule (HasAttributes dir object) = ⊥
IsObjectsRule (PendingLinks object) = Unit {0}
IsObjectsRule (NameTaken dir object) = ⊥
IsObjectsRule (NameTooLong dir object length) = ⊥
IsObjectsRule (HashCrowd dir object hash) = ⊥

-- what is answered of objects, whatever their items are
abbrev pub IsObjectsAnswer : VolAnswer → Type 0
IsObjectsAnswer (Refused refusal) = IsObjectsRule refusal
IsObjectsAnswer Fault = ⊥
IsObjectsAnswer Memory = Unit {0}

-- the refusal is one of these items, or there was no memory
abbrev pub Refuses : ℕ → List ReiserItem → VolAnswer → Type 0
Refuses root_block items (Refused refusal) = IsObjectsRefusal root_block items refusal
Refuses root_block items Fault = ⊥
Refuses root_block items Memory = Unit {0}

-- a set of keys, as a test
abbrev pub Keys : Type 0
Keys = ObjectKey → Bool

-- the object is named, and has stat data
pub record IsSeen (items : List ReiserItem) (key : ObjectKey) : Type 0 where
  pub named : IsNamed items key
  pub has_stat : is_some (stat_of_object items key) ≡ true

abbrev pub AreSeen : List ReiserItem → Keys → Type 0
AreSeen items has = (key : ObjectKey) → has key ≡ true → IsSeen items key

-- a set of nodes, as a test, that has exactly those of the named objects
pub record TellsReached (items : List ReiserItem) (reached : NodeId → Bool) : Type 0 where
  pub sound : (key : ObjectKey) → reached (node_of key) ≡ true → IsNamed items key
  pub whole : (key : ObjectKey) → IsNamed items key → reached (node_of key) ≡ true

-- where the entry counts and its directory is reached, the set has what it names
abbrev pub Closes : (NodeId → Bool) → Keys → Naming → Type 0
Closes reached has n = is_followed n ≡ true → reached (node_of n.dir) ≡ true → has n.target ≡ true

abbrev pub KeepsReached : Keys → Keys → Type 0
KeepsReached old new = (key : ObjectKey) → old key ≡ true → new key ≡ true

-- one entry was followed
pub record FollowsEntry (n : Naming) (reached : NodeId → Bool) (old new : Keys) : Type 0 where
  pub keeps : KeepsReached old new
  pub closed : Closes reached new n

-- the keys of exactly the named objects, which all have stat data
pub record IsReach (items : List ReiserItem) (has : Keys) : Type 0 where
  pub seen : AreSeen items has
  pub whole : (key : ObjectKey) → IsNamed items key → has key ≡ true
  pub root_directory : IsDirectory items root
