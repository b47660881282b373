-- Directories that are named.
use Rattle.std.specs.Prelude.{◌≡◌, ◌≢◌, Bool, true, ◌&&◌, List, AllPairs}
use Rattle.std.specs.List.{list_any}
use Rattle.indexmap.specs.IndexSet.{IndexSet, contains}
use Rattle.reiser_volume_objects.specs.refusals.declared.answer.VolAnswer.{VolAnswer}
use Rattle.reiser_volume_objects.specs.refusals.declared.answer.VolAnswer.TheVariants.{Refused, Fault, Memory}
use Rattle.reiser_volume_objects.specs.refusals.declared.refusal.VolumeRefusal.TheVariants.{Damaged}
use Rattle.reiser_volume_objects.specs.refusals.declared.rule.Rule.TheVariants.{DirTwice}
use Rattle.reiser_volume_objects.specs.reiser_walk.Items.{ReiserItem}
use Rattle.reiser_volume_objects.specs.declared.key.ObjectKey.{ObjectKey}
use Rattle.reiser_volume_objects.specs.declared.naming.Naming.{Naming}
use Rattle.reiser_volume_objects.specs.Items.{is_directory_at}
use Rattle.reiser_volume_objects.specs.Keys.{same_key}
use Rattle.reiser_volume_names.specs.Names.{AreIn}

-- the entry names a directory that is the object
abbrev pub names_directory : List ReiserItem → ObjectKey → Naming → Bool
names_directory items q n = is_directory_at items n.target && same_key n.target q

-- where the later entry names a directory, the earlier one names another object
abbrev pub NamesAnother : List ReiserItem → Naming → Naming → Type 0
NamesAnother items m n = is_directory_at items n.target ≡ true → m.target ≢ n.target

-- exactly the directories that these links name were seen, and none is named twice
pub record HasDirectories {S : Type 0} (items : List ReiserItem) (seen : IndexSet ObjectKey S) (links : List Naming) : Type 0 where
  pub each : (q : ObjectKey) → contains same_key seen q ≡ list_any (names_directory items q) links
  pub once : AllPairs (NamesAnother items) links

-- a directory is named twice, or there was no memory
abbrev pub BlamesAgain : List ReiserItem → List Naming → VolAnswer → Type 0
BlamesAgain items links (Refused refusal) = (m : Naming) × ((n : Naming) × AreIn links m n × (is_directory_at items n.target ≡ true) × (m.target ≡ n.target) × (refusal ≡ Damaged n.leaf DirTwice))
BlamesAgain items links Fault = ⊥
BlamesAgain items links Memory = Unit {0}
