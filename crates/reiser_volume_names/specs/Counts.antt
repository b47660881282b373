-- How many names an object has.
use Rattle.std.specs.Prelude.{◌≡◌, ◌≤◌, ◌<◌, ◌^◌, ℕ, Bool, true, false, not, ◌&&◌, List, count_by, is_some, Contains}
use Rattle.indexmap.specs.IndexMap.{IndexMap}
use Rattle.reiser_volume_objects.specs.refusals.declared.answer.VolAnswer.{VolAnswer}
use Rattle.reiser_volume_objects.specs.refusals.declared.answer.VolAnswer.TheVariants.{Refused, Fault, Memory}
use Rattle.reiser_volume_objects.specs.refusals.declared.refusal.VolumeRefusal.TheVariants.{Damaged}
use Rattle.reiser_volume_objects.specs.refusals.declared.rule.Rule.TheVariants.{SizeRange}
use Rattle.reiser_volume_objects.specs.reiser_walk.Items.{ReiserItem}
use Rattle.reiser_volume_objects.specs.declared.key.ObjectKey.{ObjectKey}
use Rattle.reiser_volume_objects.specs.declared.naming.Naming.{Naming}
use Rattle.reiser_volume_objects.specs.declared.stat.ObjectStat.{ObjectStat}
use Rattle.reiser_volume_objects.specs.Items.{is_directory_at, stat_of_object}
use Rattle.reiser_volume_objects.specs.Keys.{same_key}
use Rattle.reiser_volume_names.specs.Tally.{tally}
use Rattle.std.specs.Prelude.{Some}

-- how many of the links name the object
abbrev pub names_of : List Naming → ObjectKey → ℕ
names_of links key = count_by (λ n. same_key n.target key) links

-- an object with stat data that is no directory
abbrev pub is_counted : List ReiserItem → ObjectKey → Bool
is_counted items key = is_some (stat_of_object items key) && not (is_directory_at items key)

-- the counts are those of these links, and no object that is no directory has too many names
pub record CountsNames {S : Type 0} (items : List ReiserItem) (counts : IndexMap ObjectKey ℕ S) (links : List Naming) : Type 0 where
  pub each : (key : ObjectKey) → is_counted items key ≡ true → tally same_key counts key ≡ names_of links key
  pub few : (key : ObjectKey) → is_counted items key ≡ true → names_of links key < 2 ^ 32

-- an object that is no directory has too many names, or there was no memory
abbrev pub BlamesCount : List ReiserItem → List Naming → VolAnswer → Type 0
BlamesCount items links (Refused refusal) =
    (n : Naming) × Contains links n × ((stat : ObjectStat) × (stat_of_object items n.target ≡ Some stat) × (is_directory_at items n.target ≡ false) × (2 ^ 32 ≤ names_of links n.target) × (refusal ≡ Damaged stat.leaf SizeRange))
BlamesCount items links Fault = ⊥
BlamesCount items links Memory = Unit {0}
