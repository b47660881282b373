-- Names that go into extended references.
use Rattle.std.specs.Prelude.{◌≡◌, ◌≤◌, ◌<◌, ℕ, Bool, ◌&&◌, List, []}
use Rattle.indexmap.specs.IndexMap.{IndexMap}
use Rattle.reiser_volume_objects.specs.refusals.declared.answer.VolAnswer.{VolAnswer}
use Rattle.reiser_volume_objects.specs.refusals.declared.answer.VolAnswer.TheVariants.{Refused, Fault, Memory}
use Rattle.reiser_volume_objects.specs.refusals.declared.refusal.VolumeRefusal.TheVariants.{HashCrowd}
use Rattle.reiser_volume_objects.specs.declared.key.ObjectKey.{ObjectKey}
use Rattle.reiser_volume_objects.specs.declared.naming.Naming.{Naming}
use Rattle.reiser_volume_objects.specs.Keys.{same_key}
use Rattle.reiser_volume_names.specs.declared.crowd.Crowd.{Crowd}
use Rattle.reiser_volume_names.specs.declared.extended.NamesIn.{NamesIn}
use Rattle.reiser_volume_names.specs.Crowds.{same_crowd}
use Rattle.reiser_volume_names.specs.Names.{reference_size, extended, extended_sum}
use Rattle.reiser_volume_names.specs.Tally.{tally, capped}

abbrev pub same_names : NamesIn → NamesIn → Bool
same_names a b = same_key a.dir b.dir && same_key a.object b.object

-- the sums are those of the crowds of these names, and all of them fit
pub record CountsExtended {S : Type 0} (keys : List ObjectKey) (sums : IndexMap Crowd ℕ S) (ns : List Naming) : Type 0 where
  pub each : (q : Crowd) → tally same_crowd sums q ≡ extended_sum keys ns q.of q.hash
  pub fit : (object : ObjectKey) (hash : ℕ) → extended_sum keys ns object hash ≤ 3900

-- the sizes are those of the references of these links, and the sums those of what goes into extended ones
pub record Refers {S T : Type 0} (keys : List ObjectKey) (sizes : IndexMap NamesIn ℕ S) (sums : IndexMap Crowd ℕ T) (links : List Naming) : Type 0 where
  pub each : (q : NamesIn) → tally same_names sizes q ≡ capped (reference_size links q.dir q.object)
  pub crowds : CountsExtended keys sums (extended [] links)

-- a crowd of extended references is too large, or there was no memory
abbrev pub BlamesExtended : List ObjectKey → List Naming → VolAnswer → Type 0
BlamesExtended keys ns (Refused refusal) = (object : ObjectKey) × ((hash : ℕ) × (3900 < extended_sum keys ns object hash) × (refusal ≡ HashCrowd object.dir object.object hash))
BlamesExtended keys ns Fault = ⊥
BlamesExtended keys ns Memory = Unit {0}
