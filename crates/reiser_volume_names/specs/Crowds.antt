-- Names with one hash.
use Rattle.std.specs.Prelude.{◌≡◌, ◌≤◌, ◌<◌, ◌==◌, ℕ, Bool, ◌&&◌, List}
use Rattle.indexmap.specs.IndexMap.{IndexMap}
use Rattle.reiser_volume_objects.specs.refusals.declared.answer.VolAnswer.{VolAnswer}
use Rattle.reiser_volume_objects.specs.refusals.declared.answer.VolAnswer.TheVariants.{Refused, Fault, Memory}
use Rattle.reiser_volume_objects.specs.refusals.declared.refusal.VolumeRefusal.TheVariants.{HashCrowd}
use Rattle.reiser_volume_objects.specs.declared.key.ObjectKey.{ObjectKey}
use Rattle.reiser_volume_objects.specs.declared.naming.Naming.{Naming}
use Rattle.reiser_volume_objects.specs.Keys.{same_key}
use Rattle.reiser_volume_names.specs.declared.crowd.Crowd.{Crowd}
use Rattle.reiser_volume_names.specs.Names.{crowd_of}
use Rattle.reiser_volume_names.specs.Tally.{tally}

abbrev pub same_crowd : Crowd → Crowd → Bool
same_crowd a b = same_key a.of b.of && (a.hash == b.hash)

-- the sums are those of the crowds of these links, and all of them fit
pub record CrowdCounts {S : Type 0} (sums : IndexMap Crowd ℕ S) (links : List Naming) : Type 0 where
  pub each : (q : Crowd) → tally same_crowd sums q ≡ crowd_of links q.of q.hash
  pub fit : (dir : ObjectKey) (hash : ℕ) → crowd_of links dir hash ≤ 3900

-- a crowd of these links is too large, or there was no memory
abbrev pub BlamesCrowd : List Naming → VolAnswer → Type 0
BlamesCrowd links (Refused refusal) = (dir : ObjectKey) × ((hash : ℕ) × (3900 < crowd_of links dir hash) × (refusal ≡ HashCrowd dir.dir dir.object hash))
BlamesCrowd links Fault = ⊥
BlamesCrowd links Memory = Unit {0}
