-- Names of one directory.
use Rattle.std.specs.Prelude.{◌≡◌, Bool, ◌&&◌, nat_eq, List, AllPairs}
use Rattle.std.specs.List.{list_any}
use Rattle.std.specs.Cmp.Lexicographic.{pointwise}
use Rattle.indexmap.specs.IndexSet.{IndexSet, contains}
use Rattle.reiser_volume_objects.specs.refusals.declared.answer.VolAnswer.{VolAnswer}
use Rattle.reiser_volume_objects.specs.refusals.declared.answer.VolAnswer.TheVariants.{Refused, Fault, Memory}
use Rattle.reiser_volume_objects.specs.refusals.declared.refusal.VolumeRefusal.TheVariants.{Damaged}
use Rattle.reiser_volume_objects.specs.refusals.declared.rule.Rule.TheVariants.{NameTwice}
use Rattle.reiser_volume_objects.specs.declared.naming.Naming.{Naming}
use Rattle.reiser_volume_objects.specs.Keys.{same_key}
use Rattle.reiser_volume_names.specs.declared.once.KeyedName.{KeyedName}
use Rattle.reiser_volume_names.specs.Names.{AreIn}

abbrev pub same_name : KeyedName → KeyedName → Bool
same_name a b = same_key a.dir b.dir && pointwise nat_eq a.name.items b.name.items

-- an entry has this name in this directory
abbrev pub names_as : KeyedName → Naming → Bool
names_as q n = same_key n.dir q.dir && pointwise nat_eq n.name q.name.items

-- two entries are not of one directory and of one name
abbrev pub DifferInName : Naming → Naming → Type 0
DifferInName m n = m.dir ≡ n.dir → ¬ (m.name ≡ n.name)

-- exactly the names of these entries were seen, and no directory has one twice
pub record HasSeenLinks {S : Type 0} (names : IndexSet KeyedName S) (seen : List Naming) : Type 0 where
  pub each : (q : KeyedName) → contains same_name names q ≡ list_any (names_as q) seen
  pub once : AllPairs DifferInName seen

-- a directory has one name twice, or there was no memory
abbrev pub BlamesTwice : List Naming → VolAnswer → Type 0
BlamesTwice ns (Refused refusal) = (m : Naming) × ((n : Naming) × AreIn ns m n × (m.dir ≡ n.dir) × (m.name ≡ n.name) × (refusal ≡ Damaged n.leaf NameTwice))
BlamesTwice ns Fault = ⊥
BlamesTwice ns Memory = Unit {0}
