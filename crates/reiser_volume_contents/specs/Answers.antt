-- What is answered of a file.
use Rattle.std.specs.Prelude.{◌≡◌, ℕ, List}
use Rattle.reiser_volume_objects.specs.refusals.declared.answer.VolAnswer.{VolAnswer}
use Rattle.reiser_volume_objects.specs.refusals.declared.answer.VolAnswer.TheVariants.{Refused, Fault, Memory}
use Rattle.reiser_volume_objects.specs.refusals.declared.refusal.VolumeRefusal.{VolumeRefusal}
use Rattle.reiser_volume_objects.specs.refusals.declared.refusal.VolumeRefusal.TheVariants.{Damaged}
use Rattle.reiser_volume_objects.specs.refusals.declared.rule.Rule.TheVariants.{Reread}
use Rattle.reiser_volume_objects.specs.reiser_walk.Items.{ReiserItem}
use Rattle.reiser_volume_objects.specs.declared.key.ObjectKey.{ObjectKey}
use Rattle.reiser_volume_contents.specs.Reads.{IsFrom, Starts}

-- the device was changed since the walk: this block reads otherwise, or names a block that there is not
abbrev pub IsChanged : VolumeRefusal → Type 0
IsChanged r = (block : ℕ) × (r ≡ Damaged block Reread)

-- a refusal names this block
abbrev pub NamesBlock : ℕ → VolAnswer → Type 0
NamesBlock block (Refused r) = r ≡ Damaged block Reread
NamesBlock block Fault = Unit {0}
NamesBlock block Memory = Unit {0}

-- a refusal names one of the leaves from a place on
abbrev pub NamesLeaf : ℕ → List ℕ → VolAnswer → Type 0
NamesLeaf first leaves (Refused r) = (block : ℕ) × IsFrom first leaves block × (r ≡ Damaged block Reread)
NamesLeaf first leaves Fault = Unit {0}
NamesLeaf first leaves Memory = Unit {0}

-- A refusal names a leaf of the walk, from the one on that has the object's first item.
abbrev pub NamesOwnLeaf : ObjectKey → List ReiserItem → List ℕ → VolAnswer → Type 0
NamesOwnLeaf key items leaves (Refused r) = (first : ℕ) × Starts key items leaves first × NamesLeaf first leaves (Refused r)
NamesOwnLeaf key items leaves Fault = Unit {0}
NamesOwnLeaf key items leaves Memory = Unit {0}

-- what is answered whatever the source gives, where no memory is taken
abbrev pub IsReadAnswer : VolAnswer → Type 0
IsReadAnswer (Refused r) = IsChanged r
IsReadAnswer Fault = Unit {0}
IsReadAnswer Memory = ⊥

-- and where memory is taken
abbrev pub IsFileAnswer : VolAnswer → Type 0
IsFileAnswer (Refused r) = IsChanged r
IsFileAnswer Fault = Unit {0}
IsFileAnswer Memory = Unit {0}

-- what is answered of a volume that is as it was
abbrev pub IsFault : VolAnswer → Type 0
IsFault (Refused r) = ⊥
IsFault Fault = Unit {0}
IsFault Memory = ⊥

abbrev pub IsFaultOrMemory : VolAnswer → Type 0
IsFaultOrMemory (Refused r) = ⊥
IsFaultOrMemory Fault = Unit {0}
IsFaultOrMemory Memory = Unit {0}
