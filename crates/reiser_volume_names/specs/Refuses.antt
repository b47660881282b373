-- What is answered of names.
use Rattle.std.specs.Prelude.{List}
use Rattle.reiser_volume_objects.specs.refusals.declared.answer.VolAnswer.{VolAnswer}
use Rattle.reiser_volume_objects.specs.refusals.declared.answer.VolAnswer.TheVariants.{Refused, Fault, Memory}
use Rattle.reiser_volume_objects.specs.refusals.declared.refusal.VolumeRefusal.{VolumeRefusal}
use Rattle.reiser_volume_objects.specs.refusals.declared.refusal.VolumeRefusal.TheVariants.{NotVolume, Unclean, Unsupported, Short, JournalPending, Damaged, HasAttributes, PendingLinks, NameTaken, NameTooLong, HashCrowd}
use Rattle.reiser_volume_objects.specs.refusals.declared.rule.Rule.{Rule}
use Rattle.reiser_volume_objects.specs.refusals.declared.rule.Rule.TheVariants.{SuperField, SystemFree, NodeHead, Layout, KeyOrder, BlockFree, BlockRange, BlockTwice, Body, EntryForm, ObjectForm, Overlap, NameTwice, DirTwice, SizeRange, Reread}
use Rattle.reiser_volume_objects.specs.reiser_walk.Items.{ReiserItem}
use Rattle.reiser_volume_names.specs.Names.{IsNamesRefusal}

-- a rule of names fails, or there was no memory
abbrev pub RefusesNames : List ReiserItem → VolAnswer → Type 0
RefusesNames items (Refused refusal) = IsNamesRefusal items refusal
RefusesNames items Fault = ⊥
RefusesNames items Memory = Unit {0}

-- a rule of names
abbrev pub IsNamesRule : Rule → Type 0
IsNamesRule SuperField = ⊥
IsNamesRule SystemFree = ⊥
IsNamesRule NodeHead = ⊥
IsNamesRule Layout = ⊥
IsNamesRule KeyOrder = ⊥
IsNamesRule BlockFree = ⊥
IsNamesRule BlockRange = ⊥
IsNamesRule BlockTwice = ⊥
IsNamesRule Body = ⊥
IsNamesRule EntryForm = Unit {0}
IsNamesRule ObjectForm = ⊥
IsNamesRule Overlap = ⊥
IsNamesRule NameTwice = Unit {0}
IsNamesRule DirTwice = Unit {0}
IsNamesRule SizeRange = Unit {0}
IsNamesRule Reread = ⊥

-- a refusal that names a rule of names
abbrev pub IsRefusalOfNames : VolumeRefusal → Type 0
IsRefusalOfNames NotVolume = ⊥
IsRefusalOfNames (Unclean state) = ⊥
IsRefusalOfNames (Unsupported feature value) = ⊥
IsRefusalOfNames (Short volume device) = ⊥
IsRefusalOfNames (JournalPending trans) = ⊥
IsRefusalOfNames (Damaged block rule) = IsNamesRule rule
IsRefusalOfNames (HasAttributes dir object) = Unit {0}
IsRefusalOfNames (PendingLinks object) = ⊥
IsRefusalOfNames (NameTaken dir object) = Unit {0}
IsRefusalOfNames (NameTooLong dir object length) = Unit {0}
IsRefusalOfNames (HashCrowd dir object hash) = Unit {0}

-- what is answered of names, whatever the items are
abbrev pub IsNamesAnswer : VolAnswer → Type 0
IsNamesAnswer (Refused refusal) = IsRefusalOfNames refusal
IsNamesAnswer Fault = ⊥
IsNamesAnswer Memory = Unit {0}
