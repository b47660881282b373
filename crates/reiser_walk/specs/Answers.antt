-- What an answer says of the tree.
use Rattle.std.specs.Prelude.{Bool, List, Contains}
use Rattle.reiser_bitmap.specs.outside.History.{Image}
use Rattle.reiser_bitmap.specs.refusals.declared.answer.VolAnswer.{VolAnswer}
use Rattle.reiser_bitmap.specs.refusals.declared.answer.VolAnswer.TheVariants.{Refused, Fault, Memory}
use Rattle.reiser_bitmap.specs.refusals.declared.refusal.VolumeRefusal.{VolumeRefusal}
use Rattle.reiser_bitmap.specs.refusals.declared.refusal.VolumeRefusal.TheVariants.{NotVolume, Unclean, Unsupported, Short, JournalPending, Damaged, HasAttributes, PendingLinks, NameTaken, NameTooLong, HashCrowd}
use Rattle.reiser_bitmap.specs.refusals.declared.rule.Rule.{Rule}
use Rattle.reiser_bitmap.specs.refusals.declared.rule.Rule.TheVariants.{SuperField, SystemFree, NodeHead, Layout, KeyOrder, BlockFree, BlockRange, BlockTwice, Body, EntryForm, ObjectForm, Overlap, NameTwice, DirTwice, SizeRange, Reread}
use Rattle.reiser_walk.specs.declared.reiser_tree.ReiserTree.{ReiserTree}
use Rattle.reiser_walk.specs.Rules.{tree_damages}

-- a rule of the tree
abbrev pub IsTreeRule : Rule → Type 0
IsTreeRule SuperField = ⊥
IsTreeRule SystemFree = ⊥
IsTreeRule NodeHead = Unit {0}
IsTreeRule Layout = Unit {0}
IsTreeRule KeyOrder = Unit {0}
IsTreeRule BlockFree = Unit {0}
IsTreeRule BlockRange = Unit {0}
IsTreeRule BlockTwice = Unit {0}
IsTreeRule Body = Unit {0}
IsTreeRule EntryForm = ⊥
IsTreeRule ObjectForm = ⊥
IsTreeRule Overlap = ⊥
IsTreeRule NameTwice = ⊥
IsTreeRule DirTwice = ⊥
IsTreeRule SizeRange = ⊥
IsTreeRule Reread = ⊥

-- a refusal that names a rule of the tree
abbrev pub IsTreeRefusal : VolumeRefusal → Type 0
IsTreeRefusal NotVolume = ⊥
IsTreeRefusal (Unclean state) = ⊥
IsTreeRefusal (Unsupported feature value) = ⊥
IsTreeRefusal (Short volume device) = ⊥
IsTreeRefusal (JournalPending trans) = ⊥
IsTreeRefusal (Damaged block rule) = IsTreeRule rule
IsTreeRefusal (HasAttributes dir object) = ⊥
IsTreeRefusal (PendingLinks object) = ⊥
IsTreeRefusal (NameTaken dir object) = ⊥
IsTreeRefusal (NameTooLong dir object length) = ⊥
IsTreeRefusal (HashCrowd dir object hash) = ⊥

-- what a walk answers, whatever the source gives; want of memory is not among it
abbrev pub IsTreeAnswer : VolAnswer → Type 0
IsTreeAnswer (Refused refusal) = IsTreeRefusal refusal
IsTreeAnswer Fault = Unit {0}
IsTreeAnswer Memory = ⊥

-- the answer is one of these refusals, or a fault
abbrev pub IsOneOf : List VolumeRefusal → VolAnswer → Type 0
IsOneOf damages (Refused refusal) = Contains damages refusal
IsOneOf damages Fault = Unit {0}
IsOneOf damages Memory = ⊥

-- the answer is one of what is wrong with the tree, or a fault
abbrev pub BlamesDamage : ReiserTree → Image → List Bool → VolAnswer → Type 0
BlamesDamage tree image used = IsOneOf (tree_damages tree image used)
