-- What is answered of superblock, journal and bitmap, which come before the tree.
use Rattle.std.specs.Prelude.{◌≡◌}
use Rattle.reiser_bitmap.specs.outside.History.{Image}
use Rattle.reiser_bitmap.specs.refusals.declared.answer.VolAnswer.{VolAnswer}
use Rattle.reiser_bitmap.specs.refusals.declared.answer.VolAnswer.TheVariants.{Refused, Fault, Memory}
use Rattle.reiser_bitmap.specs.refusals.declared.refusal.VolumeRefusal.{VolumeRefusal}
use Rattle.reiser_bitmap.specs.refusals.declared.refusal.VolumeRefusal.TheVariants.{NotVolume, Unclean, Unsupported, Short, JournalPending, Damaged, HasAttributes, PendingLinks, NameTaken, NameTooLong, HashCrowd}
use Rattle.reiser_bitmap.specs.refusals.declared.rule.Rule.{Rule}
use Rattle.reiser_bitmap.specs.refusals.declared.rule.Rule.TheVariants.{SuperField, SystemFree, NodeHead, Layout, KeyOrder, BlockFree, BlockRange, BlockTwice, Body, EntryForm, ObjectForm, Overlap, NameTwice, DirTwice, SizeRange, Reread}
use Rattle.reiser_volume.specs.declared.front.Front.{Front}
use Rattle.reiser_volume.specs.Volume.{superblock, used_of, IsFrontAccepted, IsFrontRefusal}

-- what was read of them
pub record IsFrontOf (image : Image) (front : Front) : Type 0 where
  pub accepted : IsFrontAccepted image
  pub sup : front.sup ≡ superblock image
  pub bitmap : front.bitmap ≡ used_of image

-- a rule of the superblock or of the bitmap
abbrev pub IsFrontRule : Rule → Type 0
IsFrontRule SuperField = Unit {0}
IsFrontRule SystemFree = Unit {0}
IsFrontRule NodeHead = ⊥
IsFrontRule Layout = ⊥
IsFrontRule KeyOrder = ⊥
IsFrontRule BlockFree = ⊥
IsFrontRule BlockRange = ⊥
IsFrontRule BlockTwice = ⊥
IsFrontRule Body = ⊥
IsFrontRule EntryForm = ⊥
IsFrontRule ObjectForm = ⊥
IsFrontRule Overlap = ⊥
IsFrontRule NameTwice = ⊥
IsFrontRule DirTwice = ⊥
IsFrontRule SizeRange = ⊥
IsFrontRule Reread = ⊥

-- a refusal that names a rule of superblock, journal or bitmap
abbrev pub NamesFrontRule : VolumeRefusal → Type 0
NamesFrontRule NotVolume = Unit {0}
NamesFrontRule (Unclean state) = Unit {0}
NamesFrontRule (Unsupported feature value) = Unit {0}
NamesFrontRule (Short volume device) = Unit {0}
NamesFrontRule (JournalPending trans) = Unit {0}
NamesFrontRule (Damaged block rule) = IsFrontRule rule
NamesFrontRule (HasAttributes dir object) = ⊥
NamesFrontRule (PendingLinks object) = ⊥
NamesFrontRule (NameTaken dir object) = ⊥
NamesFrontRule (NameTooLong dir object length) = ⊥
NamesFrontRule (HashCrowd dir object hash) = ⊥

-- what is answered of them, whatever the source gives
abbrev pub IsFrontAnswer : VolAnswer → Type 0
IsFrontAnswer (Refused refusal) = NamesFrontRule refusal
IsFrontAnswer Fault = Unit {0}
IsFrontAnswer Memory = Unit {0}

-- a refusal is one of these blocks
abbrev pub RefusesFront : Image → VolAnswer → Type 0
RefusesFront image (Refused refusal) = IsFrontRefusal image refusal
RefusesFront image Fault = Unit {0}
RefusesFront image Memory = Unit {0}
