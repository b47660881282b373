-- What is answered of a volume.
use Rattle.std.specs.Prelude.{◌≡◌, List, Bool, length}
use Rattle.reiser_super.specs.reiserfs_format.declared.block.TheConstants.{SUPER_BLOCK}
use Rattle.reiser_bitmap.specs.outside.History.{Image, block_at}
use Rattle.reiser_bitmap.specs.refusals.declared.answer.VolAnswer.{VolAnswer}
use Rattle.reiser_bitmap.specs.refusals.declared.answer.VolAnswer.TheVariants.{Refused, Fault, Memory}
use Rattle.reiser_bitmap.specs.refusals.declared.refusal.VolumeRefusal.{VolumeRefusal}
use Rattle.reiser_bitmap.specs.refusals.declared.refusal.VolumeRefusal.TheVariants.{NotVolume, Unclean, Unsupported, Short, JournalPending, Damaged, HasAttributes, PendingLinks, NameTaken, NameTooLong, HashCrowd}
use Rattle.reiser_bitmap.specs.refusals.declared.rule.Rule.{Rule}
use Rattle.reiser_bitmap.specs.refusals.declared.rule.Rule.TheVariants.{SuperField, SystemFree, NodeHead, Layout, KeyOrder, BlockFree, BlockRange, BlockTwice, Body, EntryForm, ObjectForm, Overlap, NameTwice, DirTwice, SizeRange, Reread}
use Rattle.reiser_super.specs.declared.superblock.Super.{Super}
use Rattle.reiser_super.specs.Rules.{IsCleanSuper}
use Rattle.reiser_super.specs.Journal.{IsClean}
use Rattle.reiser_volume.specs.Volume.{superblock, used_of, MarksSystem, IsRefusal}

-- a rule of a volume: each but that of a block that reads otherwise than before
abbrev pub IsVolumeRule : Rule → Type 0
IsVolumeRule SuperField = Unit {0}
IsVolumeRule SystemFree = Unit {0}
IsVolumeRule NodeHead = Unit {0}
IsVolumeRule Layout = Unit {0}
IsVolumeRule KeyOrder = Unit {0}
IsVolumeRule BlockFree = Unit {0}
IsVolumeRule BlockRange = Unit {0}
IsVolumeRule BlockTwice = Unit {0}
IsVolumeRule Body = Unit {0}
IsVolumeRule EntryForm = Unit {0}
IsVolumeRule ObjectForm = Unit {0}
IsVolumeRule Overlap = Unit {0}
IsVolumeRule NameTwice = Unit {0}
IsVolumeRule DirTwice = Unit {0}
IsVolumeRule SizeRange = Unit {0}
IsVolumeRule Reread = ⊥

-- a refusal that names a rule of a volume
abbrev pub NamesVolumeRule : VolumeRefusal → Type 0
NamesVolumeRule NotVolume = Unit {0}
NamesVolumeRule (Unclean state) = Unit {0}
NamesVolumeRule (Unsupported feature value) = Unit {0}
NamesVolumeRule (Short volume device) = Unit {0}
NamesVolumeRule (JournalPending trans) = Unit {0}
NamesVolumeRule (Damaged block rule) = IsVolumeRule rule
NamesVolumeRule (HasAttributes dir object) = Unit {0}
NamesVolumeRule (PendingLinks object) = Unit {0}
NamesVolumeRule (NameTaken dir object) = Unit {0}
NamesVolumeRule (NameTooLong dir object length) = Unit {0}
NamesVolumeRule (HashCrowd dir object hash) = Unit {0}

-- what is answered of a volume, whatever the source gives
abbrev pub IsVolumeAnswer : VolAnswer → Type 0
IsVolumeAnswer (Refused refusal) = NamesVolumeRule refusal
IsVolumeAnswer Fault = Unit {0}
IsVolumeAnswer Memory = Unit {0}

-- the same of what was read
abbrev pub IsVerdict : VolAnswer → Type 0
IsVerdict (Refused refusal) = NamesVolumeRule refusal
IsVerdict Fault = ⊥
IsVerdict Memory = Unit {0}

-- a refusal is one of these blocks
abbrev pub RefusesVolume : Image → VolAnswer → Type 0
RefusesVolume image (Refused refusal) = IsRefusal image refusal
RefusesVolume image Fault = Unit {0}
RefusesVolume image Memory = Unit {0}

-- the fields of a superblock in order
pub record IsSuperOf (image : Image) (s : Super) : Type 0 where
  pub fields : s ≡ superblock image
  pub clean : IsCleanSuper (block_at image SUPER_BLOCK) (length image)

-- superblock, journal and bitmap are in order, and these are the used blocks
pub record IsBitmapOf (image : Image) (used : List Bool) : Type 0 where
  pub clean : IsClean image
  pub system : MarksSystem image
  pub bits : used ≡ used_of image
