-- The line of an answer, and its status. The words of a refusal are its number, its name, and the numbers that it keeps, in
-- decimal.
use Rattle.std.specs.Prelude.{ℕ, List, [], ◌∷◌, ◌++◌, codes, decimal}
use Rattle.command_answers.specs.refusals.declared.rule.Feature.{Feature}
use Rattle.command_answers.specs.refusals.declared.rule.Feature.TheVariants as features
use Rattle.command_answers.specs.refusals.declared.rule.Rule.{Rule}
use Rattle.command_answers.specs.refusals.declared.rule.Rule.TheVariants as rules
use Rattle.command_answers.specs.refusals.declared.rule.BtrRule.{BtrRule}
use Rattle.command_answers.specs.refusals.declared.rule.BtrRule.TheVariants as btr_rules
use Rattle.command_answers.specs.refusals.declared.refusal.VolumeRefusal.{VolumeRefusal}
use Rattle.command_answers.specs.refusals.declared.refusal.VolumeRefusal.TheVariants as volume
use Rattle.command_answers.specs.refusals.declared.refusal.BtrRefusal.{BtrRefusal}
use Rattle.command_answers.specs.refusals.declared.refusal.BtrRefusal.TheVariants as btr
use Rattle.command_answers.specs.declared.answer.Answer.{Answer}
use Rattle.command_answers.specs.declared.answer.Answer.TheVariants.{Volume, Btr, NoSpace, WrongFormat, ImageMissing, ImageMoved, ImageDamaged, ReservedUsed, NotSound, ImageShared, Fault, Memory}

abbrev pub feature_number : Feature → ℕ
feature_number features.OldMagic = 1
feature_number features.BlockSize = 2
feature_number features.JournalDevice = 3
feature_number features.FsState = 4
feature_number features.BlockCount = 5
feature_number features.Incompat = 11
feature_number features.ChecksumType = 12
feature_number features.SectorSize = 13
feature_number features.NodeSize = 14
feature_number features.DeviceCount = 15
feature_number features.ChunkType = 16
feature_number features.Compression = 17
feature_number features.Encryption = 18
feature_number features.Generation = 19

abbrev pub rule_number : Rule → ℕ
rule_number rules.SuperField = 1
rule_number rules.SystemFree = 2
rule_number rules.NodeHead = 3
rule_number rules.Layout = 4
rule_number rules.KeyOrder = 5
rule_number rules.BlockFree = 6
rule_number rules.BlockRange = 7
rule_number rules.BlockTwice = 8
rule_number rules.Body = 9
rule_number rules.EntryForm = 10
rule_number rules.ObjectForm = 11
rule_number rules.Overlap = 12
rule_number rules.NameTwice = 13
rule_number rules.DirTwice = 14
rule_number rules.SizeRange = 15
rule_number rules.Reread = 16

abbrev pub btr_rule_number : BtrRule → ℕ
btr_rule_number btr_rules.SuperCsum = 1
btr_rule_number btr_rules.SuperField = 2
btr_rule_number btr_rules.ChunkForm = 3
btr_rule_number btr_rules.Unmapped = 4
btr_rule_number btr_rules.NodeCsum = 5
btr_rule_number btr_rules.NodeHead = 6
btr_rule_number btr_rules.NodeLayout = 7
btr_rule_number btr_rules.KeyOrder = 8
btr_rule_number btr_rules.Body = 9
btr_rule_number btr_rules.NoInode = 10
btr_rule_number btr_rules.NameForm = 11
btr_rule_number btr_rules.ExtentForm = 12
btr_rule_number btr_rules.DirTwice = 13

-- A line is a first word and further words, each of these after a space, with a line feed at the end. Here with the
-- text that comes after it.
abbrev pub words_then : List (List ℕ) → List ℕ → List ℕ
words_then [] rest = 10 ∷ rest
words_then (word ∷ words) rest = 32 ∷ (word ++ words_then words rest)

-- the words to the line's end
abbrev pub words_to_end : List (List ℕ) → List ℕ
words_to_end words = words_then words []

abbrev pub volume_words : VolumeRefusal → List (List ℕ)
volume_words volume.NotVolume = codes "1" ∷ codes "novolume" ∷ []
volume_words (volume.Unclean state) = codes "2" ∷ codes "unclean" ∷ decimal state ∷ []
volume_words (volume.Unsupported feature value) = codes "3" ∷ codes "unsupported" ∷ decimal (feature_number feature) ∷ decimal value ∷ []
volume_words (volume.Short length device) = codes "4" ∷ codes "short" ∷ decimal length ∷ decimal device ∷ []
volume_words (volume.JournalPending trans) = codes "5" ∷ codes "journal" ∷ decimal trans ∷ []
volume_words (volume.Damaged block rule) = codes "6" ∷ codes "damaged" ∷ decimal block ∷ decimal (rule_number rule) ∷ []
volume_words (volume.HasAttributes dir object) = codes "7" ∷ codes "attributes" ∷ decimal dir ∷ decimal object ∷ []
volume_words (volume.PendingLinks object) = codes "8" ∷ codes "links" ∷ decimal object ∷ []
volume_words (volume.NameTaken dir object) = codes "9" ∷ codes "taken" ∷ decimal dir ∷ decimal object ∷ []
volume_words (volume.NameTooLong dir object length) = codes "10" ∷ codes "long" ∷ decimal dir ∷ decimal object ∷ decimal length ∷ []
volume_words (volume.HashCrowd dir object hash) = codes "11" ∷ codes "crowd" ∷ decimal dir ∷ decimal object ∷ decimal hash ∷ []

abbrev pub btr_words : BtrRefusal → List (List ℕ)
btr_words (btr.BadBtrfs address rule) = codes "13" ∷ codes "badbtrfs" ∷ decimal address ∷ decimal (btr_rule_number rule) ∷ []
btr_words (btr.LogPending address) = codes "14" ∷ codes "log" ∷ decimal address ∷ []
btr_words (btr.Unsupported feature value) = codes "3" ∷ codes "unsupported" ∷ decimal (feature_number feature) ∷ decimal value ∷ []

-- the line of an answer: its words after the word refused, or what failed
abbrev pub answer_line : Answer → List ℕ
answer_line (Volume refusal) = codes "refused" ++ words_to_end (volume_words refusal)
answer_line (Btr refusal) = codes "refused" ++ words_to_end (btr_words refusal)
answer_line (NoSpace needed free run_needed longest_run) =
    codes "refused" ++ words_to_end (codes "15" ∷ codes "space" ∷ decimal needed ∷ decimal free ∷ decimal run_needed ∷ decimal longest_run ∷ [])
answer_line WrongFormat = codes "refused" ++ words_to_end (codes "16" ∷ codes "format" ∷ [])
answer_line ImageMissing = codes "refused" ++ words_to_end (codes "17" ∷ codes "noimage" ∷ [])
answer_line (ImageMoved block) = codes "refused" ++ words_to_end (codes "18" ∷ codes "moved" ∷ decimal block ∷ [])
answer_line (ImageDamaged refusal) = codes "refused" ++ words_to_end (codes "19" ∷ codes "image" ∷ volume_words refusal)
answer_line (ReservedUsed block) = codes "refused" ++ words_to_end (codes "20" ∷ codes "reserved" ∷ decimal block ∷ [])
answer_line (NotSound part address) = codes "refused" ++ words_to_end (codes "21" ∷ codes "unsound" ∷ decimal part ∷ decimal address ∷ [])
answer_line (ImageShared tree) = codes "refused" ++ words_to_end (codes "22" ∷ codes "shared" ∷ decimal tree ∷ [])
answer_line Fault = codes "device fault" ++ 10 ∷ []
answer_line Memory = codes "out of memory" ++ 10 ∷ []

-- 3 for a device fault, 4 for want of memory, 6 for too little room, and 1 for each refusal
abbrev pub answer_status : Answer → ℕ
answer_status (Volume refusal) = 1
answer_status (Btr refusal) = 1
answer_status (NoSpace needed free run_needed longest_run) = 6
answer_status WrongFormat = 1
answer_status ImageMissing = 1
answer_status (ImageMoved block) = 1
answer_status (ImageDamaged refusal) = 1
answer_status (ReservedUsed block) = 1
answer_status (NotSound part address) = 1
answer_status (ImageShared tree) = 1
answer_status Fault = 3
answer_status Memory = 4
