-- What a trial and its steps may answer.
use Rattle.std.specs.Prelude.{◌≡◌, ◌≢◌, ◌⊎◌, ◌≤◌, ◌<◌, ℕ, length}
use Rattle.btr_reader.specs.btrfs_format.declared.block.TheConstants.{SUPER_BLOCK}
use Rattle.reiser_bitmap.specs.outside.Format.{format_in}
use Rattle.reiser_bitmap.specs.outside.History.{History, Image, IsSettled, reads}
use Rattle.convert_core.specs.command_answers.declared.answer.Answer.{Answer}
use Rattle.convert_core.specs.command_answers.declared.answer.Answer.TheVariants as answer
use Rattle.reiser_bitmap.specs.refusals.declared.refusal.VolumeRefusal.TheVariants.{Damaged, Short}
use Rattle.reiser_bitmap.specs.refusals.declared.rule.Rule.TheVariants.{Reread}
use Rattle.reiser_bitmap.specs.vol_block.declared.format.Format.TheVariants.{Neither}
use Rattle.reiser_make.specs.declared.maker.MakeAnswer.{MakeAnswer}
use Rattle.reiser_make.specs.declared.maker.MakeAnswer.TheVariants as maker
use Rattle.convert_core.specs.convert_trees_laws.Rows.{HasBytes}
use Rattle.convert_core.specs.convert_steps.Prepared.{LacksSpace}
use Rattle.trial_core.specs.Round.{FreeAreBytes, plain}
use Rattle.trial_core.specs.Trial.{IsScratch, needed_by, sample_on}

-- ---- the answers by those of the steps

-- what is read is not what was written
abbrev pub changed : Answer
changed = answer.Volume (Damaged SUPER_BLOCK Reread)

abbrev pub by_step : Answer → Answer
by_step (answer.NoSpace needed free run_needed longest) = answer.NoSpace needed free run_needed longest
by_step answer.Fault = answer.Fault
by_step answer.Memory = answer.Memory
by_step _ = changed

abbrev pub by_maker : MakeAnswer → Answer
by_maker (maker.Full needed blocks) = answer.NoSpace needed blocks 0 0
by_maker maker.Fault = answer.Fault
by_maker maker.Memory = answer.Memory

-- ---- of a step

-- a call failed, or memory was short
abbrev pub IsStop : Answer → Type 0
IsStop e = (e ≡ answer.Fault) ⊎ (e ≡ answer.Memory)

-- what may be answered of what is only read, whatever the disk gives
abbrev pub IsTrialReadAnswer : Answer → Type 0
IsTrialReadAnswer e = IsStop e ⊎ (e ≡ changed)

-- a call failed or memory was short, or this is not so of the volume that is read
abbrev pub StopsUnless : Type 0 → Answer → Type 0
StopsUnless Holds e = IsStop e ⊎ ((e ≡ changed) × ¬ Holds)

-- ---- of a round

-- The answer where an accepted volume is not converted and rolled back: it has too little space. It is called changed only where one of the
-- blocks that it leaves free tells no bytes.
abbrev pub RefusesRound : Image → Answer → Type 0
RefusesRound image (answer.Volume r) = (r ≡ Damaged SUPER_BLOCK Reread) × ¬ FreeAreBytes image
RefusesRound image (answer.NoSpace needed free run_needed longest) = LacksSpace image plain needed free run_needed longest
RefusesRound image answer.Fault = Unit {0}
RefusesRound image answer.Memory = Unit {0}
RefusesRound image _ = ⊥

-- what may be answered of a round whatever the disk gives
abbrev pub IsRoundAnswer : Answer → Type 0
IsRoundAnswer (answer.Volume r) = r ≡ Damaged SUPER_BLOCK Reread
IsRoundAnswer (answer.NoSpace needed free run_needed longest) = Unit {0}
IsRoundAnswer answer.Fault = Unit {0}
IsRoundAnswer answer.Memory = Unit {0}
IsRoundAnswer _ = ⊥

-- what a step leaves that ends so: nothing was written where there is too little space
abbrev pub LeavesRound : History → History → Answer → Type 0
LeavesRound old new (answer.NoSpace needed free run_needed longest) = new ≡ old
LeavesRound old new _ = Unit {0}

-- ---- of what comes before a round

-- a disk that is none for a trial has a volume, or too few blocks
abbrev pub RefusesScratch : Image → Answer → Type 0
RefusesScratch disk (answer.Volume r) = (format_in disk ≡ Neither) × (r ≡ Short 65536 (length disk)) × (length disk < 65536)
RefusesScratch disk answer.WrongFormat = format_in disk ≢ Neither
RefusesScratch disk answer.Fault = Unit {0}
RefusesScratch disk _ = ⊥

-- so whatever the disk gives
abbrev pub IsScratchAnswer : Answer → Type 0
IsScratchAnswer (answer.Volume r) = (device : ℕ) × (r ≡ Short 65536 device)
IsScratchAnswer answer.WrongFormat = Unit {0}
IsScratchAnswer answer.Fault = Unit {0}
IsScratchAnswer _ = ⊥

-- the sample takes more blocks than the volume has: that many of 65,536, and no run of free units is asked for
abbrev pub IsTooLarge : ℕ → ℕ → ℕ → ℕ → ℕ → Type 0
IsTooLarge number needed free run_needed longest = (65536 < needed_by number) × (needed ≡ needed_by number) × (free ≡ 65536) × (run_needed ≡ 0) × (longest ≡ 0)

-- what may be answered where the sample is not made
abbrev pub IsMakeAnswer : ℕ → Answer → Type 0
IsMakeAnswer number (answer.NoSpace needed free run_needed longest) = IsTooLarge number needed free run_needed longest
IsMakeAnswer number answer.Fault = Unit {0}
IsMakeAnswer number answer.Memory = Unit {0}
IsMakeAnswer number _ = ⊥

-- ---- of a trial

-- the sample is too large for the volume, or leaves too little space for a conversion
abbrev pub LacksRoom : ℕ → Image → ℕ → ℕ → ℕ → ℕ → Type 0
LacksRoom number disk needed free run_needed longest =
    IsTooLarge number needed free run_needed longest ⊎ ((needed_by number ≤ 65536) × LacksSpace (sample_on number disk) plain needed free run_needed longest)

-- The answer where a disk is not taken for the trial of a number: it has a volume; it has too few blocks; or the sample has too little room.
-- It is called changed only where it tells blocks that are no bytes.
abbrev pub RefusesTrial : ℕ → Image → Answer → Type 0
RefusesTrial number disk (answer.Volume r) =
    (format_in disk ≡ Neither) × (((r ≡ Short 65536 (length disk)) × (length disk < 65536)) ⊎ ((r ≡ Damaged SUPER_BLOCK Reread) × (65536 ≤ length disk) × ¬ HasBytes disk))
RefusesTrial number disk (answer.NoSpace needed free run_needed longest) = IsScratch disk × LacksRoom number disk needed free run_needed longest
RefusesTrial number disk answer.WrongFormat = format_in disk ≢ Neither
RefusesTrial number disk answer.Fault = Unit {0}
RefusesTrial number disk answer.Memory = Unit {0}
RefusesTrial number disk _ = ⊥

-- what may be answered whatever the disk gives
abbrev pub IsTrialAnswer : Answer → Type 0
IsTrialAnswer (answer.Volume r) = ((device : ℕ) × (r ≡ Short 65536 device)) ⊎ (r ≡ Damaged SUPER_BLOCK Reread)
IsTrialAnswer (answer.NoSpace needed free run_needed longest) = Unit {0}
IsTrialAnswer answer.WrongFormat = Unit {0}
IsTrialAnswer answer.Fault = Unit {0}
IsTrialAnswer answer.Memory = Unit {0}
IsTrialAnswer _ = ⊥

-- What a refusal leaves, by the history behind the first sync. Where the disk has a volume or too few blocks, and where the sample is too large for the volume, nothing was
-- written. Where the sample leaves too little space for a conversion it stays, and has reached the device. After a failed call or want of
-- memory any block may have been written.
abbrev pub LeavesRefused : ℕ → History → History → Answer → Type 0
LeavesRefused number old new (answer.Volume r) = (length (reads old) < 65536 → new ≡ old) × (HasBytes (reads old) → new ≡ old)
LeavesRefused number old new (answer.NoSpace needed free run_needed longest) =
    (65536 < needed_by number → new ≡ old) × (needed_by number ≤ 65536 → (reads new ≡ sample_on number (reads old)) × IsSettled new)
LeavesRefused number old new answer.Fault = Unit {0}
LeavesRefused number old new answer.Memory = Unit {0}
LeavesRefused number old new _ = new ≡ old
