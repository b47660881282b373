-- Laws of a disk in memory, and of the choices of a crash.
use Rattle.std.specs.Prelude.{◌≡◌, ℕ, ◌<◌, ◌≤◌, ◌^◌, false, List, [], All, length, replicate, slice_index_or, Option, Some, None, is_some, if◌then◌else◌}
use Rattle.std.proofs.Common.{refl, ◌∙◌, ap}
use Rattle.outside.specs.declared.disk.Access.{Access}
use Rattle.outside.specs.History.{Image, History, block_at, reads, sector, synced_from, MayLeave}
use Rattle.outside_mem.specs.Disk.{State, Kept}
use Rattle.outside_mem.specs.Choice.{HasWholeBlocks, IsLeftWhole, is_waiting, waiting_blocks, values, by_number, crash_image, torn_image}

-- what reads give: nothing before it is open
abbrev pub readable : State → Image
readable d = if is_some d.opened then reads d.history else []

abbrev pub readable_len : State → ℕ
readable_len d = length (readable d)

pub kept_refl : (a : State) → Kept a a
kept_refl a = record { history = refl; opened = refl }

pub kept_trans : (a b c : State) → Kept a b → Kept b c → Kept a c
kept_trans a b c first second = record { history = second.history ∙ first.history; opened = second.opened ∙ first.opened }

pub kept_readable : (a b : State) → Kept a b → readable b ≡ readable a
kept_readable a b kept = λ i. if is_some (kept.opened i) then reads (kept.history i) else []

pub open_readable : (a : State) (access : Access) → a.opened ≡ Some access → readable a ≡ reads a.history
open_readable a access is = ap (λ (o : Option Access). if is_some o then reads a.history else []) is

pub closed_readable : (a : State) → a.opened ≡ None → readable_len a ≡ 0
closed_readable a is = ap (λ (o : Option Access). length (if is_some o then reads a.history else [])) is

-- The i-th of the blocks that wait, in ascending order, has the value of the i-th number modulo the number of its
-- values, and a missing number is 0. Each other block is as at the last sync.
abbrev pub ChoiceDecidesEachBlock : Type 0
ChoiceDecidesEachBlock =
    (h : History) (choice : List ℕ)
    → (length (crash_image h choice) ≡ length h.start)
    × ((i b : ℕ) → i < length (waiting_blocks h) → b ≡ slice_index_or (waiting_blocks h) i 0
    → block_at (crash_image h choice) b ≡ by_number (values h b) (slice_index_or choice i 0))
    × ((b : ℕ) → b < length h.start → is_waiting h.calls b ≡ false
    → block_at (crash_image h choice) b ≡ block_at (synced_from h.start h.calls) b)

-- Each image that a crash may leave with each block whole comes for a choice of numbers below 2^32, as long as no block has more values.
abbrev pub EveryCrashHasAChoice : Type 0
EveryCrashHasAChoice =
    (h : History) (image : Image)
    → ((b : ℕ) → b < length h.start → length (values h b) ≤ 2 ^ 32)
    → IsLeftWhole h image
    → (choice : List ℕ) × All (λ number. number < 2 ^ 32) choice × (crash_image h choice ≡ image)

-- And for each choice there comes an image that a crash may leave.
abbrev pub EveryChoiceIsACrash : Type 0
EveryChoiceIsACrash = (h : History) (choice : List ℕ) → MayLeave h.start h.calls (crash_image h choice)

-- ---- blocks torn by sectors
-- The i-th of the blocks that wait, in ascending order, has in sector s what the value has there whose number is the s-th of the i-th eight, modulo
-- the number of its values; missing numbers are 0. Each other block is as at the last sync.
abbrev pub ChoiceDecidesEachSector : Type 0
ChoiceDecidesEachSector =
    (h : History) (choice : List (List ℕ)) → HasWholeBlocks h
    → (length (torn_image h choice) ≡ length h.start)
    × ((i b s : ℕ) → i < length (waiting_blocks h) → b ≡ slice_index_or (waiting_blocks h) i 0 → s < 8
    → sector (block_at (torn_image h choice) b) s ≡ sector (by_number (values h b) (slice_index_or (slice_index_or choice i (replicate 8 0)) s 0)) s)
    × ((b : ℕ) → b < length h.start → is_waiting h.calls b ≡ false
    → block_at (torn_image h choice) b ≡ block_at (synced_from h.start h.calls) b)

-- Each image that a crash may leave comes for a choice of eight numbers for each block that waits, as long as no block has more than 2^32 values.
abbrev pub EveryTornCrashHasAChoice : Type 0
EveryTornCrashHasAChoice =
    (h : History) (image : Image)
    → HasWholeBlocks h
    → ((b : ℕ) → b < length h.start → length (values h b) ≤ 2 ^ 32)
    → MayLeave h.start h.calls image
    → (choice : List (List ℕ))
    × All (λ numbers. (length numbers ≡ 8) × All (λ number. number < 2 ^ 32) numbers) choice
    × (torn_image h choice ≡ image)

-- And for each choice there comes an image that a crash may leave.
abbrev pub EveryTornChoiceIsACrash : Type 0
EveryTornChoiceIsACrash = (h : History) (choice : List (List ℕ)) → HasWholeBlocks h → MayLeave h.start h.calls (torn_image h choice)
