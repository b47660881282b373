-- What maps of blocks stand for.
use Rattle.std.specs.Prelude.{◌≡◌, ℕ, ◌<◌, Bool, true, List, ◌∷◌, map, is_some, Option, Some, None}
use Rattle.std.specs.Ordering.{nat_cmp}
use Rattle.std.specs.BTreeMap.{BTreeMap, get}
use Rattle.std.specs.List.{range_with_len}
use Rattle.outside.specs.vol_block.declared.block.Block.{Block}
use Rattle.outside.specs.vol_block.Volume.{zeros}
use Rattle.outside.specs.History.{Call, reads_from, synced_from}
use Rattle.outside_mem.specs.Choice.{HasWholeBlocks, by_number, is_waiting, torn_by}

abbrev pub bytes_or : List ℕ → Option Block → List ℕ
bytes_or other None = other
bytes_or other (Some block) = block.bytes

-- the bytes of a block, zeros where the map has none
abbrev pub bytes_at : BTreeMap ℕ Block → ℕ → List ℕ
bytes_at now n = bytes_or zeros (get nat_cmp now n)

-- the bytes of a block before its writes, which an undo map keeps for each block that was written
abbrev pub undone_at : BTreeMap ℕ Block → BTreeMap ℕ Block → ℕ → List ℕ
undone_at undo now n = bytes_or (bytes_at now n) (get nat_cmp undo n)

abbrev pub has_key : BTreeMap ℕ Block → ℕ → Bool
has_key blocks n = is_some (get nat_cmp blocks n)

-- of a block that an undo map keeps, what is made of it; else the bytes as they are
abbrev pub made_or : List ℕ → (List ℕ → List ℕ) → Option Block → List ℕ
made_or other make None = other
made_or other make (Some synced) = make synced.bytes

-- so the value of that number
abbrev pub chosen_or : List ℕ → List (List ℕ) → ℕ → Option Block → List ℕ
chosen_or other written number = made_or other (λ synced. by_number (synced ∷ written) number)

-- and the sectors of the values with those numbers
abbrev pub torn_or : List ℕ → List (List ℕ) → List ℕ → Option Block → List ℕ
torn_or other written numbers = made_or other (λ synced. torn_by (synced ∷ written) numbers)

-- n blocks
abbrev pub image_of : ℕ → (ℕ → List ℕ) → List (List ℕ)
image_of n block = map block (range_with_len 0 n)

-- The blocks that are present are what reads give after the calls, from those at the start. The others are what reads
-- gave at the last sync, and are kept for exactly the blocks that were written since. All have 4096 bytes.
pub record IsConsistent (n : ℕ) (present started unsynced : ℕ → List ℕ) (kept : ℕ → Bool) (calls : List Call) : Type 0 where
  pub reads_are : image_of n present ≡ reads_from (image_of n started) calls
  pub synced_are : image_of n unsynced ≡ synced_from (image_of n started) calls
  pub kept_are : (q : ℕ) → kept q ≡ is_waiting calls q
  pub in_range : (q : ℕ) → is_waiting calls q ≡ true → q < n
  pub whole : HasWholeBlocks (record { start = image_of n started; calls = calls })
