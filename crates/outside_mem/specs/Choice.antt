-- Which of the images that a crash may leave comes for a choice of numbers.
use Rattle.std.specs.Prelude.{◌≡◌, ◌⊎◌, ℕ, zero, suc, ◌%◌, ◌<◌, Bool, nat_eq, nat_lt, if◌then◌else◌, List, [], ◌∷◌, ◌++◌, length, map, filter, count_by, replicate, slice_index_or}
use Rattle.std.specs.List.{range_with_len}
use Rattle.outside.specs.History.{Image, Call, wrote, synced, History, EachWrite, Waits, block_at, sector, synced_from}

-- the bytes that were written to a block since the last sync, in their order
abbrev pub written : List Call → ℕ → List (List ℕ)
written [] b = []
written (wrote c bytes landed ∷ calls) b = if nat_eq c b then written calls b ++ bytes ∷ [] else written calls b
written (synced ∷ calls) b = []

-- the values of a block that a crash may leave: the one at the last sync, and then those written since
abbrev pub values : History → ℕ → List (List ℕ)
values h b = block_at (synced_from h.start h.calls) b ∷ written h.calls b

abbrev pub is_waiting : List Call → ℕ → Bool
is_waiting calls b = nat_lt 0 (length (written calls b))

-- the blocks that were written since the last sync, ascending
abbrev pub waiting_blocks : History → List ℕ
waiting_blocks h = filter (λ b. is_waiting h.calls b) (range_with_len 0 (length h.start))

-- an image that a crash may leave with each block whole: as at the last sync, or with a value written since
pub record IsLeftWhole (h : History) (image : Image) : Type 0 where
  pub size : length image ≡ length h.start
  pub each : (b : ℕ) → (block_at image b ≡ block_at (synced_from h.start h.calls) b) ⊎ Waits h.calls b (block_at image b)

-- the value of that number, modulo how many there are
abbrev pub by_number : List (List ℕ) → ℕ → List ℕ
by_number values number = slice_index_or values (number % length values) []

-- what a choice has for one of these ascending blocks: the i-th has the i-th of the choice, and the other one where there is none
abbrev pub choice_for : {A : Type 0} → A → List ℕ → List A → ℕ → A
choice_for none blocks choice b = slice_index_or choice (count_by (λ a. nat_lt a b) blocks) none

-- the number for such a block, 0 where there is none
abbrev pub number_for : List ℕ → List ℕ → ℕ → ℕ
number_for = choice_for 0

-- what a crash leaves by a choice of numbers for the blocks that wait
abbrev pub crash_image : History → List ℕ → Image
crash_image h choice =
    map (λ b. by_number (values h b) (number_for (waiting_blocks h) choice b)) (range_with_len 0 (length h.start))

-- ---- blocks torn by sectors
-- the first n sectors, each that of a value of its own
unfoldable pub sectors_of : (ℕ → List ℕ) → ℕ → List ℕ
sectors_of value zero = []
sectors_of value (suc n) = sectors_of value n ++ sector (value n) n

-- the block whose sector s is that of the value with the s-th of eight numbers
abbrev pub torn_by : List (List ℕ) → List ℕ → List ℕ
torn_by values numbers = sectors_of (λ s. by_number values (slice_index_or numbers s 0)) 8

-- the eight numbers for one of these ascending blocks, all 0 where there are none
abbrev pub numbers_for : List ℕ → List (List ℕ) → ℕ → List ℕ
numbers_for = choice_for (replicate 8 0)

-- what a crash leaves by a choice of eight numbers for each of the blocks that wait
abbrev pub torn_image : History → List (List ℕ) → Image
torn_image h choice =
    map (λ b. torn_by (values h b) (numbers_for (waiting_blocks h) choice b)) (range_with_len 0 (length h.start))

-- each block that there was at the start has 4096 bytes, and each value that was written
pub record HasWholeBlocks (h : History) : Type 0 where
  pub start : (b : ℕ) → b < length h.start → length (block_at h.start b) ≡ 4096
  pub written : EachWrite (λ _ bytes. length bytes ≡ 4096) h.calls
