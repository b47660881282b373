-- The checksums of data, beside the data.
use Rattle.std.specs.Prelude.{◌≡◌, ◌≢◌, ◌⊎◌, ◌<◌, ℕ, ◌+◌, ◌*◌, ◌/◌, ◌^◌, List, [], ◌∷◌, ◌++◌, take, drop, Some, All, Contains, IfSome}
use Rattle.btr_check_rules.specs.Sound.{Checksums, part_number}
use Rattle.btr_check_rules.specs.Sums.{sum_count}
use Rattle.btr_check_rules.specs.btr_reader.btr_node.Leaf.{Item}
use Rattle.btr_check_rules.specs.btr_reader.btr_reader_walk.Map.{place}
use Rattle.btr_check_rules.specs.btr_reader.btr_reader_walk.declared.map.MapRange.{MapRange}
use Rattle.btr_check_rules.specs.btr_reader.csum_kinds.Kind.{kind_sum, kind_width}
use Rattle.btr_check_rules.specs.btr_reader.csum_kinds.declared.kind.SumKind.{SumKind}
use Rattle.btr_check_rules.specs.btr_reader.outside.History.{Image, block_at}
use Rattle.btr_check_sums.specs.PlaceRuns.{TellsPlaces}
use Rattle.btr_check_sums.specs.declared.due_sum.DataPass.{DataPass}
use Rattle.btr_check_sums.specs.declared.due_sum.DueSum.{DueSum}

-- checksum number k of an item, and the address of its block
abbrev pub told_sum : SumKind → Item → ℕ → List ℕ
told_sum sums i k = take (kind_width sums) (drop (kind_width sums * k) i.1)

abbrev pub sum_address : Item → ℕ → ℕ
sum_address i k = i.0.offset + 4096 * k

-- the checksum of a block's bytes
abbrev pub sum_of : SumKind → List ℕ → List ℕ
sum_of sums bytes = take (kind_width sums) (kind_sum sums bytes)

-- ---- what is asked

-- Each checksum whose block has an address of 64 bits in a range is right.
abbrev pub AreSumsRight : Image → List MapRange → SumKind → List Item → Type 0
AreSumsRight image ranges sums items =
    (i : Item) → Contains items i → (k at : ℕ) → k < sum_count sums i → sum_address i k < 2 ^ 64 → place ranges (sum_address i k) ≡ Some at
    → told_sum sums i k ≡ sum_of sums (block_at image (at / 4096))

-- The checksum that one of these items tells of the block at an address is wrong.
pub record HasWrongSum (image : Image) (ranges : List MapRange) (sums : SumKind) (items : List Item) (a : ℕ) : Type 0 where
  pub item : Item
  pub there : Contains items item
  pub number : ℕ
  pub counted : number < sum_count sums item
  pub address : sum_address item number ≡ a
  pub at : ℕ
  pub place_is : place ranges a ≡ Some at
  pub wrong : told_sum sums item number ≢ sum_of sums (block_at image (at / 4096))

abbrev pub BreaksSums : Image → List MapRange → SumKind → List Item → ℕ → ℕ → Type 0
BreaksSums image ranges sums items part a = (part ≡ part_number Checksums) × HasWrongSum image ranges sums items a

-- ---- what is due

abbrev pub due_sum : SumKind → DueSum → List ℕ
due_sum sums d = take (kind_width sums) d.sum

-- the block that has these bytes has the checksum
abbrev pub IsRightOf : SumKind → List ℕ → DueSum → Type 0
IsRightOf sums bytes d = due_sum sums d ≡ sum_of sums bytes

abbrev pub IsRight : Image → SumKind → DueSum → Type 0
IsRight image sums d = IsRightOf sums (block_at image d.block) d

-- it is wrong at this address, or one of these is
abbrev pub IsWrongOne : Image → SumKind → DueSum → ℕ → ℕ → Type 0
IsWrongOne image sums d part a = (part ≡ part_number Checksums) × (d.address ≡ a) × ¬ IsRight image sums d

abbrev pub IsWrongDue : Image → SumKind → List DueSum → ℕ → ℕ → Type 0
IsWrongDue image sums due part a = (d : DueSum) × Contains due d × IsWrongOne image sums d part a

-- It is one of those that these items tell.
pub record IsDueOf (ranges : List MapRange) (sums : SumKind) (items : List Item) (d : DueSum) : Type 0 where
  pub item : Item
  pub there : Contains items item
  pub number : ℕ
  pub counted : number < sum_count sums item
  pub address : sum_address item number ≡ d.address
  pub at : ℕ
  pub place_is : place ranges d.address ≡ Some at
  pub block_is : d.block ≡ at / 4096
  pub sum_is : due_sum sums d ≡ told_sum sums item number

-- a checksum of an item is right, or is due
abbrev pub IsMet : Image → List MapRange → SumKind → List DueSum → Item → ℕ → Type 0
IsMet image ranges sums due i k =
    (at : ℕ) → sum_address i k < 2 ^ 64 → place ranges (sum_address i k) ≡ Some at
    → (told_sum sums i k ≡ sum_of sums (block_at image (at / 4096)))
    ⊎ ((d : DueSum) × Contains due d × (due_sum sums d ≡ told_sum sums i k) × (d.block ≡ at / 4096))

abbrev pub AreMet : Image → List MapRange → SumKind → List DueSum → List Item → Type 0
AreMet image ranges sums due items = (i : Item) → Contains items i → (k : ℕ) → k < sum_count sums i → IsMet image ranges sums due i k

-- Of the checksums of these items each is right or due, and what is due is one of them; then also the first ones of one item
-- more.
pub record HoldsDue (image : Image) (ranges : List MapRange) (sums : SumKind) (items : List Item) (due : List DueSum) : Type 0 where
  pub told : All (IsDueOf ranges sums items) due
  pub met : AreMet image ranges sums due items

pub record HoldsFirst (image : Image) (ranges : List MapRange) (sums : SumKind) (items : List Item) (i : Item) (count : ℕ) (due : List DueSum) : Type 0 where
  pub told : All (IsDueOf ranges sums (items ++ i ∷ [])) due
  pub met : AreMet image ranges sums due items
  pub first : (k : ℕ) → k < count → IsMet image ranges sums due i k

-- what is due lies on a device of so many blocks, and the addresses in hand are those of the map
pub record IsReady (size : ℕ) (ranges : List MapRange) (pass : DataPass) : Type 0 where
  pub inside : All (λ d. d.block < size) pass.due.items
  pub hand : IfSome pass.hand (TellsPlaces ranges)
