-- What holds of the bytes of a file.
use Rattle.std.specs.Prelude.{◌≡◌, ◌≢◌, ◌≤◌, ◌<◌, ℕ, ◌-◌, ◌*◌, true, List, ◌∷◌, ◌++◌, take, All, AllPairs, Contains, Option, Some, None}
use Rattle.std.specs.Ordering.{is_lt}
use Rattle.reiser_walk.specs.outside.History.{Image, block_at}
use Rattle.reiser_walk.specs.vol_block.Volume.{zeros}
use Rattle.reiser_walk.specs.reiser_node.declared.head.ItemKind.TheVariants.{Indirect}
use Rattle.reiser_walk.specs.reiser_items.Order.{key_order}
use Rattle.reiser_walk.specs.reiser_items.Pointers.{pointers}
use Rattle.reiser_walk.specs.Items.{ReiserItem}
use Rattle.fs_rows.specs.Mark.{block_of_bytes}
use Rattle.reiser_volume_files.specs.declared.map.RunFrom.{RunFrom}
use Rattle.reiser_volume_files.specs.declared.map.RunFrom.TheVariants.{Disk, Tail}
use Rattle.reiser_volume_files.specs.Bytes.{first_byte, end_of, named_block, file_bytes, file_block, tail_block, target_bytes, IsAligned, FollowsAll}
use Rattle.reiser_volume_files.specs.Runs.{block_from, file_runs, AreRunsOf}

-- a byte of the file is one of both items
pub record SharesByte (i j : ReiserItem) : Type 0 where
  pub byte : ℕ
  pub first_from : first_byte i ≤ byte
  pub first_to : byte < end_of i
  pub second_from : first_byte j ≤ byte
  pub second_to : byte < end_of j

abbrev pub AreItemsApart : List ReiserItem → Type 0
AreItemsApart items = AllPairs (λ i j. ¬ SharesByte i j) items

-- the items begin in order
abbrev pub AreInOrder : List ReiserItem → Type 0
AreInOrder items = AllPairs (λ i j. first_byte i ≤ first_byte j) items

-- an item of an object
pub record IsItemOf (dir object : ℕ) (i : ReiserItem) : Type 0 where
  pub dir_is : i.head.dir ≡ dir
  pub object_is : i.head.object ≡ object

-- The items of one object begin in the order of their keys.
abbrev pub KeysOrderItems : Type 0
KeysOrderItems = (dir object : ℕ) (items : List ReiserItem) → All (IsItemOf dir object) items → AllPairs (λ i j. is_lt (key_order i.head j.head) ≡ true) items → AreInOrder items

-- Items in order that are apart follow each other.
abbrev pub ApartItemsFollow : Type 0
ApartItemsFollow = (before : List ReiserItem) (i : ReiserItem) (later : List ReiserItem) → AreInOrder (before ++ i ∷ later) → AreItemsApart (before ++ i ∷ later) → FollowsAll before i

-- The blocks that are named for a file decide its bytes.
abbrev pub NamedBlocksDecide : Type 0
NamedBlocksDecide = (image other : Image) (items : List ReiserItem) (size : ℕ)
    → ((k : ℕ) → 4096 * k < size → named_block items k ≢ 0 → block_at other (named_block items k) ≡ block_at image (named_block items k))
    → file_bytes other items size ≡ file_bytes image items size

-- Each file block of the bytes is the file block by items, as marks are made of it.
abbrev pub BlocksOfBytes : Type 0
BlocksOfBytes = (image : Image) (items : List ReiserItem) (size k : ℕ) → block_of_bytes (file_bytes image items size) k ≡ file_block image items size k

-- The map of a file says where each of its blocks lies.
abbrev pub FileRunsSay : Type 0
FileRunsSay = (items : List ReiserItem) (size : ℕ) → AreRunsOf (block_from items size) (file_runs items size)

-- A block of the volume as a block of a file, up to the size: zeros stand from there on.
abbrev pub up_to_size : List ℕ → ℕ → ℕ → List ℕ
up_to_size bytes size k = take 4096 (take (size - 4096 * k) bytes ++ zeros)

-- What file block k holds, by where it lies.
abbrev pub held_from : Image → List ReiserItem → ℕ → ℕ → Option RunFrom → List ℕ
held_from image items size k None = zeros
held_from image items size k (Some (Disk block)) = up_to_size (block_at image block) size k
held_from image items size k (Some Tail) = tail_block items size k

-- Where a file block lies decides what it holds: each block is of one sort.
abbrev pub BlocksAreHeld : Type 0
BlocksAreHeld = (image : Image) (items : List ReiserItem) (size k : ℕ) → AreItemsApart items → All IsAligned items → file_block image items size k ≡ held_from image items size k (block_from items size k)

-- an item is no list of pointers
abbrev pub IsNoIndirect : ReiserItem → Type 0
IsNoIndirect i = i.head.kind ≢ Indirect

-- Where no item names a block, the direct items hold all: so the target of a symlink is its bytes.
abbrev pub TargetsAreBytes : Type 0
TargetsAreBytes = (image : Image) (items : List ReiserItem) (size : ℕ) → size ≤ 4096 → All IsNoIndirect items → target_bytes items size ≡ file_bytes image items size

-- an item names this block
pub record IsNamedBlock (items : List ReiserItem) (block : ℕ) : Type 0 where
  pub item : ReiserItem
  pub among : Contains items item
  pub indirect : item.head.kind ≡ Indirect
  pub pointer : Contains (pointers item.body) block

-- The block that is named for a file block is one that an item names.
abbrev pub ItemsNameBlocks : Type 0
ItemsNameBlocks = (items : List ReiserItem) (k : ℕ) → named_block items k ≢ 0 → IsNamedBlock items (named_block items k)
