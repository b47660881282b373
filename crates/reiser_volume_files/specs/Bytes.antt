-- The bytes of an object of a ReiserFS volume: a look-up for each byte in the list of its items. As in Linux's
-- fs/reiserfs, a direct item holds bytes, an indirect item names the blocks that hold them, and what neither has is 0.
use Rattle.std.specs.Prelude.{◌≡◌, ◌≢◌, ◌≤◌, ℕ, ◌+◌, ◌-◌, ◌*◌, ◌/◌, ◌%◌, ◌==◌, nat_le, nat_lt, Bool, ◌&&◌, List, [], ◌∷◌, length, take, slice_index, Option, Some, None, unwrap_or, if◌then◌else◌, All}
use Rattle.std.specs.Option.{option_or}
use Rattle.reiser_walk.specs.outside.History.{Image, block_at}
pub use Rattle.fs_rows.specs.Bytes.{bytes_by, block_by}
use Rattle.reiser_walk.specs.reiser_node.declared.head.ItemKind.{ItemKind}
use Rattle.reiser_walk.specs.reiser_node.declared.head.ItemKind.TheVariants.{Stat, Indirect, Direct, Directory}
use Rattle.reiser_walk.specs.reiser_items.Pointers.{pointers}
use Rattle.reiser_walk.specs.Items.{ReiserItem}

-- the first byte of the file that an item holds or names a block for: offsets of keys begin with 1
abbrev pub first_byte : ReiserItem → ℕ
first_byte i = i.head.offset - 1

-- and how many: a pointer stands for 4096
abbrev pub byte_count : ItemKind → List ℕ → ℕ
byte_count Stat body = 0
byte_count Indirect body = 4096 * (length body / 4)
byte_count Direct body = length body
byte_count Directory body = 0

-- the byte behind the last one
abbrev pub end_of : ReiserItem → ℕ
end_of i = first_byte i + byte_count i.head.kind i.body

-- byte n of the file is one of those of a direct item
abbrev pub is_covered : ReiserItem → ℕ → Bool
is_covered i n = nat_le (first_byte i) n && nat_lt n (first_byte i + length i.body)

-- byte n of the file, if it is one that the item itself holds
abbrev pub direct_by_kind : ItemKind → ReiserItem → ℕ → Option ℕ
direct_by_kind Stat i n = None
direct_by_kind Indirect i n = None
direct_by_kind Direct i n = if is_covered i n then Some (slice_index i.body (n - first_byte i)) else None
direct_by_kind Directory i n = None

-- the same of the items of an object
abbrev pub direct_byte : List ReiserItem → ℕ → Option ℕ
direct_byte [] n = None
direct_byte (i ∷ items) n = option_or (direct_by_kind i.head.kind i n) (direct_byte items n)

-- The number that an indirect item has for file block k, which is bytes 4096·k to 4096·k + 4095 of the file; else 0.
abbrev pub pointer_by_kind : ItemKind → ReiserItem → ℕ → ℕ
pointer_by_kind Stat i k = 0
pointer_by_kind Indirect i k = if nat_le (first_byte i / 4096) k then slice_index (pointers i.body) (k - first_byte i / 4096) else 0
pointer_by_kind Direct i k = 0
pointer_by_kind Directory i k = 0

-- the block that the items name for file block k, or 0 where they name none
abbrev pub named_block : List ReiserItem → ℕ → ℕ
named_block [] k = 0
named_block (i ∷ items) k =
    if pointer_by_kind i.head.kind i k == 0 then named_block items k else pointer_by_kind i.head.kind i k

-- byte n of a block; where no block is named, 0
abbrev pub block_byte : Image → ℕ → ℕ → ℕ
block_byte image block n = if block == 0 then 0 else slice_index (block_at image block) n

-- Byte n of the file: that of the direct item that covers it, else that of the block that is named for it, else 0.
abbrev pub file_byte : Image → List ReiserItem → ℕ → ℕ
file_byte image items n = unwrap_or (direct_byte items n) (block_byte image (named_block items (n / 4096)) (n % 4096))

-- the bytes of a file of a size
abbrev pub file_bytes : Image → List ReiserItem → ℕ → List ℕ
file_bytes image items size = bytes_by size (file_byte image items) 0

-- the same as a function, 0 from the size on
abbrev pub content : Image → List ReiserItem → ℕ → ℕ → ℕ
content image items size n = if nat_lt n size then file_byte image items n else 0

-- File block k: its bytes below the size, and then zeros.
abbrev pub file_block : Image → List ReiserItem → ℕ → ℕ → List ℕ
file_block image items size k = block_by (content image items size) k

-- Byte n of what the direct items hold, 0 where they hold nothing and from the size on.
abbrev pub direct_content : List ReiserItem → ℕ → ℕ → ℕ
direct_content items size n = if nat_lt n size then unwrap_or (direct_byte items n) 0 else 0

-- file block k of what the direct items hold
abbrev pub tail_block : List ReiserItem → ℕ → ℕ → List ℕ
tail_block items size k = block_by (direct_content items size) k

-- the target of a symlink, whose bytes direct items hold
abbrev pub target_bytes : List ReiserItem → ℕ → List ℕ
target_bytes items size = take size (tail_block items size 0)

-- an item ends at byte b or before; one without bytes ends nowhere
abbrev pub EndsBy : ℕ → ReiserItem → Type 0
EndsBy b i = byte_count i.head.kind i.body ≢ 0 → end_of i ≤ b

-- an item begins where those before it have ended, if it has bytes
abbrev pub FollowsAll : List ReiserItem → ReiserItem → Type 0
FollowsAll before i = byte_count i.head.kind i.body ≢ 0 → All (EndsBy (first_byte i)) before

-- an item of pointers begins with a file block
abbrev pub AlignedByKind : ItemKind → ℕ → Type 0
AlignedByKind Stat offset = Unit {0}
AlignedByKind Indirect offset = offset % 4096 ≡ 1
AlignedByKind Direct offset = Unit {0}
AlignedByKind Directory offset = Unit {0}

abbrev pub IsAligned : ReiserItem → Type 0
IsAligned i = AlignedByKind i.head.kind i.head.offset

-- an item that may stand behind these
pub record MayFollow (before : List ReiserItem) (i : ReiserItem) : Type 0 where
  pub aligned : IsAligned i
  pub follows : FollowsAll before i
