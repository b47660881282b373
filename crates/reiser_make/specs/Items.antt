-- The items of a sample's tree, in the order of their keys.
use Rattle.std.specs.Prelude.{◌≡◌, ◌≤◌, ◌<◌, ℕ, ◌+◌, ◌-◌, ◌*◌, ◌^◌, ◌==◌, nat_lt, Bool, true, false, List, [], ◌∷◌, ◌++◌, length, slice_index_or, if◌then◌else◌}
use Rattle.std.specs.Int.{div_ceil}
use Rattle.std.specs.List.{range_with_len, flat_map}
use Rattle.reiser_items.specs.vol_block.declared.mode.TheConstants.{DIRECTORY_MODE}
use Rattle.byteorder.specs.Endian.{little_bytes}
use Rattle.reiser_items.specs.reiser_node.declared.head.ItemHead.{ItemHead}
use Rattle.reiser_items.specs.reiser_node.declared.head.ItemKind.{ItemKind}
use Rattle.reiser_items.specs.reiser_node.declared.head.ItemKind.TheVariants.{Stat, Indirect, Direct, Directory}
use Rattle.reiser_items.specs.Stat.{stat_length}
use Rattle.reiser_items.specs.declared.stat.StatData.{StatData}
use Rattle.reiser_make.specs.Names.{file_name}
use Rattle.reiser_make.specs.Directory.{entries_bytes, root_entries, directory_entries}
use Rattle.reiser_make.specs.Shape.{Shape, directory_count, names_in, object_count, root_id, directory_id, file_id, name_count, stored_before, stored_of, pointer, sample_bytes}
use Rattle.reiser_make.specs.declared.sample_entry.SampleEntry.{SampleEntry}
use Rattle.reiser_make.specs.declared.sample_entry.SampleEntry.TheVariants.{Name, Symlink, File}
use Rattle.reiser_make.specs.declared.sample_item.Body.{Body}
use Rattle.reiser_make.specs.declared.sample_item.Body.TheVariants.{Attributes, Root, Names, Pointers, Bytes, Target}
use Rattle.reiser_make.specs.declared.sample_item.SampleItem.{SampleItem}
use Rattle.reiser_make.specs.declared.sample_item.Owner.{Owner}
use Rattle.reiser_make.specs.declared.sample_item.Owner.TheVariants.{System, User}
use Rattle.reiser_make.specs.declared.object.ObjectId.{ObjectId}

-- stat data of version 1 and of version 0 (struct stat_data and struct stat_data_v1 of Linux's fs/reiserfs/reiserfs.h)
abbrev pub stat_bytes : Bool → StatData → List ℕ
stat_bytes true s =
    little_bytes 2 s.mode ++ little_bytes 2 s.nlink ++ little_bytes 2 s.uid ++ little_bytes 2 s.gid ++ little_bytes 4 s.size
    ++ little_bytes 4 s.atime ++ little_bytes 4 s.mtime ++ little_bytes 4 s.ctime ++ little_bytes 4 s.blocks ++ little_bytes 4 s.first_direct_byte
stat_bytes false s =
    little_bytes 2 s.mode ++ little_bytes 2 s.attrs ++ little_bytes 4 s.nlink ++ little_bytes 8 s.size ++ little_bytes 4 s.uid ++ little_bytes 4 s.gid
    ++ little_bytes 4 s.atime ++ little_bytes 4 s.mtime ++ little_bytes 4 s.ctime ++ little_bytes 4 s.blocks ++ little_bytes 4 s.rdev

-- All times of the root and of directories are this one, and those of the file of name i are i seconds later.
abbrev pub base_time : ℕ
base_time = 1000000000

-- an object that has no direct item
abbrev pub no_direct_byte : ℕ
no_direct_byte = 0xFFFFFFFF

abbrev pub user_of : Owner → ℕ
user_of System = 0
user_of User = 1000

abbrev pub group_of : Owner → ℕ
group_of System = 0
group_of User = 100

-- Stat data by what a sample varies. `blocks` counts units of 512 bytes.
abbrev pub attributes : ℕ → ℕ → ℕ → Owner → ℕ → ℕ → ℕ → StatData
attributes mode nlink size owner time blocks first_direct_byte =
    record {
      mode = mode;
      attrs = 0;
      nlink = nlink;
      size = size;
      uid = user_of owner;
      gid = group_of owner;
      atime = time;
      mtime = time;
      ctime = time;
      blocks = blocks;
      rdev = 0;
      first_direct_byte = first_direct_byte;
    }

-- an item without its place in a leaf. The count of an item that has no entries is the one that Linux writes.
abbrev pub item : ObjectId → ℕ → ItemKind → Bool → ℕ → ℕ → Body → SampleItem
item id offset kind old count length body =
    record {
      head = record { dir = id.dir; object = id.object; offset = offset; kind = kind; old = old; count = count; length = length };
      body = body;
    }

abbrev pub stat_item : Bool → ObjectId → StatData → SampleItem
stat_item old id stat = item id 0 Stat old 0xFFFF (stat_length old) (Attributes stat)

-- a directory of so many entries; each takes 24 bytes, since no name of a sample has more than 8
abbrev pub directory_items : Bool → ObjectId → ℕ → ℕ → Body → List SampleItem
directory_items old id nlink count body =
    stat_item old id (attributes DIRECTORY_MODE nlink (24 * count) System base_time (div_ceil (24 * count) 512) no_direct_byte)
    ∷ item id 1 Directory true count (24 * count) body
    ∷ []

-- units of 512 bytes as Linux counts them: eight for each block that is pointed to, and eight for a rest
abbrev pub file_units : ℕ → ℕ → ℕ
file_units stored rest = 8 * stored + (if rest == 0 then 0 else 8)

abbrev pub first_direct_of : ℕ → ℕ → ℕ
first_direct_of whole rest = if rest == 0 then no_direct_byte else 4096 * whole + 1

-- A file has its whole blocks in one item of pointers, and what is left in a direct one.
abbrev pub pointer_items : Bool → ObjectId → ℕ → ℕ → List SampleItem
pointer_items old id i whole = if whole == 0 then [] else item id 1 Indirect old 0 (4 * whole) (Pointers i) ∷ []

abbrev pub byte_items : Bool → ObjectId → ℕ → ℕ → ℕ → List SampleItem
byte_items old id i whole rest = if rest == 0 then [] else item id (4096 * whole + 1) Direct old 0xFFFF rest (Bytes i) ∷ []

-- The items of the object of name i. Linux writes the target of a symlink in an item of version 0 on every volume. It is
-- the name before it, of six letters.
unfoldable pub items_of_content : Shape → ℕ → SampleEntry → List SampleItem
items_of_content s i Name = []
items_of_content s i Symlink =
    let id = file_id (length s.names) i in
    stat_item s.old id (attributes 0xA1FF 1 6 User (base_time + i) 1 1) ∷ item id 1 Direct true 0 6 (Target (i - 1)) ∷ []
items_of_content s i (File whole rest sparse) =
    let id = file_id (length s.names) i in
    stat_item s.old id (attributes 0x81A4 (name_count (length s.names) i) (4096 * whole + rest) User (base_time + i) (file_units (stored_of whole sparse) rest) (first_direct_of whole rest))
    ∷ (pointer_items s.old id i whole ++ byte_items s.old id i whole rest)

-- The items of object o: the root, a directory, or the object of a name.
unfoldable pub items_of_name : Shape → ℕ → List SampleItem
items_of_name s o =
    let number = length s.names in
    let directories = directory_count number in
    if o == 0 then directory_items s.old root_id (2 + directories) (2 + directories) Root
    else (if nat_lt o (directories + 1) then directory_items s.old (directory_id (o - 1)) 2 (2 + names_in number (o - 1)) (Names (o - 1))
    else items_of_content s (o - directories - 1) (slice_index_or s.names (o - directories - 1) Name))

-- the items of n objects from object o on
abbrev pub items_from : Shape → ℕ → ℕ → List SampleItem
items_from s o n = flat_map (items_of_name s) (range_with_len o n)

-- all of them
unfoldable pub items : Shape → List SampleItem
items s = items_from s 0 (object_count (length s.names))

-- the pointers of n file blocks
abbrev pub pointers_bytes : ℕ → Bool → ℕ → List ℕ
pointers_bytes first sparse n = flat_map (λ k. little_bytes 4 (pointer first sparse k)) (range_with_len 0 n)

abbrev pub pointers_of_content : Shape → ℕ → SampleEntry → List ℕ
pointers_of_content s i Name = []
pointers_of_content s i Symlink = []
pointers_of_content s i (File whole rest sparse) = pointers_bytes (stored_before s.names i) sparse whole

abbrev pub rest_of_content : ℕ → SampleEntry → List ℕ
rest_of_content i Name = []
rest_of_content i Symlink = []
rest_of_content i (File whole rest sparse) = sample_bytes i sparse (4096 * whole) rest

-- the bytes of a body
unfoldable pub body_bytes : Shape → Bool → Body → List ℕ
body_bytes s old (Attributes stat) = stat_bytes old stat
body_bytes s old Root = entries_bytes (root_entries (length s.names))
body_bytes s old (Names k) = entries_bytes (directory_entries (length s.names) k)
body_bytes s old (Pointers i) = pointers_of_content s i (slice_index_or s.names i Name)
body_bytes s old (Bytes i) = rest_of_content i (slice_index_or s.names i Name)
body_bytes s old (Target i) = file_name i

-- what can be written: stat data of version 0 has narrow fields, and a body has the length that its head says
abbrev pub FitsOld : Bool → StatData → Type 0
FitsOld true stat = (stat.nlink < 65536) × (stat.uid < 65536) × (stat.gid < 65536) × (stat.size < 2 ^ 32)
FitsOld false stat = Unit {0}

abbrev pub HasPointers : ℕ → SampleEntry → Type 0
HasPointers length Name = ⊥
HasPointers length Symlink = ⊥
HasPointers length (File whole rest sparse) = length ≡ 4 * whole

abbrev pub HasRest : ℕ → SampleEntry → Type 0
HasRest length Name = ⊥
HasRest length Symlink = ⊥
HasRest length (File whole rest sparse) = length ≡ rest

abbrev pub IsBodyOf : Shape → ItemHead → Body → Type 0
IsBodyOf s head (Attributes stat) = (head.length ≡ stat_length head.old) × FitsOld head.old stat
IsBodyOf s head Root = head.length ≡ 24 * (2 + directory_count (length s.names))
IsBodyOf s head (Names k) = (k < directory_count (length s.names)) × (head.length ≡ 24 * (2 + names_in (length s.names) k))
IsBodyOf s head (Pointers i) = (i < length s.names) × HasPointers head.length (slice_index_or s.names i Name)
IsBodyOf s head (Bytes i) = (i < length s.names) × HasRest head.length (slice_index_or s.names i Name)
IsBodyOf s head (Target i) = (i < 100000) × (head.length ≡ 6)

-- an item of a sample: it fits into a leaf, and its numbers into a head
pub record IsSampleItem (s : Shape) (item : SampleItem) : Type 0 where
  pub fits : item.head.length ≤ 4048
  pub offset : item.head.offset < 2 ^ 32
  pub body : IsBodyOf s item.head item.body
