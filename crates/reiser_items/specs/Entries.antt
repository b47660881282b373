-- Bodies of directory items, as ReiserFS has them (struct reiserfs_de_head of Linux's fs/reiserfs/reiserfs.h): heads of
-- 16 bytes, and names packed from the end of the body backwards.
use Rattle.std.specs.Prelude.{ℕ, zero, suc, ◌+◌, ◌*◌, ◌/◌, ◌%◌, ◌≤◌, ◌<◌, ◌==◌, nat_lt, Bool, not, ◌&&◌, List, [], ◌∷◌, length, slice_range}
use Rattle.std.specs.List.{take_while}
use Rattle.reiser_node.specs.reiserfs_format.declared.size.TheConstants.{DEH_SIZE}
use Rattle.reiser_node.specs.vol_block.Volume.{field}
use Rattle.reiser_node.specs.Leaf.{each_below}
use Rattle.reiser_items.specs.declared.entries.Entry.{Entry}

-- an entry without where its name lies in memory
pub record EntryValue : Type 0 where
  pub offset : ℕ
  pub dir : ℕ
  pub object : ℕ
  pub visible : Bool
  pub name : List ℕ

abbrev pub entry_value : Entry → EntryValue
entry_value e = record { offset = e.offset; dir = e.dir; object = e.object; visible = e.visible; name = e.name.now }

-- where the name of entry i begins
abbrev pub location : List ℕ → ℕ → ℕ
location body i = field 2 body (DEH_SIZE * i + 12)

-- where the bytes for it end: at the end of the body, or where the name before it begins
abbrev pub area_end : List ℕ → ℕ → ℕ
area_end body zero = length body
area_end body (suc i) = location body i

-- the name of entry i lies behind the heads, and ends where it must
pub record IsEntry (count : ℕ) (body : List ℕ) (i : ℕ) : Type 0 where
  pub behind : DEH_SIZE * count ≤ location body i
  pub ordered : location body i ≤ area_end body i

pub record AreEntries (count : ℕ) (body : List ℕ) : Type 0 where
  pub some : 1 ≤ count
  pub each : (i : ℕ) → i < count → IsEntry count body i

abbrev pub name_area : List ℕ → ℕ → List ℕ
name_area body i = slice_range body (location body i) (area_end body i)

-- a byte of a name is no zero
abbrev pub is_of_name : ℕ → Bool
is_of_name byte = not (byte == 0)

-- the bytes before the first zero, or all of them
abbrev pub until_zero : List ℕ → List ℕ
until_zero bytes = take_while is_of_name bytes

-- bit 2 of an entry's state, DEH_Visible of the kernel's reiserfs.h, says whether it is visible
abbrev pub is_visible : ℕ → Bool
is_visible state = state / 4 % 2 == 1

-- entry i
abbrev pub entry_at : List ℕ → ℕ → EntryValue
entry_at body i =
    record {
      offset = field 4 body (DEH_SIZE * i);
      dir = field 4 body (DEH_SIZE * i + 4);
      object = field 4 body (DEH_SIZE * i + 8);
      visible = is_visible (field 2 body (DEH_SIZE * i + 14));
      name = until_zero (name_area body i);
    }

-- n entries, from entry i on
abbrev pub entries_from : List ℕ → ℕ → ℕ → List EntryValue
entries_from body i zero = []
entries_from body i (suc n) = entry_at body i ∷ entries_from body (i + 1) n

abbrev pub entries : ℕ → List ℕ → List EntryValue
entries count body = entries_from body 0 count

-- The same grammar as a test.
abbrev pub is_entry : ℕ → List ℕ → ℕ → Bool
is_entry count body i = not (nat_lt (location body i) (DEH_SIZE * count)) && not (nat_lt (area_end body i) (location body i))

abbrev pub are_entries : ℕ → List ℕ → Bool
are_entries count body = nat_lt 0 count && each_below (is_entry count body) count
