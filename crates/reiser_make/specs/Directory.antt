-- Bodies of directories, as ReiserFS has them (struct reiserfs_de_head of Linux's fs/reiserfs/reiserfs.h): heads of 16 bytes, and
-- names packed from the end of the body backwards, each filled up with zeros to a multiple of 8 bytes, as kernels of format
-- 3.6 do.
use Rattle.std.specs.Prelude.{◌≡◌, ℕ, ◌+◌, ◌-◌, ◌*◌, true, All, List, [], ◌∷◌, ◌++◌, length, map, replicate, sum_by, codes}
use Rattle.std.specs.Int.{div_ceil}
use Rattle.std.specs.List.{range_with_len}
use Rattle.byteorder.specs.Endian.{little_bytes}
use Rattle.reiser_items.specs.Entries.{EntryValue}
use Rattle.reiser_make.specs.Names.{directory_name, file_name, entry_offset}
use Rattle.reiser_make.specs.Shape.{directory_count, names_in, root_id, above_root, directory_id, file_id, named_by}
use Rattle.reiser_make.specs.declared.object.ObjectId.{ObjectId}

abbrev pub entry : ℕ → ObjectId → List ℕ → EntryValue
entry offset id name = record { offset = offset; dir = id.dir; object = id.object; visible = true; name = name }

abbrev pub padded : List ℕ → List ℕ
padded name = name ++ replicate (8 * div_ceil (length name) 8 - length name) 0

-- the 16 bytes of the head of a visible entry whose name begins at a byte of the body
abbrev pub entry_head : ℕ → ℕ → ℕ → ℕ → List ℕ
entry_head offset dir object begin = little_bytes 4 offset ++ little_bytes 4 dir ++ little_bytes 4 object ++ little_bytes 2 begin ++ little_bytes 2 4

-- the heads; the place of the first name ends at `end`, and each other one where the one before begins
abbrev pub entry_heads : ℕ → List EntryValue → List ℕ
entry_heads end [] = []
entry_heads end (e ∷ es) =
    entry_head e.offset e.dir e.object (end - length (padded e.name)) ++ entry_heads (end - length (padded e.name)) es

-- the names, the last one first
abbrev pub entry_names : List EntryValue → List ℕ
entry_names [] = []
entry_names (e ∷ es) = entry_names es ++ padded e.name

abbrev pub entries_length : List EntryValue → ℕ
entries_length entries = sum_by (λ e. 16 + length (padded e.name)) entries

unfoldable pub entries_bytes : List EntryValue → List ℕ
entries_bytes entries = entry_heads (entries_length entries) entries ++ entry_names entries

-- a body of n bytes in which more entries are to come: zeros between heads and names
unfoldable pub entries_so_far : ℕ → List EntryValue → List ℕ
entries_so_far n entries = entry_heads n entries ++ (replicate (n - entries_length entries) 0 ++ entry_names entries)

-- names that take eight bytes each
abbrev pub AreShortNames : List EntryValue → Type 0
AreShortNames entries = All (λ e. length (padded e.name) ≡ 8) entries

-- the entries of a directory that names itself and the one above it
abbrev pub with_dots : ObjectId → ObjectId → List EntryValue → List EntryValue
with_dots self above entries = entry 1 self (codes ".") ∷ entry 2 above (codes "..") ∷ entries

-- Entries stand by their offsets. Those of a sample ascend with their numbers: a digit more in a place counts more in the
-- hash than any digits behind it.
abbrev pub directory_entry : ℕ → EntryValue
directory_entry k = entry (entry_offset (directory_name k)) (directory_id k) (directory_name k)

abbrev pub root_entries : ℕ → List EntryValue
root_entries number = with_dots root_id above_root (map directory_entry (range_with_len 0 (directory_count number)))

abbrev pub file_entry : ℕ → ℕ → EntryValue
file_entry number i = entry (entry_offset (file_name i)) (file_id number (named_by i)) (file_name i)

abbrev pub directory_entries : ℕ → ℕ → List EntryValue
directory_entries number k = with_dots (directory_id k) root_id (map (file_entry number) (range_with_len (100 * k) (names_in number k)))
