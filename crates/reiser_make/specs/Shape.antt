-- What a sample holds, by its names: the numbers of objects, and where their blocks lie.
use Rattle.std.specs.Prelude.{ℕ, ◌+◌, ◌-◌, ◌*◌, ◌/◌, ◌%◌, ◌==◌, nat_le, Bool, true, false, ◌&&◌, List, take, map, sum_by, min, if◌then◌else◌}
use Rattle.std.specs.Int.{div_ceil}
use Rattle.std.specs.List.{range_with_len}
use Rattle.reiser_make.specs.Content.{contents, is_further_name}
use Rattle.reiser_make.specs.Places.{place}
use Rattle.reiser_make.specs.declared.sample_entry.SampleEntry.{SampleEntry}
use Rattle.reiser_make.specs.declared.sample_entry.SampleEntry.TheVariants.{Name, Symlink, File}
use Rattle.reiser_make.specs.declared.object.ObjectId.{ObjectId}

-- whether items have version 0, and what the names stand for
pub record Shape : Type 0 where
  pub old : Bool
  pub names : List SampleEntry

-- the sample of a number
abbrev pub shape : ℕ → Bool → Shape
shape number old = record { old = old; names = contents number }

-- each directory has a hundred names, and the last one the rest
abbrev pub directory_count : ℕ → ℕ
directory_count number = div_ceil number 100

abbrev pub names_in : ℕ → ℕ → ℕ
names_in number k = min 100 (number - 100 * k)

-- The root, the directories, and the names of files.
abbrev pub object_count : ℕ → ℕ
object_count number = 1 + directory_count number + number

abbrev pub root_id : ObjectId
root_id = record { dir = 1; object = 2 }

-- what `..` of the root names
abbrev pub above_root : ObjectId
above_root = record { dir = 0; object = 1 }

abbrev pub directory_id : ℕ → ObjectId
directory_id k = record { dir = 2; object = 3 + k }

abbrev pub file_id : ℕ → ℕ → ObjectId
file_id number i = record { dir = 3 + i / 100; object = 3 + directory_count number + i }

-- the name whose object name i names
abbrev pub named_by : ℕ → ℕ
named_by i = if is_further_name i then i - 1 else i

-- how many names the object of name i has
abbrev pub name_count : ℕ → ℕ → ℕ
name_count number i = if (i % 10 == 8) && nat_le (i + 2) number then 2 else 1

-- whole blocks of a file that are no holes
abbrev pub stored_of : ℕ → Bool → ℕ
stored_of whole sparse = if sparse then div_ceil whole 2 else whole

abbrev pub stored_blocks : SampleEntry → ℕ
stored_blocks Name = 0
stored_blocks Symlink = 0
stored_blocks (File whole rest sparse) = stored_of whole sparse

-- the file block that is stored as the j-th of its file
abbrev pub stored_block : Bool → ℕ → ℕ
stored_block sparse j = if sparse then 2 * j else j

-- stored blocks of the first names, and of all
abbrev pub stored_before : List SampleEntry → ℕ → ℕ
stored_before names i = sum_by stored_blocks (take i names)

abbrev pub stored_in : List SampleEntry → ℕ
stored_in names = sum_by stored_blocks names

-- the block that holds file block k of a file whose first stored one goes to place `first`, 0 for a hole
abbrev pub pointer : ℕ → Bool → ℕ → ℕ
pointer first true k = if k % 2 == 0 then place (first + k / 2) else 0
pointer first false k = place (first + k)

-- byte j of the file of name i; a hole has zeros
abbrev pub file_byte : ℕ → Bool → ℕ → ℕ
file_byte i sparse j = if sparse && (j / 4096 % 2 == 1) then 0 else (31 * i + 7 * j + j / 4096) % 251

-- n bytes of it, from byte j on
unfoldable pub sample_bytes : ℕ → Bool → ℕ → ℕ → List ℕ
sample_bytes i sparse j n = map (file_byte i sparse) (range_with_len j n)
