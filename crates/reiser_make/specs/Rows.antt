-- The rows of a sample: what a listing of its tree has, in the order of paths.
use Rattle.std.specs.Prelude.{ℕ, ◌+◌, ◌-◌, ◌*◌, ◌/◌, false, List, [], ◌∷◌, map, slice_index_or}
use Rattle.std.specs.Int.{w64, cast_signed}
use Rattle.std.specs.List.{range_with_len, flat_map}
use Rattle.fs_rows.specs.Rows.{NameList, WholeRow}
use Rattle.fs_rows.specs.declared.row.Kind.{Kind}
use Rattle.fs_rows.specs.declared.row.Kind.TheVariants as kinds
use Rattle.fs_rows.specs.declared.row.Time.{Time}
use Rattle.reiser_make.specs.Content.{contents}
use Rattle.reiser_make.specs.Items.{base_time}
use Rattle.reiser_make.specs.Names.{directory_name, file_name}
use Rattle.reiser_make.specs.Shape.{directory_count, names_in, named_by, name_count, sample_bytes}
use Rattle.reiser_make.specs.declared.sample_entry.SampleEntry.{SampleEntry}
use Rattle.reiser_make.specs.declared.sample_entry.SampleEntry.TheVariants.{Name, Symlink, File}

abbrev pub seconds : ℕ → Time
seconds t = record { sec = cast_signed w64 t; nsec = 0 }

-- a row without flags and device
abbrev pub plain_row : NameList → Kind → ℕ → ℕ → ℕ → ℕ → NameList → ℕ → List ℕ → WholeRow
plain_row path kind mode uid gid time least names bytes =
    record {
      path = path;
      kind = kind;
      mode = mode;
      uid = uid;
      gid = gid;
      atime = seconds time;
      mtime = seconds time;
      ctime = seconds time;
      sync = false;
      immutable = false;
      append = false;
      nodump = false;
      noatime = false;
      major = 0;
      minor = 0;
      least = least;
      names = names;
      bytes = bytes;
    }

-- of the root and of directories: mode 0755, of user and group 0
abbrev pub directory_row : NameList → WholeRow
directory_row path = plain_row path kinds.Directory 0x1ED 0 0 base_time path 0 []

abbrev pub path_of : ℕ → NameList
path_of i = directory_name (i / 100) ∷ file_name i ∷ []

-- name i of an object that is that of name j
abbrev pub content_row : ℕ → ℕ → ℕ → SampleEntry → WholeRow
content_row number i j (File whole rest sparse) =
    plain_row (path_of i) kinds.File 0x1A4 1000 100 (base_time + j) (path_of j) (name_count number j) (sample_bytes j sparse 0 (4096 * whole + rest))
content_row number i j Symlink = plain_row (path_of i) kinds.Symlink 0x1FF 1000 100 (base_time + j) (path_of j) 1 (file_name (j - 1))
content_row number i j Name = directory_row (path_of i)

abbrev pub name_row : ℕ → ℕ → WholeRow
name_row number i = content_row number i (named_by i) (slice_index_or (contents number) (named_by i) Name)

-- a directory with its names
abbrev pub rows_of_directory : ℕ → ℕ → List WholeRow
rows_of_directory number k = directory_row (directory_name k ∷ []) ∷ map (name_row number) (range_with_len (100 * k) (names_in number k))

-- the rows of the sample of a number
unfoldable pub sample_rows : ℕ → List WholeRow
sample_rows number = directory_row [] ∷ flat_map (rows_of_directory number) (range_with_len 0 (directory_count number))
