-- The text of rows: a line for each.
use Rattle.std.specs.Prelude.{ℕ, Bool, ◌||◌, not, List, [], ◌∷◌, ◌++◌, codes, decimal, if◌then◌else◌}
use Rattle.std.specs.Fmt.{signed_decimal}
use Rattle.std.specs.List.{flat_map}
use Rattle.sink_text.specs.Digits.{fraction, hex_text, octal_four}
use Rattle.sink_text.specs.Escape.{escaped}
use Rattle.fs_rows.specs.Rows.{NameList, is_same_path}
use Rattle.fs_rows.specs.declared.row.Kind.{Kind}
use Rattle.fs_rows.specs.declared.row.Kind.TheVariants.{Directory, File, Symlink, Character, Block, Fifo, Socket, Subvolume}
use Rattle.fs_rows.specs.declared.row.Row.{Row}
use Rattle.fs_rows.specs.declared.row.Time.{Time}

abbrev pub dash : List ℕ
dash = codes "-"

abbrev pub kind_letter : Kind → List ℕ
kind_letter Directory = codes "d"
kind_letter File = codes "f"
kind_letter Symlink = codes "l"
kind_letter Character = codes "c"
kind_letter Block = codes "b"
kind_letter Fifo = codes "p"
kind_letter Socket = codes "s"
kind_letter Subvolume = codes "v"

-- seconds with their sign, and then the nanoseconds
abbrev pub time_text : Time → List ℕ
time_text t = signed_decimal t.sec ++ fraction t.nsec

-- a letter, where the flag is set
abbrev pub flag : Bool → List ℕ → List ℕ
flag set letter = if set then letter else []

abbrev pub any_flag : Row → Bool
any_flag r = r.sync || (r.immutable || (r.append || (r.nodump || r.noatime)))

-- the letters of the flags that are set, or a dash where none is
abbrev pub flags_text : Row → List ℕ
flags_text r =
    flag r.sync (codes "S") ++ (flag r.immutable (codes "i") ++ (flag r.append (codes "a")
    ++ (flag r.nodump (codes "d") ++ (flag r.noatime (codes "A") ++ flag (not (any_flag r)) dash))))

-- the major and the minor number
abbrev pub device_by : Kind → Row → List ℕ
device_by Character r = decimal r.major ++ (58 ∷ decimal r.minor)
device_by Block r = decimal r.major ++ (58 ∷ decimal r.minor)
device_by Directory r = dash
device_by File r = dash
device_by Symlink r = dash
device_by Fifo r = dash
device_by Socket r = dash
device_by Subvolume r = dash

abbrev pub names_by : Kind → ℕ → List ℕ
names_by Directory n = dash
names_by File n = decimal n
names_by Symlink n = decimal n
names_by Character n = decimal n
names_by Block n = decimal n
names_by Fifo n = decimal n
names_by Socket n = decimal n
names_by Subvolume n = dash

abbrev pub length_text : Kind → ℕ → List ℕ
length_text File n = decimal n
length_text Symlink n = decimal n
length_text Directory n = dash
length_text Character n = dash
length_text Block n = dash
length_text Fifo n = dash
length_text Socket n = dash
length_text Subvolume n = dash

abbrev pub mark_text : Kind → List ℕ → List ℕ
mark_text File mark = hex_text mark
mark_text Directory mark = dash
mark_text Symlink mark = dash
mark_text Character mark = dash
mark_text Block mark = dash
mark_text Fifo mark = dash
mark_text Socket mark = dash
mark_text Subvolume mark = dash

-- KIND MODE UID GID
abbrev pub owner_fields : Row → List (List ℕ)
owner_fields r = kind_letter r.kind ∷ octal_four r.mode ∷ decimal r.uid ∷ decimal r.gid ∷ []

-- ATIME MTIME CTIME
abbrev pub time_fields : Row → List (List ℕ)
time_fields r = time_text r.atime ∷ time_text r.mtime ∷ time_text r.ctime ∷ []

-- DEVICE NAMES LENGTH MARK
abbrev pub last_fields : Row → List (List ℕ)
last_fields r =
    device_by r.kind r ∷ names_by r.kind r.names ∷ length_text r.kind r.length ∷ mark_text r.kind r.mark ∷ []

-- KIND MODE UID GID ATIME MTIME CTIME FLAGS DEVICE NAMES LENGTH MARK
abbrev pub known_fields : Row → List (List ℕ)
known_fields r = owner_fields r ++ (time_fields r ++ (flags_text r ∷ last_fields r))

-- the fields before the path: all but the kind are dashes for a subvolume
abbrev pub fields_by : Kind → Row → List (List ℕ)
fields_by Subvolume r = codes "v" ∷ dash ∷ dash ∷ dash ∷ dash ∷ dash ∷ dash ∷ dash ∷ dash ∷ dash ∷ dash ∷ dash ∷ []
fields_by Directory r = known_fields r
fields_by File r = known_fields r
fields_by Symlink r = known_fields r
fields_by Character r = known_fields r
fields_by Block r = known_fields r
fields_by Fifo r = known_fields r
fields_by Socket r = known_fields r

-- each field with a space behind it
abbrev pub spaced : List (List ℕ) → List ℕ
spaced [] = []
spaced (field ∷ fields) = field ++ (32 ∷ spaced fields)

-- a name after a slash
abbrev pub slashed : List ℕ → List ℕ
slashed name = 47 ∷ escaped name

-- a slash for the root, else each name after a slash
abbrev pub path_text : NameList → List ℕ
path_text [] = codes "/"
path_text (name ∷ names) = flat_map slashed (name ∷ names)

-- the least path of the object, where it is another one
abbrev pub least_text : Row → List ℕ
least_text r = if is_same_path r.path r.least then [] else (codes " = " ++ path_text r.least)

-- the target of a symlink, and the end of the line
abbrev pub end_by : Kind → List ℕ → List ℕ
end_by Symlink target = codes " -> " ++ (escaped target ++ 10 ∷ [])
end_by Directory target = 10 ∷ []
end_by File target = 10 ∷ []
end_by Character target = 10 ∷ []
end_by Block target = 10 ∷ []
end_by Fifo target = 10 ∷ []
end_by Socket target = 10 ∷ []
end_by Subvolume target = 10 ∷ []

-- what comes behind the path
abbrev pub ending_text : Row → List ℕ
ending_text r = least_text r ++ end_by r.kind r.target

abbrev pub row_text : Row → List ℕ
row_text r = spaced (fields_by r.kind r) ++ (path_text r.path ++ ending_text r)

unfoldable pub rows_text : List Row → List ℕ
rows_text rows = flat_map row_text rows
