-- How the names of a tree stand beside its dir items and the references of its inodes.
use Rattle.std.specs.Prelude.{◌≡◌, ◌⊎◌, ℕ, ◌++◌, ◌==◌, Bool, true, false, List, filter}
use Rattle.std.specs.List.Sorted.{IsPermutation}
use Rattle.btr_check_rules.specs.btr_reader.btr_reader_walk.Events.{TreeItem}
use Rattle.btr_check_rules.specs.Names.{BackName, IndexEntry, NamedEntry, entries_in, names_of}
use Rattle.btr_check_rules.specs.Sound.{Files, part_number}
use Rattle.btr_check_names.specs.Table.{AreNames, NamesMet, given, hashed_of, named, told_of}
use Rattle.btr_check_files.specs.Told.{hashed_in, told_in}

-- However the second list goes on, what passes a test in it is not what passes it in the first.
abbrev pub NeverSame : {A : Type 0} → (A → Bool) → List A → List A → Type 0
NeverSame {A} p all met = (more : List A) → ¬ IsPermutation (filter p all) (filter p (met ++ more))

-- No list that begins with these is what the directory's indexes tell; or what is told of the inode by entries.
abbrev pub HasOtherEntries : List IndexEntry → List NamedEntry → ℕ → Type 0
HasOtherEntries entries met dir = NeverSame (λ e. e.dir == dir) (named entries) met

abbrev pub HasOtherNames : List IndexEntry → List BackName → ℕ → Type 0
HasOtherNames entries met ino = NeverSame (λ n. n.inode == ino) (given entries) met

-- All of these were noted as met; or it is known that they do not stand in the table.
abbrev pub NotesEntries : List IndexEntry → NamesMet → List NamedEntry → ℕ → Bool → Type 0
NotesEntries entries table met dir true = IsPermutation (hashed_of table) met
NotesEntries entries table met dir false = HasOtherEntries entries met dir

abbrev pub NotesNames : List IndexEntry → NamesMet → List BackName → ℕ → Bool → Type 0
NotesNames entries table met ino true = IsPermutation (told_of table) met
NotesNames entries table met ino false = HasOtherNames entries met ino

-- the same of both
abbrev pub NotesBoth : List IndexEntry → NamesMet → List NamedEntry → List BackName → ℕ → Bool → Type 0
NotesBoth entries table hashed told ino true = IsPermutation (hashed_of table) hashed × IsPermutation (told_of table) told
NotesBoth entries table hashed told ino false = HasOtherEntries entries hashed ino ⊎ HasOtherNames entries told ino

-- A table that began so has noted what these items tell.
pub record HasNoted (begun now : NamesMet) (items : List TreeItem) : Type 0 where
  pub names : AreNames begun.entries
  pub entries : now.entries ≡ begun.entries
  pub hashed : IsPermutation (hashed_of now) (hashed_in items)
  pub told : IsPermutation (told_of now) (told_in items)

-- Part 2 fails at an inode of each tree that has these entries, and whose items begin so.
abbrev pub TellsOther : List IndexEntry → List TreeItem → ℕ → ℕ → Type 0
TellsOther entries items part ino = (part ≡ part_number Files) × (HasOtherEntries entries (hashed_in items) ino ⊎ HasOtherNames entries (told_in items) ino)

-- The dir items and the references tell what the entries do.
pub record TellSame (entries : List IndexEntry) (items : List TreeItem) : Type 0 where
  pub hashed : IsPermutation (named entries) (hashed_in items)
  pub told : IsPermutation (given entries) (told_in items)

-- They do not, at an inode.
abbrev pub TellOther : List IndexEntry → List TreeItem → ℕ → ℕ → Type 0
TellOther entries items part ino =
    (part ≡ part_number Files)
    × (¬ IsPermutation (entries_in ino (named entries)) (entries_in ino (hashed_in items)) ⊎ ¬ IsPermutation (names_of ino (given entries)) (names_of ino (told_in items)))
