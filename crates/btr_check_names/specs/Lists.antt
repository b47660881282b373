-- Entries of directory indexes, whose letters stand in one list.
use Rattle.std.specs.Prelude.{◌≤◌, ℕ, ◌+◌, List, slice_range}
use Rattle.btr_check_rules.specs.btr_reader.btr_keys.DirEntry.{DirEntryValue}
use Rattle.btr_check_rules.specs.Names.{IndexEntry, NamedEntry}
use Rattle.btr_check_names.specs.declared.name_list.NameAt.{NameAt}

-- the letters of a name
abbrev pub name_in : List ℕ → NameAt → List ℕ
name_in letters n = slice_range letters n.start (n.start + n.length)

abbrev pub entry_in : List ℕ → NameAt → IndexEntry
entry_in letters n = record { entry = record { dir = n.dir; name = name_in letters n; location = n.location; kind = n.kind }; index = n.index }

-- the letters stand among so many
abbrev pub IsWithin : ℕ → NameAt → Type 0
IsWithin count n = n.start + n.length ≤ count

-- what a record of a body in this directory tells
abbrev pub entry_by : ℕ → DirEntryValue → NamedEntry
entry_by dir e = record { dir = dir; name = e.name; location = e.location; kind = e.kind }
