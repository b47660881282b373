-- The names of a file tree, and which of them were met again.
use Rattle.std.specs.Prelude.{◌≡◌, ◌≢◌, ◌≤◌, ◌<◌, ℕ, ◌++◌, Bool, false, List, [], ◌∷◌, length, map, filter, replicate, slice_get, Some, All, AllPairs, if◌then◌else◌}
use Rattle.std.specs.List.Sorted.{IsPermutation}
use Rattle.btr_check_names.specs.Hashes.{hashes_from}
use Rattle.btr_check_names.specs.Marks.{chosen}
use Rattle.btr_check_rules.specs.Names.{BackName, DifferInName, IndexEntry, NamedEntry, back_name, names_inode_item, own_name}
use Rattle.btr_check_names.specs.declared.hashes.HashAt.{HashAt}

-- The entries of the directory indexes; of each, whether an entry of a dir item was met that tells the same, and whether a
-- reference of the inode was; and whether the reference of the root directory to itself was.
pub record NamesMet : Type 0 where
  pub entries : List IndexEntry
  pub hashed : List Bool
  pub told : List Bool
  pub own : Bool

-- nothing was met again
abbrev pub unmet : List IndexEntry → NamesMet
unmet entries = record { entries = entries; hashed = replicate (length entries) false; told = replicate (length entries) false; own = false }

abbrev pub named : List IndexEntry → List NamedEntry
named entries = map (λ e. e.entry) entries

-- the entries that were met among the dir items
abbrev pub hashed_of : NamesMet → List NamedEntry
hashed_of t = named (chosen t.hashed t.entries)

-- the names of inodes among some entries
abbrev pub back_names : List IndexEntry → List BackName
back_names entries = map back_name (filter names_inode_item entries)

-- the names of inodes that the entries tell, and that of the root directory
abbrev pub given : List IndexEntry → List BackName
given entries = own_name ∷ back_names entries

abbrev pub own_names : Bool → List BackName
own_names own = if own then own_name ∷ [] else []

-- the names that were met among the references of inodes
abbrev pub told_of : NamesMet → List BackName
told_of t = own_names t.own ++ back_names (chosen t.told t.entries)

-- No name stands twice in a directory, and no entry has the index of the root directory's own name.
pub record AreNames (entries : List IndexEntry) : Type 0 where
  pub once : AllPairs DifferInName entries
  pub indexed : All (λ e. 1 ≤ e.index) entries

-- an entry has this name in this directory
abbrev pub HasName : ℕ → List ℕ → IndexEntry → Type 0
HasName dir name e = (e.entry.dir ≡ dir) × (e.entry.name ≡ name)

-- that of a number has it; and no other has it
abbrev pub IsNamedAt : List IndexEntry → ℕ → List ℕ → ℕ → Type 0
IsNamedAt entries dir name i = (e : IndexEntry) × (slice_get entries i ≡ Some e) × HasName dir name e

abbrev pub NoneNamedBut : List IndexEntry → ℕ → ℕ → List ℕ → Type 0
NoneNamedBut entries but dir name = (i : ℕ) → i ≢ but → ¬ IsNamedAt entries dir name i

-- The keys are the hashes of the entries in some order, and there are as many marks of each kind.
pub record IsIndexed (entries : List IndexEntry) (keys : List HashAt) (hashed told : List Bool) : Type 0 where
  pub keyed : IsPermutation (hashes_from 0 entries) keys
  pub hashed_long : length hashed ≡ length entries
  pub told_long : length told ≡ length entries
