-- What is asked of the bodies of the items of file trees, kind by kind.
use Rattle.std.specs.Prelude.{◌≡◌, ◌⊎◌, ℕ, true, List, [], ◌∷◌, Some, All, AllPairs}
use Rattle.btr_check_rules.specs.btr_reader.btr_keys.DirEntry.{DirEntryValue, dir_entry_front, dir_items_of}
use Rattle.btr_check_rules.specs.btr_reader.btr_keys.Extref.{ExtrefValue, extrefs_of}
use Rattle.btr_check_rules.specs.btr_reader.btr_keys.Repeated.{records}
use Rattle.btr_check_rules.specs.btr_reader.btr_keys.declared.key.Key.{Key}
use Rattle.btr_check_rules.specs.btr_reader.btr_reader_walk.Nodes.{is_file_tree as is_subvolume}
use Rattle.btr_check_rules.specs.btr_reader.btr_reader_walk.btr_keys.btrfs_format.declared.key.TheConstants.{INODE_ITEM, ROOT_ITEM}
use Rattle.btr_check_rules.specs.btr_reader.castagnoli.Castagnoli.{name_hash, extref_hash}
use Rattle.btr_check_rules.specs.Names.{IsAttribute, IsEntry, IsInodeNumber, attributes_of, behind_attribute}

-- what an entry may name: an inode, or a subvolume
abbrev pub IsTarget : Key → Type 0
IsTarget location =
    ((location.kind ≡ INODE_ITEM) × (location.offset ≡ 0) × IsInodeNumber location.objectid)
    ⊎ ((location.kind ≡ ROOT_ITEM) × (is_subvolume location.objectid ≡ true))

-- an entry that stands under the hash of its name
abbrev pub IsHashed : ℕ → DirEntryValue → Type 0
IsHashed hash e = (name_hash e.name ≡ hash) × IsEntry e

abbrev pub IsDirItem : ℕ → List ℕ → Type 0
IsDirItem hash body = (es : List DirEntryValue) × (dir_items_of body ≡ Some es) × All (λ e. (name_hash e.name ≡ hash) × IsEntry e) es

abbrev pub IsDirIndex : List ℕ → Type 0
IsDirIndex body = (e : DirEntryValue) × (dir_items_of body ≡ Some (e ∷ [])) × IsEntry e

-- a name that stands under its hash
abbrev pub IsTold : ℕ → ExtrefValue → Type 0
IsTold hash e = extref_hash e.parent e.name ≡ hash

abbrev pub IsExtref : ℕ → List ℕ → Type 0
IsExtref hash body = (es : List ExtrefValue) × (extrefs_of body ≡ Some es) × All (λ e. extref_hash e.parent e.name ≡ hash) es

abbrev pub AreAttributes : ℕ → List ℕ → Type 0
AreAttributes hash body = (es : List DirEntryValue) × (attributes_of body ≡ Some es) × All (IsAttribute hash) es × AllPairs (λ e f. ¬ (e.name ≡ f.name)) es

-- the key that names nothing
abbrev pub no_key : Key
no_key = record { objectid = 0; kind = 0; offset = 0 }

-- an attribute has another name
abbrev pub IsNew : List ℕ → DirEntryValue → Type 0
IsNew name e = ¬ (name ≡ e.name)

-- attributes, or no bytes
pub record AreRecords (hash : ℕ) (bytes : List ℕ) : Type 0 where
  pub all : List DirEntryValue
  pub read : records behind_attribute dir_entry_front bytes ≡ Some all
  pub each : All (IsAttribute hash) all
  pub apart : AllPairs (λ e f. ¬ (e.name ≡ f.name)) all
