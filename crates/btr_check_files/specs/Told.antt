-- What the items of a file tree tell of names, one item after the other.
use Rattle.std.specs.Prelude.{ℕ, ◌==◌, if◌then◌else◌, List, [], map}
use Rattle.std.specs.List.{flat_map}
use Rattle.btr_check_rules.specs.btr_reader.btr_keys.DirEntry.{dir_items_of}
use Rattle.btr_check_rules.specs.btr_reader.btr_keys.Extref.{ExtrefValue, extrefs_of}
use Rattle.btr_check_rules.specs.btr_reader.btr_keys.InodeRef.{InodeRefValue, inode_refs_of}
use Rattle.btr_check_rules.specs.btr_reader.btr_node.Leaf.{Item}
use Rattle.btr_check_rules.specs.btr_reader.btr_reader_walk.Events.{TreeItem}
use Rattle.btr_check_rules.specs.btr_reader.btr_reader_walk.Tree.{bare_item}
use Rattle.btr_check_rules.specs.btr_reader.btr_reader_walk.btr_keys.btrfs_format.declared.key.TheConstants.{DIR_INDEX, DIR_ITEM, INODE_EXTREF, INODE_REF}
use Rattle.btr_check_rules.specs.Names.{BackName, IndexEntry, NamedEntry, entry_of, or_none}

-- a name that an inode ref tells, or an extref
abbrev pub ref_name : ℕ → ℕ → InodeRefValue → BackName
ref_name inode dir e = record { inode = inode; dir = dir; index = e.index; name = e.name }

abbrev pub extref_name : ℕ → ExtrefValue → BackName
extref_name inode e = record { inode = inode; dir = e.parent; index = e.index; name = e.name }

-- the entries of an item, where it is a directory index
abbrev pub index_by : Item → List IndexEntry
index_by i = if i.0.kind == DIR_INDEX then map (λ e. record { entry = entry_of i e; index = i.0.offset }) (or_none (dir_items_of i.1)) else []

-- the same where it is a dir item
abbrev pub hashed_by : Item → List NamedEntry
hashed_by i = if i.0.kind == DIR_ITEM then map (entry_of i) (or_none (dir_items_of i.1)) else []

-- the names of an item, where it is a reference of an inode
abbrev pub extrefs_by : Item → List BackName
extrefs_by i = if i.0.kind == INODE_EXTREF then map (extref_name i.0.objectid) (or_none (extrefs_of i.1)) else []

abbrev pub told_by : Item → List BackName
told_by i = if i.0.kind == INODE_REF then map (ref_name i.0.objectid i.0.offset) (or_none (inode_refs_of i.1)) else extrefs_by i

-- the same of all items, in their order
abbrev pub hashed_in : List TreeItem → List NamedEntry
hashed_in items = flat_map (λ i. hashed_by (bare_item i)) items

abbrev pub told_in : List TreeItem → List BackName
told_in items = flat_map (λ i. told_by (bare_item i)) items
