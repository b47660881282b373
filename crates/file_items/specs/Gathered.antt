-- What was gathered of an object, in the order of the links.
use Rattle.std.specs.Prelude.{◌≡◌, ℕ, ◌+◌, not, List, [], ◌∷◌, ◌++◌, map, filter, length, if◌then◌else◌}
use Rattle.btr_item_list.specs.btrfs_format.declared.key.TheConstants.{INODE_EXTREF}
use Rattle.unit_plan.specs.btr_keys.Key.{make_key}
use Rattle.unit_plan.specs.btr_node.Leaf.{Item}
use Rattle.btr_item_list.specs.Groups.{ascending}
use Rattle.btr_item_list.specs.Lists.{offset_of}
use Rattle.reiser_volume.specs.reiser_volume_names.Tally.{capped}
use Rattle.reiser_volume_objects.specs.declared.key.ObjectKey.{ObjectKey}
use Rattle.file_items.specs.Names.{IndexedLink, Indexed, letters, ref_record, far_record, hash_record, index_record}
use Rattle.file_items.specs.declared.object_names.ObjectNames.{ObjectNames}
use Rattle.file_items.specs.declared.directory.Directory.{Directory}

-- one more name
pub record HasName (keys : List ObjectKey) (ino : ℕ) (e : IndexedLink) (old new : ObjectNames) : Type 0 where
  pub refs : new.refs ≡ old.refs ++ (if e.extended then [] else ref_record keys ino e ∷ [])
  pub far : new.far ≡ old.far ++ (if e.extended then far_record keys e ∷ [] else [])

-- these names
pub record HasNames (keys : List ObjectKey) (ino : ℕ) (es : List IndexedLink) (names : ObjectNames) : Type 0 where
  pub refs : names.refs ≡ map (ref_record keys ino) (filter (λ e. not e.extended) es)
  pub far : names.far ≡ map (far_record keys) (filter (λ e. e.extended) es)

-- the records of extended names under their hashes, in the order of their directories' inodes
abbrev pub AreExtrefs : ℕ → List Item → List Item → Type 0
AreExtrefs ino far extrefs = extrefs ≡ map (λ i. (make_key ino INODE_EXTREF i.0.objectid, i.1)) (ascending offset_of far)

-- one more entry of a directory
pub record HasEntry (ino : ℕ) (e : Indexed) (old new : Directory) : Type 0 where
  pub hashed : new.hashed ≡ old.hashed ++ hash_record ino e ∷ []
  pub indexes : new.indexes ≡ old.indexes ++ index_record ino e ∷ []
  pub letters_are : new.letters ≡ capped (old.letters + length e.1.name)

-- these entries
pub record HasEntries (ino : ℕ) (list : List Indexed) (directory : Directory) : Type 0 where
  pub hashed : directory.hashed ≡ map (hash_record ino) list
  pub indexes : directory.indexes ≡ map (index_record ino) list
  pub letters_are : directory.letters ≡ capped (letters list)
