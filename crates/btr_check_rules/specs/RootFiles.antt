-- Part 1 too: what the root tree has beside root items and references between trees: its directory, with the default
-- subvolume, and the files of an old free space cache.
use Rattle.std.specs.Prelude.{◌≡◌, ◌⊎◌, ◌==◌, Bool, true, List, [], ◌∷◌, codes, filter, All, ℕ}
use Rattle.std.specs.List.{list_any}
use Rattle.btr_reader_walk.specs.btrfs_format.declared.key.TheConstants.{DIR_INDEX, DIR_ITEM, EXTENT_DATA, INODE_ITEM, INODE_REF}
use Rattle.btr_reader_walk.specs.btrfs_format.declared.object.TheConstants.{ROOT_TREE_DIR_OBJECTID}
use Rattle.btr_reader.specs.btr_keys.declared.inode.Inode.{Inode}
use Rattle.btr_reader.specs.btr_node.Leaf.{Item}
use Rattle.btr_check_rules.specs.Files.{KeepsExtents}
use Rattle.btr_check_rules.specs.Inodes.{HasInode, KeepsFields}
use Rattle.btr_check_rules.specs.Names.{IsInodeNumber, IsOnForm, IsThere, NamedEntry, hashed_entries}
use Rattle.btr_check_rules.specs.Recount.{Recount, has_tree}

-- its items of the kinds that file trees have
abbrev pub root_file_kinds : List ℕ
root_file_kinds = INODE_ITEM ∷ (INODE_REF ∷ (DIR_ITEM ∷ (DIR_INDEX ∷ (EXTENT_DATA ∷ []))))

abbrev pub is_root_file : Item → Bool
is_root_file i = list_any (λ kind. kind == i.0.kind) root_file_kinds

-- The entry `default` names the subvolume that is mounted where none is named (get_default_subvol_objectid).
abbrev pub NamesTree : Recount → NamedEntry → Type 0
NamesTree r e = e.name ≡ codes "default" → has_tree r e.location.objectid ≡ true

-- The directory is there, and each item and inode is as the tree-checker wants those of any tree.
pub record AreRootFiles (r : Recount) : Type 0 where
  pub directory : IsThere r.root_tree ROOT_TREE_DIR_OBJECTID
  pub forms : All IsOnForm (filter is_root_file r.root_tree.items)
  pub inodes : (ino : ℕ) (inode : Inode) → HasInode r.root_tree ino inode → ((ino ≡ ROOT_TREE_DIR_OBJECTID) ⊎ IsInodeNumber ino) × KeepsFields r.super inode
  pub extents : (ino : ℕ) → KeepsExtents r.super r.root_tree ino
  pub default : All (NamesTree r) (hashed_entries r.root_tree)
