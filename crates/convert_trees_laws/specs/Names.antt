-- What the names of a tree of the file tree's items are.
use Rattle.std.specs.Prelude.{◌≡◌, ℕ, Bool, not, List, [], ◌∷◌, map, filter, Contains}
use Rattle.btr_reader.specs.btrfs_format.declared.object.TheConstants.{FIRST_FREE_OBJECTID}
use Rattle.btr_reader.specs.outside.History.{Image}
use Rattle.btr_reader.specs.btr_reader_names.Links.{Target, inode, dir_indexes, is_followed, LeadsToTarget as LeadsOn}
use Rattle.btr_reader.specs.btr_reader_names.Rules.{KeepsNames}
use Rattle.btr_reader.specs.btr_reader_walk.Events.{TreeItem}
use Rattle.btr_reader.specs.btr_reader_walk.Tree.{bare_item}
use Rattle.convert_steps.specs.Source.{HasPieces, made_from}
use Rattle.convert_steps.specs.file_items.Names.{next_index, saved_entry}
use Rattle.convert_steps.specs.file_items.Tree.{Source, ino_of, fs_tree_items}
use Rattle.convert_trees_laws.specs.Entries.{naming_by, unplaced}
use Rattle.btr_reader.specs.fs_rows.Rows.{NameList}
use Rattle.convert_steps.specs.reiser_volume_objects.declared.key.ObjectKey.{ObjectKey}
use Rattle.convert_steps.specs.reiser_volume_objects.Keys.{root}
use Rattle.convert_steps.specs.reiser_volume.Rows.{LeadsToObject}
use Rattle.convert_steps.specs.reiser_volume.declared.volume.Volume.{Volume}
use Rattle.convert_steps.specs.convert_options.declared.options.Options.{Options}
use Rattle.convert_steps.specs.unit_plan.declared.piece.Piece.{Piece}
use Rattle.convert_steps.specs.unit_plan.declared.plan.Plan.{Plan}

-- the items of a tree as they are read: with these keys and bodies, in any leaves
abbrev pub ReadAs : Source → List TreeItem → Type 0
ReadAs s items = map bare_item items ≡ fs_tree_items s

-- The paths of the tree are those of the volume, and lead to the inodes of the same objects. Each object has an inode of its own.
-- Of all entries one alone is no part of this: the root directory's last one, which leads to the tree of the saved image.
pub record HasSamePaths (s : Source) (items : List TreeItem) : Type 0 where
  pub kept : (path : NameList) (key : ObjectKey) → LeadsToObject s.links root path key → LeadsOn items (inode FIRST_FREE_OBJECTID) path (inode (ino_of s key))
  pub only : (path : NameList) (to : Target) → LeadsOn items (inode FIRST_FREE_OBJECTID) path to → (key : ObjectKey) × Contains s.keys key × (to ≡ inode (ino_of s key)) × LeadsToObject s.links root path key
  pub apart : (a b : ObjectKey) → Contains s.keys a → Contains s.keys b → ino_of s a ≡ ino_of s b → a ≡ b
  pub saved : map unplaced (filter (λ n. not (is_followed n)) (dir_indexes items)) ≡ naming_by 256 (next_index s.links root, saved_entry) ∷ []

abbrev pub NamesAreKept : Type 0
NamesAreKept =
    (volume : Volume) (image : Image) (o : Options) (plan : Plan) (pieces : List Piece) (items : List TreeItem) → HasPieces volume image o plan pieces
    → ReadAs (made_from volume image o pieces) items → HasSamePaths (made_from volume image o pieces) items

-- The names of the tree keep the rules of a Btrfs tree, wherever its root node lies and whichever trees have a root item.
abbrev pub NamesKeepRules : Type 0
NamesKeepRules =
    (volume : Volume) (image : Image) (o : Options) (plan : Plan) (pieces : List Piece) (items : List TreeItem) (has_root : ℕ → Bool) (at : ℕ) → HasPieces volume image o plan pieces
    → ReadAs (made_from volume image o pieces) items → KeepsNames has_root items at
