-- What the table of names says of the items that were noted.
use Rattle.std.specs.Prelude.{◌≡◌, ℕ, Bool, false, is_some, nat_eq, List, [], ◌∷◌, ◌++◌, Option, Some, None, if◌then◌else◌}
use Rattle.std.specs.Option.{option_and_then, option_map_or}
use Rattle.indexmap.specs.IndexMap.{get}
use Rattle.btr_reader_walk.specs.btr_keys.DirEntry.{DirEntryValue}
use Rattle.btr_reader_walk.specs.Events.{TreeItem}
use Rattle.fs_paths.specs.fs_rows.declared.row.Kind.{Kind}
use Rattle.btr_reader_names.specs.declared.inodes.InodeFound.{InodeFound}
use Rattle.btr_reader_names.specs.declared.dir_index.OffForm.{OffForm}
use Rattle.btr_reader_names.specs.declared.table.NameTable.{NameTable}
use Rattle.btr_reader_names.specs.Inodes.{find_inode_item, kind_of_mode, TellsInode}
use Rattle.fs_paths.specs.fs_rows.Kinds.{is_directory}
use Rattle.btr_reader_names.specs.Links.{is_index, index_entry, dir_indexes}

-- the directory index that an item is, if its body is off the grammar
abbrev pub off_form_at : TreeItem → Option DirEntryValue → List OffForm
off_form_at i None = record { leaf = i.leaf; dir = i.key.objectid } ∷ []
off_form_at i (Some e) = []

abbrev pub own_off_form : TreeItem → List OffForm
own_off_form i = if is_index i then off_form_at i (index_entry i.body) else []

abbrev pub off_forms : List TreeItem → List OffForm
off_forms [] = []
off_forms (i ∷ items) = own_off_form i ++ off_forms items

-- what the table has of an inode
abbrev pub told : NameTable → ℕ → Option InodeFound
told t ino = get nat_eq t.inodes ino

abbrev pub kind_found : InodeFound → Option Kind
kind_found f = option_and_then (λ own. kind_of_mode own.mode) f.inode

abbrev pub kind_told : NameTable → ℕ → Option Kind
kind_told t ino = option_and_then kind_found (told t ino)

abbrev pub has_item : NameTable → ℕ → Bool
has_item t ino = is_some (told t ino)

abbrev pub is_dir : NameTable → ℕ → Bool
is_dir t ino = option_map_or is_directory (kind_told t ino) false

-- of each inode the first item is told
abbrev pub AreNoted : (ℕ → Option InodeFound) → List TreeItem → Type 0
AreNoted told items = (ino : ℕ) → TellsInode (told ino) (find_inode_item items ino)

-- These items were noted.
pub record HasNotedNames (t : NameTable) (items : List TreeItem) : Type 0 where
  pub each : AreNoted (told t) items
  pub namings : t.namings.items ≡ dir_indexes items
  pub off_forms : t.off_form.items ≡ off_forms items
