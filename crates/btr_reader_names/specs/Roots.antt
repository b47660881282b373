-- Which numbers of trees have a root item.
use Rattle.std.specs.Prelude.{ℕ, ◌==◌, Bool, ◌&&◌, List}
use Rattle.std.specs.List.{list_any}
use Rattle.btr_reader_walk.specs.btrfs_format.declared.key.TheConstants.{ROOT_ITEM}
use Rattle.btr_reader_walk.specs.Events.{TreeItem}

-- the item is a root item of the tree with this number; what its key's offset is does not matter
abbrev pub is_root_of : ℕ → TreeItem → Bool
is_root_of number i = (i.key.objectid == number) && (i.key.kind == ROOT_ITEM)

-- the tree with this number has a root item among those of the root tree
abbrev pub has_root : List TreeItem → ℕ → Bool
has_root roots number = list_any (is_root_of number) roots
