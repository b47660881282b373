-- What is asked of root items, as tests.
use Rattle.std.specs.Prelude.{ℕ, ◌%◌, ◌==◌, nat_le, nat_lt, Bool, false, not, ◌&&◌, ◌||◌, Option, Some, None}
use Rattle.btr_check_rules.specs.btr_reader.btr_space_items.btrfs_format.declared.flag.TheConstants.{ROOT_SUBVOL_RDONLY}
use Rattle.btr_check_rules.specs.btr_reader.btr_space_items.btrfs_format.declared.object.TheConstants.{FIRST_FREE_OBJECTID, TREE_RELOC}
use Rattle.btr_check_rules.specs.btr_reader.btr_keys.declared.key.Key.{Key}
use Rattle.btr_check_rules.specs.btr_reader.btr_space_items.declared.root_item.RootItem.{RootItem}
use Rattle.btr_check_rules.specs.btr_reader.btr_super.declared.superblock.Super.{Super}
use Rattle.btr_check_rules.specs.Recount.{holds_files}
use Rattle.btr_check_rules.specs.btr_reader.btr_reader_walk.Nodes.{is_file_tree}

-- no removal has begun
abbrev pub is_whole : RootItem → Bool
is_whole root = (root.drop_progress.objectid == 0) && ((root.drop_progress.kind == 0) && ((root.drop_progress.offset == 0) && (root.drop_level == 0)))

-- a tree of files is in use, and begins with the directory 256
abbrev pub has_files_root : ℕ → RootItem → Bool
has_files_root number root = not (holds_files number) || ((root.refs == 1) && (root.root_dirid == FIRST_FREE_OBJECTID))

abbrev pub keeps_root : Super → Key → RootItem → Bool
keeps_root s key root =
    nat_le root.generation s.generation
    && (nat_le root.generation_v2 s.generation
    && (nat_le root.last_snapshot s.generation
    && ((root.bytenr % 4096 == 0)
    && (nat_lt root.level 8
    && (nat_le root.flags ROOT_SUBVOL_RDONLY
    && (is_whole root && (not (key.objectid == TREE_RELOC) && (((key.offset == 0) || is_file_tree key.objectid) && has_files_root key.objectid root))))))))

abbrev pub keeps_some_root : Super → Key → Option RootItem → Bool
keeps_some_root s key None = false
keeps_some_root s key (Some root) = keeps_root s key root
