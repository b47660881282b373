-- The saved image of the volume before.
use Rattle.std.specs.Prelude.{ℕ, ◌+◌, ◌-◌, ◌*◌, ◌/◌, ◌%◌, ◌==◌, nat_lt, nat_eq, Bool, true, false, not, ◌&&◌, ◌||◌, if◌then◌else◌, List, [], ◌∷◌, ◌++◌, map, filter, codes, Option, Some, None}
use Rattle.std.specs.Option.{option_map, option_and_then}
use Rattle.std.specs.List.{list_any}
use Rattle.std.specs.Cmp.Lexicographic.{pointwise}
use Rattle.btr_space_items.specs.btrfs_format.declared.key.TheConstants.{INODE_ITEM, ROOT_ITEM}
use Rattle.btr_space_items.specs.btrfs_format.declared.object.TheConstants.{FIRST_FREE_OBJECTID, FS_TREE}
use Rattle.btr_reader_walk.specs.outside.History.{Image}
use Rattle.btr_reader_walk.specs.refusals.declared.refusal.BtrRefusal.{BtrRefusal}
use Rattle.btr_reader_walk.specs.refusals.declared.refusal.BtrRefusal.TheVariants.{BadBtrfs}
use Rattle.btr_reader_walk.specs.refusals.declared.rule.BtrRule.TheVariants.{Body, NameForm}
use Rattle.btr_reader_walk.specs.btr_keys.FileExtent.{ContentValue, Inline, Regular, Prealloc, FileExtentValue, file_extent_of}
use Rattle.btr_reader_walk.specs.btr_keys.Inode.{inode_of}
use Rattle.btr_reader_walk.specs.btr_keys.declared.inode.Inode.{Inode}
use Rattle.btr_reader_walk.specs.btr_keys.declared.key.Key.{Key}
use Rattle.btr_super.specs.declared.superblock.Super.{Super}
use Rattle.btr_reader_walk.specs.declared.map.MapRange.{MapRange}
use Rattle.btr_reader_walk.specs.declared.tree.NodePointer.{NodePointer}
use Rattle.btr_reader_walk.specs.Events.{TreeItem}
use Rattle.btr_reader_walk.specs.Map.{place}
use Rattle.btr_reader_walk.specs.Walks.{found, wrong}
use Rattle.btr_reader_walk.specs.declared.tree.Tree.{Tree}
use Rattle.btr_reader_walk.specs.btr_keys.DirEntry.{DirEntryValue}
use Rattle.btr_reader.specs.Opening.{tree_of, or_later}
use Rattle.btr_reader.specs.Roots.{root_item, pointer_of}
use Rattle.btr_reader_names.specs.Inodes.{find_inode_item}
use Rattle.btr_reader_names.specs.declared.dir_index.DirIndex.{DirIndex}
use Rattle.btr_reader_names.specs.Links.{dir_indexes, naming_of, is_index, index_entry, is_name, names_inode, names_tree}
use Rattle.btr_reader_contents.specs.Extents.{extents_of, extents_refusals, is_hole, covers}
use Rattle.btr_reader.specs.Rows.{roots_on}

-- the first one of two
abbrev pub first_key : Option Key → Option Key → Option Key
first_key None second = second
first_key (Some key) second = Some key

-- the first entry of inode 256 with a name that passes
abbrev pub entry_named : (List ℕ → Bool) → List DirIndex → Option Key
entry_named test [] = None
entry_named test (n ∷ ns) = if (n.dir == FIRST_FREE_OBJECTID) && test n.name then Some n.location else entry_named test ns

-- the number of another tree, or of an inode, that a location is
abbrev pub tree_number : Key → Option ℕ
tree_number key = if key.kind == ROOT_ITEM then Some key.objectid else None

abbrev pub inode_number : Key → Option ℕ
inode_number key = if key.kind == INODE_ITEM then Some key.objectid else None

-- whether a name is this one
abbrev pub is_called : List ℕ → List ℕ → Bool
is_called wanted name = pointwise nat_eq name wanted

-- the entries of inode 256 of a tree
abbrev pub saved_location : List TreeItem → Option Key
saved_location items = entry_named (is_called (codes "reiserfs_saved")) (dir_indexes items)

abbrev pub image_entry : List TreeItem → Option Key
image_entry items = entry_named (is_called (codes "image")) (dir_indexes items)

-- the items of a tree whose root is there, by its root item; None where the body is off its grammar
abbrev pub pointer_in : Option TreeItem → Option NodePointer
pointer_in None = None
pointer_in (Some i) = pointer_of i.body

abbrev pub content_is_inline : ContentValue → Bool
content_is_inline (Inline bytes) = true
content_is_inline (Regular r) = false
content_is_inline (Prealloc r) = false

abbrev pub is_inline : Option FileExtentValue → Bool
is_inline None = false
is_inline (Some e) = content_is_inline e.content

abbrev pub is_file_mode : ℕ → Bool
is_file_mode mode = mode / 4096 % 16 == 8

-- the block of the device that has block k of the contents of an extent, if there is one
abbrev pub content_block : List MapRange → ContentValue → ℕ → Option ℕ
content_block ranges (Inline bytes) k = None
content_block ranges (Regular r) k = if is_hole r then None else option_map (λ p. p / 4096) (place ranges (r.disk_bytenr + r.offset + 4096 * k))
content_block ranges (Prealloc r) k = None

abbrev pub block_by_extent : List MapRange → TreeItem → Option FileExtentValue → ℕ → Option ℕ → Option ℕ
block_by_extent ranges i None b other = other
block_by_extent ranges i (Some e) b other = if covers i.key.offset e.content (4096 * b) then content_block ranges e.content (b - i.key.offset / 4096) else other

-- the block of the device that holds block b of a file with these extents, or none for a hole
abbrev pub file_block : List MapRange → List TreeItem → ℕ → Option ℕ
file_block ranges [] b = None
file_block ranges (i ∷ extents) b = block_by_extent ranges i (file_extent_of i.body) b (file_block ranges extents b)

-- A file that is an image: its extents, and how many blocks it has.
pub record ImageFile : Type 0 where
  pub extents : List TreeItem
  pub blocks : ℕ

-- the file is an image if it is regular, in whole blocks, and has no inline extent
abbrev pub is_image : List TreeItem → Inode → Bool
is_image extents own = is_file_mode own.mode && ((own.size % 4096 == 0) && not (list_any (λ e. is_inline (file_extent_of e.body)) extents))

abbrev pub file_if_image : List TreeItem → Option Inode → Option ImageFile
file_if_image extents None = None
file_if_image extents (Some own) = if is_image extents own then Some (record { extents = extents; blocks = own.size / 4096 }) else None

-- what the inode item of a file in a tree gives
abbrev pub image_at : List TreeItem → ℕ → Option TreeItem → Option ImageFile
image_at items ino None = None
image_at items ino (Some i) = file_if_image (extents_of items ino) (inode_of i.body)

-- the image in the tree with these items
abbrev pub image_in : List TreeItem → Option ImageFile
image_in items = option_and_then (λ ino. image_at items ino (find_inode_item items ino)) (option_and_then inode_number (image_entry items))

abbrev pub items_at : Image → Super → List MapRange → ℕ → NodePointer → List TreeItem
items_at image s ranges number p = found image ranges (tree_of s number p)

-- the image in another tree, by its root item
abbrev pub image_below : Image → Super → List MapRange → ℕ → Option TreeItem → Option ImageFile
image_below image s ranges number root = option_and_then (λ p. image_in (items_at image s ranges number p)) (pointer_in root)

-- the image of a volume, by the root item of its file tree
abbrev pub image_from : Image → Super → List MapRange → Option TreeItem → Option ImageFile
image_from image s ranges root =
    option_and_then (λ p. option_and_then (λ number. image_below image s ranges number (root_item number (roots_on image s ranges)))
    (option_and_then tree_number (saved_location (items_at image s ranges FS_TREE p)))) (pointer_in root)

-- The saved image of an opened volume. It is missing where the entry, the tree or the file is not there, or the file has not
-- the form of an image.
abbrev pub saved_image : Image → Super → List MapRange → Option ImageFile
saved_image image s ranges = image_from image s ranges (root_item FS_TREE (roots_on image s ranges))

-- the place of block b
abbrev pub image_place : List MapRange → ImageFile → ℕ → Option ℕ
image_place ranges f b = if nat_lt b f.blocks then file_block ranges f.extents b else None

-- Refusals on the way to the image: of a root item, of a tree, of an entry of inode 256, of the image's inode and of its
-- extents. What is not there is no refusal, and what can't be found because of a refusal isn't looked at.
--
-- The names of the root directory keep the rules of names: each is a name, each location is an inode or another tree, and
-- no name is there twice.
abbrev pub name_refusals : DirIndex → List BtrRefusal
name_refusals n = if is_name n.name then [] else BadBtrfs n.leaf NameForm ∷ []

abbrev pub location_refusals : DirIndex → List BtrRefusal
location_refusals n = if names_inode n || names_tree n then [] else BadBtrfs n.leaf Body ∷ []

-- of an entry by itself
abbrev pub naming_refusals : DirIndex → List BtrRefusal
naming_refusals n = name_refusals n ++ location_refusals n

abbrev pub index_refusals_at : TreeItem → Option DirEntryValue → List BtrRefusal
index_refusals_at i None = BadBtrfs i.leaf Body ∷ []
index_refusals_at i (Some e) = naming_refusals (naming_of i e)

-- of a directory index of inode 256 by itself
abbrev pub own_index_refusals : TreeItem → List BtrRefusal
own_index_refusals i = if is_index i && (i.key.objectid == FIRST_FREE_OBJECTID) then index_refusals_at i (index_entry i.body) else []

abbrev pub index_refusals : List TreeItem → List BtrRefusal
index_refusals [] = []
index_refusals (i ∷ items) = own_index_refusals i ++ index_refusals items

-- the root directory of a file tree
abbrev pub is_root_directory : ℕ → Bool
is_root_directory ino = ino == FIRST_FREE_OBJECTID

-- both entries are of the root directory, and of one name
abbrev pub is_again : DirIndex → DirIndex → Bool
is_again m n = is_root_directory n.dir && ((m.dir == n.dir) && pointwise nat_eq m.name n.name)

-- of a name that is there twice, at the later entry
abbrev pub twice_refusals : List DirIndex → List BtrRefusal
twice_refusals [] = []
twice_refusals (m ∷ ns) = map (λ n. BadBtrfs n.leaf NameForm) (filter (is_again m) ns) ++ twice_refusals ns

-- of the root directory of a tree with these items
abbrev pub root_refusals : List TreeItem → List BtrRefusal
root_refusals items = index_refusals items ++ twice_refusals (dir_indexes items)

-- of a tree in which an entry of inode 256 is looked for
abbrev pub entry_refusals : Image → List MapRange → Tree → List BtrRefusal
entry_refusals image ranges t = wrong image ranges t ++ root_refusals (found image ranges t)

abbrev pub after_pointer : (NodePointer → List BtrRefusal) → ℕ → Option NodePointer → List BtrRefusal
after_pointer next leaf None = BadBtrfs leaf Body ∷ []
after_pointer next leaf (Some p) = next p

abbrev pub after_root : (NodePointer → List BtrRefusal) → Option TreeItem → List BtrRefusal
after_root next None = []
after_root next (Some i) = after_pointer next i.leaf (pointer_of i.body)

abbrev pub if_there : (ℕ → List BtrRefusal) → Option ℕ → List BtrRefusal
if_there next None = []
if_there next (Some number) = next number

-- of the image's inode and extents
abbrev pub own_refusals : List MapRange → List TreeItem → ℕ → Option Inode → List BtrRefusal
own_refusals ranges extents leaf None = BadBtrfs leaf Body ∷ []
own_refusals ranges extents leaf (Some own) = if is_file_mode own.mode then extents_refusals ranges 0 0 extents else []

abbrev pub file_refusals : List MapRange → List TreeItem → ℕ → Option TreeItem → List BtrRefusal
file_refusals ranges items ino None = []
file_refusals ranges items ino (Some i) = own_refusals ranges (extents_of items ino) i.leaf (inode_of i.body)

abbrev pub image_refusals_in : List MapRange → List TreeItem → List BtrRefusal
image_refusals_in ranges items = if_there (λ ino. file_refusals ranges items ino (find_inode_item items ino)) (option_and_then inode_number (image_entry items))

-- of a tree in which the image is looked for
abbrev pub saved_refusals : Image → List MapRange → Tree → List BtrRefusal
saved_refusals image ranges t = or_later (entry_refusals image ranges t) (image_refusals_in ranges (found image ranges t))

abbrev pub refusals_below : Image → Super → List MapRange → ℕ → Option TreeItem → List BtrRefusal
refusals_below image s ranges number root = after_root (λ p. saved_refusals image ranges (tree_of s number p)) root

abbrev pub refusals_from : Image → Super → List MapRange → Option TreeItem → List BtrRefusal
refusals_from image s ranges root =
    after_root
    (λ p. or_later (entry_refusals image ranges (tree_of s FS_TREE p))
    (if_there (λ number. refusals_below image s ranges number (root_item number (roots_on image s ranges))) (option_and_then tree_number (saved_location (items_at image s ranges FS_TREE p)))))
    root

abbrev pub image_refusals : Image → Super → List MapRange → List BtrRefusal
image_refusals image s ranges = refusals_from image s ranges (root_item FS_TREE (roots_on image s ranges))
