-- The root tree: where each tree begins, and the subvolume of the saved image.
use Rattle.std.specs.Prelude.{ℕ, ◌*◌, ◌^◌, ◌-◌, ◌==◌, ◌≤◌, ◌<◌, nat_le, Bool, ◌||◌, if◌then◌else◌, List, [], ◌∷◌, length, map, codes, replicate, slice_index_or}
use Rattle.btr_space_items.specs.btrfs_format.declared.flag.TheConstants.{FT_DIR}
use Rattle.btr_space_items.specs.btrfs_format.declared.key.TheConstants.{DIR_ITEM, ROOT_BACKREF, ROOT_ITEM, ROOT_REF}
use Rattle.btr_space_items.specs.btrfs_format.declared.object.TheConstants.{CONV_IMAGE_SUBVOL, FIRST_FREE_OBJECTID, FS_TREE, ROOT_TREE_DIR_OBJECTID}
use Rattle.btr_tree.specs.vol_block.declared.mode.TheConstants.{DIRECTORY_MODE}
use Rattle.btr_tree.specs.castagnoli.Castagnoli.{name_hash}
use Rattle.btr_tree.specs.vol_block.declared.ids.Ids.{Ids}
use Rattle.btr_tree.specs.btr_keys.DirEntry.{dir_entry_bytes}
use Rattle.btr_tree.specs.btr_keys.Key.{make_key, IsBefore}
use Rattle.btr_tree.specs.btr_keys.declared.key.Key.{Key}
use Rattle.btr_tree.specs.btr_keys.declared.inode.Inode.{Inode}
use Rattle.btr_tree.specs.btr_node.Leaf.{Item}
use Rattle.btr_space_items.specs.RootItem.{root_item_bytes}
use Rattle.btr_space_items.specs.RootRef.{root_ref_bytes}
use Rattle.btr_space_items.specs.declared.root_item.RootItem.{RootItem}
use Rattle.btr_item_list.specs.Inodes.{stamp_of, new_inode, inode_made, inode_item, ref_item}
use Rattle.space_items.specs.Merging.{merged}
use Rattle.space_items.specs.declared.node.TreeRoot.{TreeRoot}

-- Tree 5, and those from 256 on, hold files.
abbrev pub is_file_tree : ℕ → Bool
is_file_tree tree = (tree == FS_TREE) || nat_le FIRST_FREE_OBJECTID tree

-- such a tree has a root directory
abbrev pub root_dirid : ℕ → ℕ
root_dirid tree = if is_file_tree tree then 256 else 0

-- a root item has the inode of a directory in it, of which a kernel reads nothing
abbrev pub root_inode : ℕ → Inode
root_inode nodesize = record new_inode { generation = 0; transid = 0; size = 3; nbytes = nodesize; mode = DIRECTORY_MODE }

abbrev pub zero_uuid : List ℕ
zero_uuid = replicate 16 0

-- the subvolume of the image has an identifier
abbrev pub tree_uuid : Ids → ℕ → List ℕ
tree_uuid ids tree = if tree == CONV_IMAGE_SUBVOL then ids.subvolume else zero_uuid

abbrev pub root_body : Ids → ℕ → TreeRoot → RootItem
root_body ids nodesize r = record {
  inode = root_inode nodesize;
  generation = 1;
  root_dirid = root_dirid r.tree;
  bytenr = r.root.address;
  byte_limit = 0;
  bytes_used = nodesize * r.root.nodes;
  last_snapshot = 0;
  flags = 0;
  refs = 1;
  drop_progress = make_key 0 0 0;
  drop_level = 0;
  level = r.root.level;
  generation_v2 = 1;
  uuid = tree_uuid ids r.tree;
  parent_uuid = zero_uuid;
  received_uuid = zero_uuid;
  ctransid = 0;
  otransid = 0;
  stransid = 0;
  rtransid = 0;
  ctime = stamp_of 0;
  otime = stamp_of 0;
  stime = stamp_of 0;
  rtime = stamp_of 0;
}

abbrev pub tree_root_item : Ids → ℕ → TreeRoot → Item
tree_root_item ids nodesize r = (make_key r.tree ROOT_ITEM 0, root_item_bytes (root_body ids nodesize r))

-- the entry of tree 5's root that names the subvolume with the image
abbrev pub saved_name : List ℕ
saved_name = codes "reiserfs_saved"

abbrev pub saved_ref : ℕ → List ℕ
saved_ref index = root_ref_bytes (record { dirid = FIRST_FREE_OBJECTID; sequence = index; name = saved_name })

-- the entry that names tree 5 as the one to mount
abbrev pub default_name : List ℕ
default_name = codes "default"

abbrev pub default_entry : List ℕ
default_entry = dir_entry_bytes (record { location = make_key FS_TREE ROOT_ITEM (2 ^ 64 - 1); transid = 1; data_length = 0; kind = FT_DIR; name = default_name })

abbrev pub default_item : Item
default_item = (make_key ROOT_TREE_DIR_OBJECTID DIR_ITEM (name_hash default_name), default_entry)

-- The subvolume's references from and to tree 5, and directory 6 with the entry `default`.
abbrev pub other_root_items : ℕ → ℕ → List Item
other_root_items index now =
    (make_key FS_TREE ROOT_REF CONV_IMAGE_SUBVOL, saved_ref index)
    ∷ (inode_item ROOT_TREE_DIR_OBJECTID (inode_made now DIRECTORY_MODE 0 0 0)
    ∷ (ref_item ROOT_TREE_DIR_OBJECTID ROOT_TREE_DIR_OBJECTID 0 (codes "..")
    ∷ (default_item
    ∷ ((make_key CONV_IMAGE_SUBVOL ROOT_BACKREF FS_TREE, saved_ref index) ∷ []))))

-- the whole of it
abbrev pub root_items : List TreeRoot → ℕ → Ids → ℕ → ℕ → List Item
root_items list index ids now nodesize = merged (map (tree_root_item ids nodesize) list) (other_root_items index now)

-- from `first` on, the items up to `next` are before the key, and the one at `next` is not
pub record AreBefore (items : List Item) (first : ℕ) (key : Key) (next : ℕ) : Type 0 where
  pub low : first ≤ next
  pub within : next ≤ length items
  pub before : (k : ℕ) (d : Item) → first ≤ k → k < next → IsBefore (slice_index_or items k d).0 key
  pub behind : (d : Item) → next < length items → IsBefore (slice_index_or items next d).0 key → ⊥
