-- What the inodes of a new tree have.
use Rattle.std.specs.Prelude.{ℕ, pos, List}
use Rattle.btr_node.specs.btrfs_format.declared.key.TheConstants.{INODE_ITEM, INODE_REF}
use Rattle.btr_node.specs.btr_keys.declared.inode.Inode.{Inode}
use Rattle.btr_node.specs.btr_keys.declared.stamp.Stamp.{Stamp}
use Rattle.btr_node.specs.btr_keys.Inode.{inode_bytes}
use Rattle.btr_node.specs.btr_keys.InodeRef.{inode_ref_bytes}
use Rattle.btr_node.specs.btr_keys.Key.{make_key}
use Rattle.btr_node.specs.Leaf.{Item}

-- a time in seconds since the start of 1970
abbrev pub stamp_of : ℕ → Stamp
stamp_of sec = record { sec = pos sec; nsec = 0 }

-- An inode without a kind: transaction 1 made it, and it has one name.
abbrev pub new_inode : Inode
new_inode = record {
  generation = 1;
  transid = 1;
  size = 0;
  nbytes = 0;
  block_group = 0;
  nlink = 1;
  uid = 0;
  gid = 0;
  mode = 0;
  rdev = 0;
  flags = 0;
  sequence = 0;
  atime = stamp_of 0;
  ctime = stamp_of 0;
  mtime = stamp_of 0;
  otime = stamp_of 0;
}

-- a directory or a file that is made at a time, and belongs to user and group 0
abbrev pub inode_made : ℕ → ℕ → ℕ → ℕ → ℕ → Inode
inode_made now mode size nbytes flags = record new_inode {
  size = size;
  nbytes = nbytes;
  mode = mode;
  flags = flags;
  atime = stamp_of now;
  ctime = stamp_of now;
  mtime = stamp_of now;
}

-- the item of an inode
abbrev pub inode_item : ℕ → Inode → Item
inode_item ino inode = (make_key ino INODE_ITEM 0, inode_bytes inode)

-- the item of an inode's name in a directory, where it has one name there
abbrev pub ref_item : ℕ → ℕ → ℕ → List ℕ → Item
ref_item ino parent index name = (make_key ino INODE_REF parent, inode_ref_bytes (record { index = index; name = name }))
