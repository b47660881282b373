-- Bodies of inode items, as the Btrfs on-disk format documentation has them (struct btrfs_inode_item).
use Rattle.std.specs.Prelude.{ℕ, List, drop, Option}
use Rattle.vol_block.specs.btrfs_format.declared.size.TheConstants.{INODE_ITEM_SIZE}
use Rattle.btr_keys.specs.Layout.{Layout, made_by, ◌▸◌, u32, u64, reserved, whole, spelling}
use Rattle.btr_keys.specs.Stamp.{stamp}
use Rattle.btr_keys.specs.declared.stamp.Stamp.{Stamp}
use Rattle.btr_keys.specs.declared.inode.Inode.{Inode}

abbrev pub make_inode : ℕ → ℕ → ℕ → ℕ → ℕ → ℕ → ℕ → ℕ → ℕ → ℕ → ℕ → ℕ → Stamp → Stamp → Stamp → Stamp → Inode
make_inode generation transid size nbytes block_group nlink uid gid mode rdev flags sequence atime ctime mtime otime =
    record {
      generation = generation;
      transid = transid;
      size = size;
      nbytes = nbytes;
      block_group = block_group;
      nlink = nlink;
      uid = uid;
      gid = gid;
      mode = mode;
      rdev = rdev;
      flags = flags;
      sequence = sequence;
      atime = atime;
      ctime = ctime;
      mtime = mtime;
      otime = otime;
    }

-- the numbers, 32 bytes that are kept for later, and the times
unfoldable pub inode_layout : Layout Inode Inode
inode_layout =
    reserved 32
    (made_by make_inode
    ▸ u64 (λ i. i.generation)
    ▸ u64 (λ i. i.transid)
    ▸ u64 (λ i. i.size)
    ▸ u64 (λ i. i.nbytes)
    ▸ u64 (λ i. i.block_group)
    ▸ u32 (λ i. i.nlink)
    ▸ u32 (λ i. i.uid)
    ▸ u32 (λ i. i.gid)
    ▸ u32 (λ i. i.mode)
    ▸ u64 (λ i. i.rdev)
    ▸ u64 (λ i. i.flags)
    ▸ u64 (λ i. i.sequence))
    ▸ stamp (λ i. i.atime)
    ▸ stamp (λ i. i.ctime)
    ▸ stamp (λ i. i.mtime)
    ▸ stamp (λ i. i.otime)

-- the inode in the 160 bytes from a place on
abbrev pub inode_at : List ℕ → ℕ → Inode
inode_at bytes at = inode_layout.read (drop at bytes)

-- the inode that is the whole body
abbrev pub inode_of : List ℕ → Option Inode
inode_of body = whole INODE_ITEM_SIZE inode_layout body

-- the 160 bytes of an inode
abbrev pub inode_bytes : Inode → List ℕ
inode_bytes inode = spelling inode_layout inode
