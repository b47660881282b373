-- Bodies of root items, as the Btrfs on-disk format documentation has them (struct btrfs_root_item).
use Rattle.std.specs.Prelude.{ℕ, List, Option}
use Rattle.btr_keys.specs.btrfs_format.declared.size.TheConstants.{ROOT_ITEM_SIZE}
use Rattle.btr_keys.specs.Layout.{Layout, made_by, ◌▸◌, u8, u32, u64, array, part, reserved, whole, spelling}
use Rattle.btr_keys.specs.Key.{key_layout}
use Rattle.btr_keys.specs.Stamp.{stamp}
use Rattle.btr_keys.specs.Inode.{inode_layout}
use Rattle.btr_keys.specs.declared.key.Key.{Key}
use Rattle.btr_keys.specs.declared.stamp.Stamp.{Stamp}
use Rattle.btr_keys.specs.declared.inode.Inode.{Inode}
use Rattle.btr_space_items.specs.declared.root_item.RootItem.{RootItem}

abbrev pub make_root_item : Inode → ℕ → ℕ → ℕ → ℕ → ℕ → ℕ → ℕ → ℕ → Key → ℕ → ℕ → ℕ → List ℕ → List ℕ → List ℕ → ℕ → ℕ → ℕ → ℕ → Stamp → Stamp → Stamp → Stamp → RootItem
make_root_item inode generation root_dirid bytenr byte_limit bytes_used last_snapshot flags refs drop_progress drop_level level generation_v2 uuid parent_uuid received_uuid ctransid otransid stransid rtransid ctime otime stime rtime =
    record {
      inode = inode;
      generation = generation;
      root_dirid = root_dirid;
      bytenr = bytenr;
      byte_limit = byte_limit;
      bytes_used = bytes_used;
      last_snapshot = last_snapshot;
      flags = flags;
      refs = refs;
      drop_progress = drop_progress;
      drop_level = drop_level;
      level = level;
      generation_v2 = generation_v2;
      uuid = uuid;
      parent_uuid = parent_uuid;
      received_uuid = received_uuid;
      ctransid = ctransid;
      otransid = otransid;
      stransid = stransid;
      rtransid = rtransid;
      ctime = ctime;
      otime = otime;
      stime = stime;
      rtime = rtime;
    }

-- the fields, and 64 bytes that are kept for later
unfoldable pub root_item_layout : Layout RootItem RootItem
root_item_layout =
    reserved 64
    (made_by make_root_item
    ▸ part inode_layout (λ v. v.inode)
    ▸ u64 (λ v. v.generation)
    ▸ u64 (λ v. v.root_dirid)
    ▸ u64 (λ v. v.bytenr)
    ▸ u64 (λ v. v.byte_limit)
    ▸ u64 (λ v. v.bytes_used)
    ▸ u64 (λ v. v.last_snapshot)
    ▸ u64 (λ v. v.flags)
    ▸ u32 (λ v. v.refs)
    ▸ part key_layout (λ v. v.drop_progress)
    ▸ u8 (λ v. v.drop_level)
    ▸ u8 (λ v. v.level)
    ▸ u64 (λ v. v.generation_v2)
    ▸ array 16 (λ v. v.uuid)
    ▸ array 16 (λ v. v.parent_uuid)
    ▸ array 16 (λ v. v.received_uuid)
    ▸ u64 (λ v. v.ctransid)
    ▸ u64 (λ v. v.otransid)
    ▸ u64 (λ v. v.stransid)
    ▸ u64 (λ v. v.rtransid)
    ▸ stamp (λ v. v.ctime)
    ▸ stamp (λ v. v.otime)
    ▸ stamp (λ v. v.stime)
    ▸ stamp (λ v. v.rtime))

-- the root item that is the whole body
abbrev pub root_item_of : List ℕ → Option RootItem
root_item_of body = whole ROOT_ITEM_SIZE root_item_layout body

-- the 439 bytes of a root item
abbrev pub root_item_bytes : RootItem → List ℕ
root_item_bytes root = spelling root_item_layout root
