-- What is written is read again.
use Rattle.std.specs.Prelude.{◌≡◌, Some}
use Rattle.vol_block.specs.btrfs_format.declared.size.TheConstants.{INODE_ITEM_SIZE, KEY_SIZE, TIMESPEC_SIZE}
use Rattle.btr_keys.specs.Layout.{ReadsBack}
use Rattle.btr_keys.specs.Repeated.{RecordsReadBack}
use Rattle.btr_keys.specs.Key.{key_layout}
use Rattle.btr_keys.specs.Stamp.{stamp_layout}
use Rattle.btr_keys.specs.Inode.{inode_layout}
use Rattle.btr_keys.specs.InodeRef.{inode_ref_head, inode_ref_bytes, inode_refs_of}
use Rattle.btr_keys.specs.Extref.{extref_head, extref_bytes, extrefs_of}
use Rattle.btr_keys.specs.DirEntry.{dir_entry_head, dir_entry_bytes, dir_items_of}
use Rattle.btr_keys.specs.FileExtent.{FileExtentValue, file_extent_head, FitsContent, file_extent_bytes, file_extent_of, disk_range_layout}

abbrev pub KeysReadBack : Type 0
KeysReadBack = ReadsBack KEY_SIZE key_layout

abbrev pub StampsReadBack : Type 0
StampsReadBack = ReadsBack TIMESPEC_SIZE stamp_layout

abbrev pub InodesReadBack : Type 0
InodesReadBack = ReadsBack INODE_ITEM_SIZE inode_layout

abbrev pub InodeRefsReadBack : Type 0
InodeRefsReadBack = RecordsReadBack inode_refs_of inode_ref_bytes inode_ref_head.fits

abbrev pub ExtrefsReadBack : Type 0
ExtrefsReadBack = RecordsReadBack extrefs_of extref_bytes extref_head.fits

abbrev pub DirItemsReadBack : Type 0
DirItemsReadBack = RecordsReadBack dir_items_of dir_entry_bytes dir_entry_head.fits

abbrev pub DiskRangesReadBack : Type 0
DiskRangesReadBack = ReadsBack 32 disk_range_layout

abbrev pub FileExtentsReadBack : Type 0
FileExtentsReadBack = (e : FileExtentValue) → file_extent_head.fits e → FitsContent e.content → file_extent_of (file_extent_bytes e) ≡ Some e
