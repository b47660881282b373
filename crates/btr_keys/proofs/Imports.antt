-- What the proofs of btr_keys import of std, of lower crates and of its specs.
pub use Rattle.std.proofs.Common.{Bool, Fits, IsSome, List, None, Option, Some, [], ap, append_assoc, arith, cond, drop, eq-eqb, false, get_or, get_or-drop, is_some, length, length-append, length-drop, lit<, ltb, map, refl, replicate, slice_get, slice_index_or, subst, suc, sym, take, true, zero, ℕ, ℤ, ◌++◌, ◌+◌, ◌-◌, ◌<◌, ◌==◌, ◌^◌, ◌∙◌, ◌∷◌, ◌≡◌, ◌≤◌}
pub use Rattle.std.proofs.lemmas.Bool.{eqb-true, le-ltb, ltb-false}
pub use Rattle.std.proofs.lemmas.List.{append-nil, drop_at, drop_more, length-map, length-replicate, take_at, take_rest}
pub use Rattle.std.specs.Option.{option_and_then, option_map}
pub use Rattle.btr_keys.specs.DirEntry.{dir_entry_front, make_dir_entry}
unfoldable pub use Rattle.btr_keys.specs.DirEntry.{dir_entry_head}
pub use Rattle.btr_keys.specs.Extref.{extref_front, make_extref}
unfoldable pub use Rattle.btr_keys.specs.Extref.{extref_head}
pub use Rattle.btr_keys.specs.FileExtent.{ContentValue, FitsContent, Inline, Prealloc, Regular, content_bytes, content_kind, content_of, file_extent_bytes, file_extent_of, file_extent_value, make_disk_range, make_file_extent}
unfoldable pub use Rattle.btr_keys.specs.FileExtent.{disk_range_layout, file_extent_head}
pub use Rattle.btr_keys.specs.Inode.{make_inode}
unfoldable pub use Rattle.btr_keys.specs.Inode.{inode_layout}
pub use Rattle.btr_keys.specs.InodeRef.{inode_ref_front, make_inode_ref}
unfoldable pub use Rattle.btr_keys.specs.InodeRef.{inode_ref_head}
pub use Rattle.btr_keys.specs.Key.{make_key}
unfoldable pub use Rattle.btr_keys.specs.Key.{key_layout}
pub use Rattle.btr_keys.specs.Layout.{Layout, LayoutField, ReadsBack, array, i64, made_by, number, part, reserved, u16, u32, u64, u8, ◌▸◌}
pub use Rattle.btr_keys.specs.Repeated.{RecordsReadBack, at_least_one, records, starts}
unfoldable pub use Rattle.btr_keys.specs.Repeated.{behind_named, starts_within}
pub use Rattle.btr_keys.specs.Stamp.{make_stamp}
unfoldable pub use Rattle.btr_keys.specs.Stamp.{stamp_layout}
pub use Rattle.byteorder.specs.Numbers.{length-bytes_low_first, little_number-reads_back}
pub use Rattle.vol_block.specs.Volume.{field}
pub use Rattle.vol_block.specs.btrfs_format.declared.size.TheConstants.{DIR_ITEM_SIZE, INODE_EXTREF_SIZE, INODE_ITEM_SIZE, INODE_REF_SIZE, KEY_SIZE, TIMESPEC_SIZE}
