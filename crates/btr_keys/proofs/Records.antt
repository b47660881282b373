-- The layouts of this crate read what they write.
use Rattle.btr_keys.proofs.Imports.{◌≡◌, [], ◌∷◌, length, drop, cond, ltb, Bool, false, None, Some, refl, ap, ◌∙◌, arith, lit<, length-append, le-ltb, take_at, drop_at, option_map, INODE_ITEM_SIZE, KEY_SIZE, TIMESPEC_SIZE, little_number-reads_back, ReadsBack, key_layout, make_key, stamp_layout, make_stamp, inode_layout, make_inode, inode_ref_head, make_inode_ref, extref_head, make_extref, dir_entry_head, make_dir_entry, disk_range_layout, make_disk_range, ContentValue, Inline, Regular, Prealloc, content_kind, content_of, content_bytes, FitsContent, file_extent_head, make_file_extent, file_extent_bytes}
use Rattle.btr_keys.specs.Laws.{InodeRefsReadBack, ExtrefsReadBack, DirItemsReadBack, DiskRangesReadBack, FileExtentsReadBack}
use Rattle.btr_keys.proofs.Layouts.{Reads, start, ◌▹◌, skip, u8_reads, u16_reads, u32_reads, u64_reads, i64_reads, part_reads, reads_back}
use Rattle.btr_keys.proofs.Repeats.{IsNamed, records_read_back}

pub key_reads : Reads key_layout (λ v. v)
unfolding key_layout
key_reads = start make_key ▹ u64_reads ▹ u8_reads ▹ u64_reads

pub keys_read_back : ReadsBack KEY_SIZE key_layout
unfolding key_layout
keys_read_back = reads_back refl key_reads

pub stamp_reads : Reads stamp_layout (λ v. v)
unfolding stamp_layout
stamp_reads = start make_stamp ▹ i64_reads ▹ u32_reads

pub stamps_read_back : ReadsBack TIMESPEC_SIZE stamp_layout
unfolding stamp_layout
stamps_read_back = reads_back refl stamp_reads

pub inode_reads : Reads inode_layout (λ v. v)
unfolding inode_layout
inode_reads =
    skip 32 (start make_inode ▹ u64_reads ▹ u64_reads ▹ u64_reads ▹ u64_reads ▹ u64_reads ▹ u32_reads ▹ u32_reads ▹ u32_reads ▹ u32_reads ▹ u64_reads ▹ u64_reads ▹ u64_reads)
    ▹ part_reads stamp_reads ▹ part_reads stamp_reads ▹ part_reads stamp_reads ▹ part_reads stamp_reads

pub inodes_read_back : ReadsBack INODE_ITEM_SIZE inode_layout
unfolding inode_layout stamp_layout
inodes_read_back = reads_back refl inode_reads

pub inode_ref_is_named : IsNamed 10 8 inode_ref_head (λ r. r.name)
unfolding inode_ref_head
inode_ref_is_named = record {
  make = λ r. make_inode_ref r.index (length r.name);
  reads = start make_inode_ref ▹ u64_reads ▹ u16_reads;
  width = refl;
  some = lit< tt;
  name_length = λ r rest fits. little_number-reads_back 2 (length r.name) rest fits.1;
  whole = λ r rest. λ i. record { index = r.index; name = take_at r.name rest (length r.name) refl i };
}

pub inode_refs_read_back : InodeRefsReadBack
inode_refs_read_back = records_read_back inode_ref_is_named

pub extref_is_named : IsNamed 18 16 extref_head (λ r. r.name)
unfolding extref_head
extref_is_named = record {
  make = λ r. make_extref r.parent r.index (length r.name);
  reads = start make_extref ▹ u64_reads ▹ u64_reads ▹ u16_reads;
  width = refl;
  some = lit< tt;
  name_length = λ r rest fits. little_number-reads_back 2 (length r.name) rest fits.1;
  whole = λ r rest. λ i. record { parent = r.parent; index = r.index; name = take_at r.name rest (length r.name) refl i };
}

pub extrefs_read_back : ExtrefsReadBack
extrefs_read_back = records_read_back extref_is_named

pub dir_entry_is_named : IsNamed 30 27 dir_entry_head (λ e. e.name)
unfolding dir_entry_head key_layout
dir_entry_is_named = record {
  make = λ e. make_dir_entry e.location e.transid e.data_length (length e.name) e.kind;
  reads = start make_dir_entry ▹ part_reads key_reads ▹ u64_reads ▹ u16_reads ▹ u16_reads ▹ u8_reads;
  width = refl;
  some = lit< tt;
  name_length = λ e rest fits. little_number-reads_back 2 (length e.name) (e.kind ∷ rest) fits.0.1;
  whole = λ e rest. λ i. record { location = e.location; transid = e.transid; data_length = e.data_length; kind = e.kind; name = take_at e.name rest (length e.name) refl i };
}

pub dir_items_read_back : DirItemsReadBack
dir_items_read_back = records_read_back dir_entry_is_named

pub disk_range_reads : Reads disk_range_layout (λ v. v)
unfolding disk_range_layout
disk_range_reads = start make_disk_range ▹ u64_reads ▹ u64_reads ▹ u64_reads ▹ u64_reads

pub disk_ranges_read_back : DiskRangesReadBack
unfolding disk_range_layout
disk_ranges_read_back = reads_back refl disk_range_reads

file_extent_reads : Reads file_extent_head (λ e. make_file_extent e.generation e.ram_bytes e.compression e.encryption e.other (content_kind e.content))
unfolding file_extent_head
file_extent_reads = start make_file_extent ▹ u64_reads ▹ u64_reads ▹ u8_reads ▹ u8_reads ▹ u16_reads ▹ u8_reads

file_extent_width : file_extent_head.width ≡ 21
unfolding file_extent_head
file_extent_width = refl

content_reads : (c : ContentValue) → FitsContent c → content_of (content_kind c) (content_bytes c) ≡ Some c
content_reads (Inline bytes) fits = refl
content_reads (Regular range) fits = ap (option_map Regular) (disk_ranges_read_back range fits)
content_reads (Prealloc range) fits = ap (option_map Prealloc) (disk_ranges_read_back range fits)

pub file_extents_read_back : FileExtentsReadBack
file_extents_read_back e fits content_fits =
    let bytes = file_extent_bytes e in
    let behind = content_bytes e.content in
    let len : length (file_extent_head.spell e []) ≡ 21 = file_extent_reads.len e fits ∙ file_extent_width in
    let long : ltb (length bytes) 21 ≡ false = le-ltb _ _ (omega (arith, len, ap length (file_extent_reads.apart e behind), length-append (file_extent_head.spell e []) behind)) in
    let there : drop 21 bytes ≡ behind = ap (drop 21) (file_extent_reads.apart e behind) ∙ drop_at (file_extent_head.spell e []) behind 21 len in
    ap (λ (b : Bool). cond b None (file_extent_head.read bytes (drop 21 bytes))) long
    ∙ ap (λ f. f (drop 21 bytes)) (file_extent_reads.back e behind fits)
    ∙ ap (make_file_extent e.generation e.ram_bytes e.compression e.encryption e.other (content_kind e.content)) there
    ∙ ap (option_map (λ (content : ContentValue). record { generation = e.generation; ram_bytes = e.ram_bytes; compression = e.compression; encryption = e.encryption; other = e.other; content = content })) (content_reads e.content content_fits)
