-- What Linux asks of one file extent, as tests.
use Rattle.std.specs.Prelude.{ℕ, ◌+◌, ◌%◌, ◌==◌, nat_le, nat_lt, Bool, true, false, not, ◌&&◌, ◌||◌, length, Option, Some, None}
use Rattle.btr_check_rules.specs.btr_reader.fs_rows.Kinds.{has_bytes}
use Rattle.btr_check_rules.specs.btr_reader.fs_rows.declared.row.Kind.{Kind}
use Rattle.btr_check_rules.specs.btr_reader.btr_keys.FileExtent.{ContentValue, Inline, Regular, Prealloc, FileExtentValue}
use Rattle.btr_check_rules.specs.btr_reader.btr_keys.declared.file_extent.DiskRange.{DiskRange}
use Rattle.btr_check_rules.specs.btr_reader.btr_keys.declared.inode.Inode.{Inode}
use Rattle.btr_check_rules.specs.btr_reader.btr_reader_contents.Extents.{is_hole}
use Rattle.btr_check_rules.specs.btr_reader.btr_reader_names.Inodes.{kind_of_mode}
use Rattle.btr_check_rules.specs.btr_reader.btr_super.declared.superblock.Super.{Super}
use Rattle.btr_check_rules.specs.Inodes.{has_no_sums}

abbrev pub is_whole : ℕ → Bool
is_whole bytes = bytes % 4096 == 0

abbrev pub same_test : Bool → Bool → Bool
same_test true b = b
same_test false b = not b

abbrev pub are_whole : ℕ → DiskRange → Bool
are_whole ram d = is_whole d.disk_bytenr && (is_whole d.disk_num_bytes && (is_whole d.offset && (is_whole d.num_bytes && is_whole ram)))

-- a part of a disk extent is whole blocks, in what the extent has in memory and on the disk
abbrev pub is_range : ℕ → ℕ → DiskRange → Bool
is_range ram compression d =
    are_whole ram d
    && (not (d.num_bytes == 0)
    && (nat_le (d.offset + d.num_bytes) ram
    && ((is_hole d || (not (compression == 0) || nat_le (d.offset + d.num_bytes) d.disk_num_bytes)) && same_test (is_hole d) (d.disk_num_bytes == 0))))

abbrev pub is_compressed : ℕ → DiskRange → Bool
is_compressed ram d = not (is_hole d) && (nat_le ram 131072 && nat_lt d.disk_num_bytes ram)

abbrev pub keeps_inline : ℕ → ℕ → ℕ → ℕ → Bool
keeps_inline place ram compression size =
    (place == 0) && (nat_le 1 ram && (nat_le ram 4096 && (nat_lt size 4096 && (not (compression == 0) || (ram == size)))))

abbrev pub keeps_content : ℕ → ℕ → ℕ → ContentValue → Bool
keeps_content place ram compression (Inline bytes) = keeps_inline place ram compression (length bytes)
keeps_content place ram compression (Regular d) = is_range ram compression d && ((compression == 0) || is_compressed ram d)
keeps_content place ram compression (Prealloc d) = is_range ram compression d && (compression == 0)

abbrev pub needs_sums : ℕ → ContentValue → Bool
needs_sums compression (Inline bytes) = false
needs_sums compression (Regular d) = not (compression == 0)
needs_sums compression (Prealloc d) = not (compression == 0)

abbrev pub kind_has_bytes : Option Kind → Bool
kind_has_bytes None = false
kind_has_bytes (Some kind) = has_bytes kind

-- files and symlinks may have extents
abbrev pub may_have_extents : Inode → Bool
may_have_extents inode = kind_has_bytes (kind_of_mode inode.mode)

-- its generation, and how it is encoded
abbrev pub keeps_head : Super → FileExtentValue → Bool
keeps_head s e = nat_le e.generation s.generation && ((e.encryption == 0) && ((e.other == 0) && nat_le e.compression 3))

abbrev pub keeps_extent : Super → Inode → ℕ → FileExtentValue → Bool
keeps_extent s inode place e =
    keeps_head s e
    && (is_whole place
    && (keeps_content place e.ram_bytes e.compression e.content
    && (not (needs_sums e.compression e.content && has_no_sums inode) && may_have_extents inode)))
