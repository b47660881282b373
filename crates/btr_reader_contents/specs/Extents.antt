-- The bytes of a file, by its extents.
use Rattle.std.specs.Prelude.{ℕ, zero, suc, ◌+◌, ◌-◌, ◌/◌, ◌%◌, ◌^◌, ◌==◌, nat_lt, nat_le, Bool, true, ◌&&◌, ◌||◌, if◌then◌else◌, List, [], ◌∷◌, ◌++◌, length, map, filter, Option, Some, None, slice_index}
use Rattle.std.specs.List.{range_with_len}
use Rattle.btr_reader_walk.specs.btrfs_format.declared.key.TheConstants.{EXTENT_DATA}
use Rattle.btr_reader_walk.specs.outside.History.{Image, block_at}
use Rattle.btr_reader_walk.specs.refusals.declared.refusal.BtrRefusal.{BtrRefusal}
use Rattle.btr_reader_walk.specs.refusals.declared.refusal.BtrRefusal.TheVariants.{BadBtrfs, Unsupported}
use Rattle.btr_reader_walk.specs.refusals.declared.rule.BtrRule.TheVariants.{Unmapped, Body, ExtentForm}
use Rattle.btr_reader_walk.specs.refusals.declared.rule.Feature.TheVariants.{Compression, Encryption}
use Rattle.btr_reader_walk.specs.btr_keys.FileExtent.{ContentValue, Inline, Regular, Prealloc, FileExtentValue, file_extent_of}
use Rattle.btr_reader_walk.specs.btr_keys.declared.file_extent.DiskRange.{DiskRange}
use Rattle.btr_reader_walk.specs.btr_keys.declared.key.Key.{Key}
use Rattle.btr_reader_walk.specs.declared.map.MapRange.{MapRange}
use Rattle.btr_reader_walk.specs.Map.{place}
use Rattle.btr_reader_walk.specs.Events.{TreeItem}

-- the extents of a file, in the order of their places in it
abbrev pub is_extent_key : ℕ → Key → Bool
is_extent_key ino key = (key.objectid == ino) && (key.kind == EXTENT_DATA)

abbrev pub is_extent_of : ℕ → TreeItem → Bool
is_extent_of ino i = is_extent_key ino i.key

abbrev pub extents_of : List TreeItem → ℕ → List TreeItem
extents_of items ino = filter (is_extent_of ino) items

-- a regular extent with no place on the device is a hole
abbrev pub is_hole : DiskRange → Bool
is_hole r = r.disk_bytenr == 0

-- how many bytes of the file an extent is
abbrev pub extent_length : ContentValue → ℕ
extent_length (Inline bytes) = length bytes
extent_length (Regular r) = r.num_bytes
extent_length (Prealloc r) = r.num_bytes

-- the byte at an address, 0 where that is in no chunk
abbrev pub byte_of_place : Image → Option ℕ → ℕ
byte_of_place image None = 0
byte_of_place image (Some p) = slice_index (block_at image (p / 4096)) (p % 4096)

-- byte k of an extent: of an inline one its own, of a regular one that of the device, of a hole and of one that was only
-- laid out 0
abbrev pub content_byte : Image → List MapRange → ContentValue → ℕ → ℕ
content_byte image ranges (Inline bytes) k = slice_index bytes k
content_byte image ranges (Regular r) k = if is_hole r then 0 else byte_of_place image (place ranges (r.disk_bytenr + r.offset + k))
content_byte image ranges (Prealloc r) k = 0

-- an extent from byte `offset` of the file on covers byte k
abbrev pub covers : ℕ → ContentValue → ℕ → Bool
covers offset content k = nat_le offset k && nat_lt k (offset + extent_length content)

-- byte i of a file with these extents: that of the one that covers it, or 0
abbrev pub byte_from : Image → List MapRange → TreeItem → Option FileExtentValue → ℕ → ℕ → ℕ
byte_from image ranges i None k other = other
byte_from image ranges i (Some e) k other = if covers i.key.offset e.content k then content_byte image ranges e.content (k - i.key.offset) else other

abbrev pub file_byte : Image → List MapRange → List TreeItem → ℕ → ℕ
file_byte image ranges [] k = 0
file_byte image ranges (i ∷ extents) k = byte_from image ranges i (file_extent_of i.body) k (file_byte image ranges extents k)

-- the bytes of a file or a symlink of this size
abbrev pub bytes_of_inode : Image → List MapRange → List TreeItem → ℕ → ℕ → List ℕ
bytes_of_inode image ranges items ino size = map (file_byte image ranges (extents_of items ino)) (range_with_len 0 size)

-- what is answered where a test fails
abbrev pub refused_unless : Bool → BtrRefusal → List BtrRefusal
refused_unless test refusal = if test then [] else refusal ∷ []

-- from byte `offset` of the file on: whole blocks in the file and on the device, and within the disk extent
abbrev pub range_is_aligned : ℕ → DiskRange → Bool
range_is_aligned offset r =
    (offset % 4096 == 0)
    && ((r.num_bytes % 4096 == 0)
    && (is_hole r || ((r.disk_bytenr % 4096 == 0) && ((r.offset % 4096 == 0) && nat_le (r.offset + r.num_bytes) r.disk_num_bytes))))

abbrev pub is_aligned : ℕ → ContentValue → Bool
is_aligned offset (Inline bytes) = true
is_aligned offset (Regular r) = range_is_aligned offset r
is_aligned offset (Prealloc r) = range_is_aligned offset r

-- how many bytes it adds to those that are covered
abbrev pub range_covers : DiskRange → ℕ
range_covers r = if is_hole r then 0 else r.num_bytes

abbrev pub covered_by : ContentValue → ℕ
covered_by (Inline bytes) = 0
covered_by (Regular r) = range_covers r
covered_by (Prealloc r) = 0

-- an address is told by its lowest 64 bits
abbrev pub at_unmapped : Option ℕ → ℕ → List BtrRefusal
at_unmapped None address = BadBtrfs (address % 2 ^ 64) Unmapped ∷ []
at_unmapped (Some p) address = []

-- blocks from an address on that are in no chunk
abbrev pub unmapped_in : List MapRange → ℕ → ℕ → List BtrRefusal
unmapped_in ranges zero address = []
unmapped_in ranges (suc n) address = at_unmapped (place ranges address) address ++ unmapped_in ranges n (address + 4096)

abbrev pub range_refusals : List MapRange → DiskRange → List BtrRefusal
range_refusals ranges r = if is_hole r then [] else unmapped_in ranges (r.num_bytes / 4096) (r.disk_bytenr + r.offset)

abbrev pub place_refusals : List MapRange → ContentValue → List BtrRefusal
place_refusals ranges (Inline bytes) = []
place_refusals ranges (Regular r) = range_refusals ranges r
place_refusals ranges (Prealloc r) = []

-- where the extents end and what they cover after one more
abbrev pub end_after : ℕ → ℕ → Option FileExtentValue → ℕ
end_after end offset None = end
end_after end offset (Some e) = offset + extent_length e.content

abbrev pub covered_after : ℕ → Option FileExtentValue → ℕ
covered_after covered None = covered
covered_after covered (Some e) = covered + covered_by e.content

-- what is wrong with one extent, from byte `offset` of the file on
abbrev pub has_form : ℕ → ℕ → ℕ → ContentValue → Bool
has_form end covered offset content = nat_le end offset && (is_aligned offset content && nat_lt (covered + covered_by content) (2 ^ 59))

abbrev pub extent_refusals : List MapRange → ℕ → ℕ → ℕ → ℕ → FileExtentValue → List BtrRefusal
extent_refusals ranges end covered offset leaf e =
    refused_unless (e.compression == 0) (Unsupported Compression e.compression)
    ++ (refused_unless (e.encryption == 0) (Unsupported Encryption e.encryption)
    ++ (refused_unless (has_form end covered offset e.content) (BadBtrfs leaf ExtentForm)
    ++ place_refusals ranges e.content))

abbrev pub refusals_at : List MapRange → ℕ → ℕ → TreeItem → Option FileExtentValue → List BtrRefusal
refusals_at ranges end covered i None = BadBtrfs i.leaf Body ∷ []
refusals_at ranges end covered i (Some e) = extent_refusals ranges end covered i.key.offset i.leaf e

-- What is wrong with the extents of a file, one after the other, behind one that ends at `end` of the file, where the
-- regular ones before cover `covered` bytes, holes apart. One that is off its grammar has no end.
abbrev pub extents_refusals : List MapRange → ℕ → ℕ → List TreeItem → List BtrRefusal
extents_refusals ranges end covered [] = []
extents_refusals ranges end covered (i ∷ items) =
    refusals_at ranges end covered i (file_extent_of i.body)
    ++ extents_refusals ranges (end_after end i.key.offset (file_extent_of i.body)) (covered_after covered (file_extent_of i.body)) items

-- where the last of some extents ends, and how much they cover
abbrev pub extents_end : ℕ → List TreeItem → ℕ
extents_end end [] = end
extents_end end (i ∷ items) = extents_end (end_after end i.key.offset (file_extent_of i.body)) items

abbrev pub extents_covered : ℕ → List TreeItem → ℕ
extents_covered covered [] = covered
extents_covered covered (i ∷ items) = extents_covered (covered_after covered (file_extent_of i.body)) items
