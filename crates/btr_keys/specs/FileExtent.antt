-- Bodies of file extents, as the Btrfs on-disk format documentation has them (struct btrfs_file_extent_item).
use Rattle.std.specs.Prelude.{ℕ, ◌+◌, ◌==◌, nat_lt, if◌then◌else◌, List, length, drop, Option, Some, None}
use Rattle.std.specs.Option.{option_map}
use Rattle.vol_block.specs.btrfs_format.declared.flag.TheConstants.{FILE_EXTENT_INLINE, FILE_EXTENT_PREALLOC, FILE_EXTENT_REG}
use Rattle.vol_block.specs.btrfs_format.declared.size.TheConstants.{FILE_EXTENT_INLINE_START}
use Rattle.btr_keys.specs.Layout.{Layout, made_by, ◌▸◌, u8, u16, u64, whole, spelling}
use Rattle.btr_keys.specs.declared.file_extent.DiskRange.{DiskRange}
use Rattle.btr_keys.specs.declared.file_extent.ExtentContent.{ExtentContent}
use Rattle.btr_keys.specs.declared.file_extent.ExtentContent.TheVariants as content
use Rattle.btr_keys.specs.declared.file_extent.FileExtent.{FileExtent}

abbrev pub make_disk_range : ℕ → ℕ → ℕ → ℕ → DiskRange
make_disk_range disk_bytenr disk_num_bytes offset num_bytes =
    record { disk_bytenr = disk_bytenr; disk_num_bytes = disk_num_bytes; offset = offset; num_bytes = num_bytes }

unfoldable pub disk_range_layout : Layout DiskRange DiskRange
disk_range_layout =
    made_by make_disk_range
    ▸ u64 (λ r. r.disk_bytenr)
    ▸ u64 (λ r. r.disk_num_bytes)
    ▸ u64 (λ r. r.offset)
    ▸ u64 (λ r. r.num_bytes)

-- the range that is the whole slice
abbrev pub disk_range_of : List ℕ → Option DiskRange
disk_range_of bytes = whole 32 disk_range_layout bytes

-- the 32 bytes of a range
abbrev pub disk_range_bytes : DiskRange → List ℕ
disk_range_bytes range = spelling disk_range_layout range

-- contents without where inline bytes lie in memory
pub data ContentValue : Type 0 where
  Inline : List ℕ → ContentValue
  Regular : DiskRange → ContentValue
  Prealloc : DiskRange → ContentValue

abbrev pub content_value : ExtentContent → ContentValue
content_value (content.Inline bytes) = Inline bytes.now
content_value (content.Regular range) = Regular range
content_value (content.Prealloc range) = Prealloc range

-- the byte that says which contents there are
abbrev pub content_kind : ContentValue → ℕ
content_kind (Inline bytes) = FILE_EXTENT_INLINE
content_kind (Regular range) = FILE_EXTENT_REG
content_kind (Prealloc range) = FILE_EXTENT_PREALLOC

-- the contents of a kind that are these bytes
abbrev pub content_of : ℕ → List ℕ → Option ContentValue
content_of kind bytes =
    if kind == FILE_EXTENT_INLINE then Some (Inline bytes)
    else (if kind == FILE_EXTENT_REG then option_map Regular (disk_range_of bytes)
    else (if kind == FILE_EXTENT_PREALLOC then option_map Prealloc (disk_range_of bytes) else None))

abbrev pub content_bytes : ContentValue → List ℕ
content_bytes (Inline bytes) = bytes
content_bytes (Regular range) = disk_range_bytes range
content_bytes (Prealloc range) = disk_range_bytes range

-- a range's numbers fit; any bytes may be inline
abbrev pub FitsContent : ContentValue → Type 0
FitsContent (Inline bytes) = Unit {0}
FitsContent (Regular range) = disk_range_layout.fits range
FitsContent (Prealloc range) = disk_range_layout.fits range

-- an extent without where inline bytes lie in memory
pub record FileExtentValue : Type 0 where
  pub generation : ℕ
  pub ram_bytes : ℕ
  pub compression : ℕ
  pub encryption : ℕ
  pub other : ℕ
  pub content : ContentValue

abbrev pub file_extent_value : FileExtent → FileExtentValue
file_extent_value e =
    record { generation = e.generation; ram_bytes = e.ram_bytes; compression = e.compression; encryption = e.encryption; other = e.other; content = content_value e.content }

abbrev pub make_file_extent : ℕ → ℕ → ℕ → ℕ → ℕ → ℕ → List ℕ → Option FileExtentValue
make_file_extent generation ram_bytes compression encryption other kind behind =
    option_map
    (λ content. record { generation = generation; ram_bytes = ram_bytes; compression = compression; encryption = encryption; other = other; content = content })
    (content_of kind behind)

-- what stands before the contents
unfoldable pub file_extent_head : Layout FileExtentValue (List ℕ → Option FileExtentValue)
file_extent_head =
    made_by make_file_extent
    ▸ u64 (λ e. e.generation)
    ▸ u64 (λ e. e.ram_bytes)
    ▸ u8 (λ e. e.compression)
    ▸ u8 (λ e. e.encryption)
    ▸ u16 (λ e. e.other)
    ▸ u8 (λ e. content_kind e.content)

-- the extent that is the whole body
abbrev pub file_extent_of : List ℕ → Option FileExtentValue
file_extent_of body = if nat_lt (length body) FILE_EXTENT_INLINE_START then None else file_extent_head.read body (drop FILE_EXTENT_INLINE_START body)

-- the bytes of an extent
abbrev pub file_extent_bytes : FileExtentValue → List ℕ
file_extent_bytes e = file_extent_head.spell e (content_bytes e.content)

-- how many bytes the contents take
abbrev pub content_size : ContentValue → ℕ
content_size (Inline bytes) = length bytes
content_size (Regular range) = 32
content_size (Prealloc range) = 32

-- how many bytes an extent takes
abbrev pub file_extent_size : FileExtentValue → ℕ
file_extent_size e = FILE_EXTENT_INLINE_START + content_size e.content
