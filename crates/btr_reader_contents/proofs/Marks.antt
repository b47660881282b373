-- The bytes of a file as those of a function.
use Rattle.btr_reader_contents.proofs.Imports.{◌≡◌, ℕ, ◌+◌, List, ap, arith, range_with_len, Image, MapRange, TreeItem, map_same, extents_of, file_byte, bytes_of_inode}
use Rattle.fs_rows.specs.Bytes.{bytes_by}

-- the bytes of a file by a function
pub file_is : (image : Image) (ranges : List MapRange) (items : List TreeItem) (ino size : ℕ) → bytes_of_inode image ranges items ino size ≡ bytes_by size (file_byte image ranges (extents_of items ino)) 0
unfolding bytes_by
file_is image ranges items ino size =
    map_same (file_byte image ranges (extents_of items ino)) (λ j. file_byte image ranges (extents_of items ino) (0 + j)) (λ k. ap (file_byte image ranges (extents_of items ino)) (omega arith)) (range_with_len 0 size)
