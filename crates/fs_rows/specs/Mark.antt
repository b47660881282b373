-- The mark of a file: the SHA-256 (FIPS 180-4) of its blocks of 4096 bytes that are not all zeros, each behind its index
-- as eight bytes, the low one first.
use Rattle.std.specs.Prelude.{ℕ, ◌*◌, Bool, List, [], ◌++◌, length, take, drop, map, nat_eq, if◌then◌else◌}
use Rattle.std.specs.Int.{div_ceil}
use Rattle.std.specs.List.{flat_map, range_with_len}
use Rattle.std.specs.Cmp.Lexicographic.{pointwise}
use Rattle.byteorder.specs.Endian.{little_bytes}
use Rattle.sha2.specs.Sha256.{sha256}
use Rattle.sink_text.specs.vol_block.Volume.{zeros}

-- a block of zeros
abbrev pub is_zeros : List ℕ → Bool
is_zeros bytes = pointwise nat_eq bytes zeros

-- what a block with its index adds to the message
abbrev pub marked_block : ℕ × List ℕ → List ℕ
marked_block block = if is_zeros block.1 then [] else (little_bytes 8 block.0 ++ block.1)

-- the mark of blocks, each with its index
unfoldable pub mark_of : List (ℕ × List ℕ) → List ℕ
mark_of blocks = sha256 (flat_map marked_block blocks)

-- block i of the bytes of a file, the last one filled up with zeros
unfoldable pub block_of_bytes : List ℕ → ℕ → List ℕ
block_of_bytes bytes i = take 4096 (drop (4096 * i) bytes ++ zeros)

-- the blocks of the bytes of a file, each with its index
unfoldable pub blocks_of_bytes : List ℕ → List (ℕ × List ℕ)
blocks_of_bytes bytes = map (λ i. (i, block_of_bytes bytes i)) (range_with_len 0 (div_ceil (length bytes) 4096))

-- the mark of a file of these bytes
unfoldable pub mark_of_bytes : List ℕ → List ℕ
mark_of_bytes bytes = mark_of (blocks_of_bytes bytes)
