-- The kinds of checksums, as the Btrfs on-disk format numbers them.
use Rattle.std.specs.Prelude.{ℕ, List, ◌++◌, replicate}
use Rattle.std.specs.Int.{w32, to_le_bytes}
use Rattle.castagnoli.specs.Castagnoli.{crc32c}
use Rattle.sha2.specs.Sha256.{sha256}
use Rattle.csum_kinds.specs.declared.kind.SumKind.{SumKind}
use Rattle.csum_kinds.specs.declared.kind.SumKind.TheVariants.{Crc32c, Sha256}

-- the field of 32 bytes with the checksum of some bytes: the sum's own bytes, filled up with zeros
unfoldable pub kind_sum : SumKind → List ℕ → List ℕ
kind_sum Crc32c bytes = to_le_bytes w32 (crc32c bytes) ++ replicate 28 0
kind_sum Sha256 bytes = sha256 bytes

-- how many bytes the sum itself has
abbrev pub kind_width : SumKind → ℕ
kind_width Crc32c = 4
kind_width Sha256 = 32
