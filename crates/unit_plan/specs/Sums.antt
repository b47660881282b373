-- Checksums of data.
use Rattle.std.specs.Prelude.{ℕ}
use Rattle.btr_tree.specs.csum_kinds.declared.kind.SumKind.{SumKind}
use Rattle.btr_tree.specs.csum_kinds.declared.kind.SumKind.TheVariants.{Crc32c, Sha256}

-- how many of them an item has at most, so that it fits into a leaf of any size
abbrev pub sums_in_item : SumKind → ℕ
sums_in_item Crc32c = 900
sums_in_item Sha256 = 100
