-- The checksum of a node: the first 32 bytes, over all bytes behind them.
use Rattle.std.specs.Prelude.{◌≡◌, ℕ, Bool, List, take, drop}
use Rattle.std.specs.Str.{bytes_eq}
use Rattle.btr_keys.specs.btrfs_format.declared.size.TheConstants.{CSUM_SIZE}
use Rattle.csum_kinds.specs.declared.kind.SumKind.{SumKind}
use Rattle.csum_kinds.specs.Kind.{kind_sum}

abbrev pub HasSum : SumKind → List ℕ → Type 0
HasSum sums bytes = take CSUM_SIZE bytes ≡ kind_sum sums (drop CSUM_SIZE bytes)

-- The same as a test.
abbrev pub has_sum : SumKind → List ℕ → Bool
has_sum sums bytes = bytes_eq (take CSUM_SIZE bytes) (kind_sum sums (drop CSUM_SIZE bytes))
