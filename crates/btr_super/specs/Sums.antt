-- The checksum of a superblock: the first 32 bytes, of the bytes behind them.
use Rattle.std.specs.Prelude.{ℕ, ◌==◌, Bool, true, if◌then◌else◌, List, ◌++◌, drop, nat_eq, Option, Some, None}
use Rattle.std.specs.List.{starts_with}
use Rattle.btr_space_items.specs.btrfs_format.declared.feature.TheConstants.{CSUM_TYPE_CRC32, CSUM_TYPE_SHA256}
use Rattle.btr_space_items.specs.btrfs_format.declared.size.TheConstants.{CSUM_SIZE}
use Rattle.csum_kinds.specs.Kind.{kind_sum}
use Rattle.csum_kinds.specs.declared.kind.SumKind.{SumKind}
use Rattle.csum_kinds.specs.declared.kind.SumKind.TheVariants.{Crc32c, Sha256}
use Rattle.refusals.specs.vol_block.Volume.{field}

-- the kind of checksum that a type of the Btrfs format is
abbrev pub known_kind : ℕ → Option SumKind
known_kind csum_type = if csum_type == CSUM_TYPE_CRC32 then Some Crc32c else (if csum_type == CSUM_TYPE_SHA256 then Some Sha256 else None)

abbrev pub csum_number : SumKind → ℕ
csum_number Crc32c = CSUM_TYPE_CRC32
csum_number Sha256 = CSUM_TYPE_SHA256

-- the type of checksum that a block names
abbrev pub csum_type_of : List ℕ → ℕ
csum_type_of block = field 2 block 196

-- whether a block begins with its checksum of this kind
abbrev pub has_sum : Option SumKind → List ℕ → Bool
has_sum None block = true
has_sum (Some kind) block = starts_with nat_eq block (kind_sum kind (drop CSUM_SIZE block))

-- bytes behind their checksum
abbrev pub behind_sum : SumKind → List ℕ → List ℕ
behind_sum kind covered = kind_sum kind covered ++ covered

-- a block with the right checksum of this kind, and any block where the kind is not known
abbrev pub sealed_by : Option SumKind → List ℕ → List ℕ
sealed_by None block = block
sealed_by (Some kind) block = behind_sum kind (drop CSUM_SIZE block)

abbrev pub sealed : List ℕ → List ℕ
sealed block = sealed_by (known_kind (csum_type_of block)) block
