-- The rules of a superblock that is read, each a test and what is answered where it fails, in their order.
use Rattle.std.specs.Prelude.{ℕ, ◌+◌, ◌-◌, ◌*◌, ◌%◌, ◌^◌, ◌==◌, nat_lt, nat_le, Bool, ◌&&◌, ◌||◌, if◌then◌else◌, bit_and, List, [], ◌∷◌, ◌++◌, codes, is_some, Result, Ok, Err}
use Rattle.btr_space_items.specs.btrfs_format.declared.block.TheConstants.{SUPER_INFO_OFFSET, SUPER_MAGIC_OFFSET}
use Rattle.btr_space_items.specs.btrfs_format.declared.feature.TheConstants.{BIG_METADATA, COMPRESS_LZO, COMPRESS_ZSTD, DEFAULT_SUBVOL, EXTENDED_IREF, METADATA_UUID, MIXED_BACKREF, NO_HOLES, SIMPLE_QUOTA, SKINNY_METADATA}
use Rattle.btr_space_items.specs.btrfs_format.declared.size.TheConstants.{SYSTEM_CHUNK_ARRAY_SIZE}
use Rattle.refusals.specs.declared.refusal.BtrRefusal.{BtrRefusal}
use Rattle.refusals.specs.declared.refusal.BtrRefusal.TheVariants.{BadBtrfs, Unsupported, LogPending}
use Rattle.refusals.specs.declared.rule.BtrRule.TheVariants.{SuperCsum, SuperField}
use Rattle.refusals.specs.declared.rule.Feature.TheVariants.{Incompat, ChecksumType, SectorSize, NodeSize, DeviceCount}
use Rattle.refusals.specs.vol_block.Format.{has_bytes_at}
use Rattle.btr_super.specs.declared.superblock.Super.{Super}
use Rattle.btr_super.specs.Sums.{known_kind, csum_type_of, has_sum}
use Rattle.btr_super.specs.Super.{super_in}

-- whatever the place is, a refusal names the address of the first superblock
abbrev pub bad_field : BtrRefusal
bad_field = BadBtrfs SUPER_INFO_OFFSET SuperField

-- the device has such a block, and the block has the magic of Btrfs
abbrev pub is_super : List ℕ → ℕ → ℕ → Bool
is_super block place device = nat_lt place device && has_bytes_at block SUPER_MAGIC_OFFSET (codes "_BHRfS_M")

-- its address is its own, the trees have at most seven levels above their leaves, the bootstrap array has its room, and
-- the volume lies on the device, in whole blocks, of which there are at most 2^36
abbrev pub has_fields : Super → ℕ → ℕ → Bool
has_fields s place device =
    (s.bytenr == 4096 * place)
    && (nat_le s.root_level 7 && (nat_le s.chunk_root_level 7 && (nat_le s.log_root_level 7
    && (nat_le s.sys_chunk_array_size SYSTEM_CHUNK_ARRAY_SIZE
    && (nat_le s.total_bytes (4096 * device) && (nat_le s.total_bytes (2 ^ 48) && (s.total_bytes % 4096 == 0)))))))

-- the bits of the incompatible features that are read
abbrev pub read_bits : ℕ
read_bits = MIXED_BACKREF + DEFAULT_SUBVOL + COMPRESS_LZO + COMPRESS_ZSTD + BIG_METADATA + EXTENDED_IREF + SKINNY_METADATA + NO_HOLES + METADATA_UUID + SIMPLE_QUOTA

-- the bits of other features, in a field of 64 bits
abbrev pub unread_bits : ℕ → ℕ
unread_bits incompat = bit_and incompat (2 ^ 64 - 1 - read_bits)

abbrev pub is_node_size : ℕ → Bool
is_node_size n = (n == 4096) || ((n == 8192) || ((n == 16384) || ((n == 32768) || (n == 65536))))

-- it is a superblock, and its checksum is right
abbrev pub block_rules : List ℕ → ℕ → ℕ → List (Bool × BtrRefusal)
block_rules block place device =
    (is_super block place device, bad_field)
    ∷ (is_some (known_kind (csum_type_of block)), Unsupported ChecksumType (csum_type_of block))
    ∷ (has_sum (known_kind (csum_type_of block)) block, BadBtrfs SUPER_INFO_OFFSET SuperCsum)
    ∷ []

-- it has no feature that is not read
abbrev pub feature_rules : Super → List (Bool × BtrRefusal)
feature_rules s =
    (unread_bits s.incompat == 0, Unsupported Incompat (unread_bits s.incompat))
    ∷ (s.sectorsize == 4096, Unsupported SectorSize s.sectorsize)
    ∷ (is_node_size s.nodesize, Unsupported NodeSize s.nodesize)
    ∷ (s.num_devices == 1, Unsupported DeviceCount s.num_devices)
    ∷ []

-- its fields are those of a volume that is read
abbrev pub field_rules : Super → ℕ → ℕ → List (Bool × BtrRefusal)
field_rules s place device = (has_fields s place device, bad_field) ∷ feature_rules s

-- what is answered by the rules that fail, in their order
abbrev pub failing : List (Bool × BtrRefusal) → List BtrRefusal
failing [] = []
failing (rule ∷ rules) = if rule.0 then failing rules else rule.1 ∷ failing rules

-- all refusals of a superblock; there is none exactly where it is read
abbrev pub super_refusals : List ℕ → ℕ → ℕ → List BtrRefusal
super_refusals block place device = failing (block_rules block place device ++ field_rules (super_in block) place device)

-- the first of some refusals, and the value where there is none
abbrev pub unless_refused : {A : Type 0} → List BtrRefusal → A → Result A BtrRefusal
unless_refused [] x = Ok x
unless_refused (refusal ∷ refusals) x = Err refusal

-- the superblock that a block is, at this place of a device of so many blocks
unfoldable pub super_of : List ℕ → ℕ → ℕ → Result Super BtrRefusal
super_of block place device = unless_refused (super_refusals block place device) (super_in block)

-- A refusal that names no log tree: what is wrong with a superblock says nothing of one.
abbrev pub NamesNoLog : BtrRefusal → Type 0
NamesNoLog (BadBtrfs address rule) = Unit {0}
NamesNoLog (Unsupported feature value) = Unit {0}
NamesNoLog (LogPending address) = ⊥
