-- The cyclic redundancy code of Castagnoli, as RFC 3720 (iSCSI) has it, and the hashes that the Btrfs on-disk format
-- makes of it.
use Rattle.std.specs.Prelude.{ℕ, zero, suc, ◌*◌, ◌/◌, ◌%◌, ◌^◌, ◌==◌, List, ◌++◌, fold, bit_xor, if◌then◌else◌}
use Rattle.std.specs.Int.{w64, to_le_bytes}

-- The generator polynomial 0x1EDC6F41 without its highest term, with the lowest power in the highest bit.
abbrev pub polynomial : ℕ
polynomial = 0x82F63B78

-- One bit: the register of 32 bits moves down by one, and where a 1 leaves it, the polynomial is taken off.
unfoldable pub shifted : ℕ → ℕ
shifted register = if register % 2 == 1 then bit_xor (register / 2) polynomial else register / 2

-- n bits
abbrev pub shifted_by : ℕ → ℕ → ℕ
shifted_by zero register = register
shifted_by (suc n) register = shifted_by n (shifted register)

-- A byte comes into the lowest eight bits, and these are shifted out.
unfoldable pub after_byte : ℕ → ℕ → ℕ
after_byte register byte = shifted_by 8 (bit_xor register byte)

-- the register after all bytes, from a start
unfoldable pub raw_crc : ℕ → List ℕ → ℕ
raw_crc start bytes = fold after_byte start bytes

-- the checksum: it starts with ones, and its bits are turned over in the end
unfoldable pub crc32c : List ℕ → ℕ
crc32c bytes = bit_xor (raw_crc 0xFFFFFFFF bytes) 0xFFFFFFFF

-- the key offset of a directory's entry of this name
unfoldable pub name_hash : List ℕ → ℕ
name_hash name = raw_crc 0xFFFFFFFE name

-- the key offset of an extended inode reference: it starts with the low 32 bits of the directory's inode number
unfoldable pub extref_hash : ℕ → List ℕ → ℕ
extref_hash parent name = raw_crc (parent % 2 ^ 32) name

-- the hash of a reference to a data extent, of 63 bits, by the tree, the inode and the offset in the file
unfoldable pub data_ref_hash : ℕ → ℕ → ℕ → ℕ
data_ref_hash root objectid offset =
    bit_xor (raw_crc 0xFFFFFFFF (to_le_bytes w64 root) * 2 ^ 31) (raw_crc 0xFFFFFFFF (to_le_bytes w64 objectid ++ to_le_bytes w64 offset))
