-- The transactions of a ReiserFS journal that wait, as the structures of its journal have them in the Linux headers.
use Rattle.std.specs.Prelude.{◌≡◌, ℕ, ◌+◌, ◌%◌, ◌==◌, nat_lt, nat_le, Bool, ◌&&◌, List, [], ◌∷◌, length, map, filter, codes, if◌then◌else◌}
use Rattle.std.specs.List.{range_with_len}
use Rattle.reiserfs_format.specs.declared.block.TheConstants.{JOURNAL_MAGIC_OFFSET, SUPER_BLOCK}
use Rattle.refusals.specs.outside.History.{Image, block_at}
use Rattle.refusals.specs.vol_block.Format.{has_bytes_at}
use Rattle.refusals.specs.vol_block.Volume.{field}
use Rattle.reiser_super.specs.declared.superblock.Super.{Super}
use Rattle.reiser_super.specs.Superblock.{superblock_fields}
use Rattle.reiser_super.specs.Rules.{IsCleanSuper}

-- a block that begins a transaction in the log has this magic at byte 4084
unfoldable pub is_descriptor : List ℕ → Bool
is_descriptor bytes = has_bytes_at bytes JOURNAL_MAGIC_OFFSET (codes "ReIsErLB")

-- both a descriptor and a commit block begin with the transaction's number and its length in blocks
unfoldable pub transaction : List ℕ → ℕ
transaction bytes = field 4 bytes 0

unfoldable pub transaction_length : List ℕ → ℕ
transaction_length bytes = field 4 bytes 4

-- the header behind the log names the last transaction that was written back, and where in the log the next one begins
unfoldable pub last_flushed : List ℕ → ℕ
last_flushed bytes = field 4 bytes 0

unfoldable pub next_place : List ℕ → ℕ
next_place bytes = field 4 bytes 4

-- the header names a place of a log of this size
unfoldable pub names_place : ℕ → List ℕ → Bool
names_place size header = nat_lt 0 (last_flushed header) && nat_lt (next_place header) size

-- the block at a place of the log
abbrev pub log_block : Super → Image → ℕ → List ℕ
log_block s image place = block_at image (s.journal_first + place)

-- where in a log of this size the commit block of a transaction is, whose descriptor is at a place: the log goes round
abbrev pub commit_place : ℕ → ℕ → ℕ → ℕ
commit_place size place len = (place + len + 1) % size

-- the block is the descriptor of a transaction newer than the last flushed one, and fits into a log of this size
unfoldable pub is_newer : ℕ → ℕ → List ℕ → Bool
is_newer flushed size descriptor =
    is_descriptor descriptor
    && (nat_lt flushed (transaction descriptor) && (nat_le 1 (transaction_length descriptor) && nat_lt (transaction_length descriptor) size))

-- the block begins as the commit block of a transaction of this number and length
unfoldable pub commits : ℕ → ℕ → List ℕ → Bool
commits trans len bytes = (transaction bytes == trans) && (transaction_length bytes == len)

-- the whole transaction that waits at a place of the log, if one does
unfoldable pub waiting_at : Super → Image → ℕ → ℕ → List ℕ
waiting_at s image flushed place =
    let descriptor = log_block s image place in
    let commit = log_block s image (commit_place s.journal_size place (transaction_length descriptor)) in
    if is_newer flushed s.journal_size descriptor && commits (transaction descriptor) (transaction_length descriptor) commit
    then transaction descriptor ∷ []
    else []

-- the transactions of all descriptors in the log
unfoldable pub all_transactions : Super → Image → List ℕ
all_transactions s image = map transaction (filter is_descriptor (map (log_block s image) (range_with_len 0 s.journal_size)))

-- The transactions that wait: where the header names a place, the one there, else all that the log holds.
unfoldable pub pending_transactions : Super → Image → List ℕ
pending_transactions s image =
    let header = block_at image (s.journal_first + s.journal_size) in
    if names_place s.journal_size header then waiting_at s image (last_flushed header) (next_place header) else all_transactions s image

-- A clean volume: its superblock is in order, and no transaction waits.
pub record IsClean (image : Image) : Type 0 where
  pub superblock : IsCleanSuper (block_at image SUPER_BLOCK) (length image)
  pub journal : pending_transactions (superblock_fields (block_at image SUPER_BLOCK)) image ≡ []
