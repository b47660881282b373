-- Parts 4 and 8: extents are apart, each lies in a chunk of its kind, and none touches a reserved block. They fail at the
-- address of an extent.
use Rattle.std.specs.Prelude.{◌≡◌, ◌≢◌, ◌⊎◌, ◌≤◌, ◌<◌, ℕ, ◌+◌, ◌-◌, ◌/◌, ◌==◌, if◌then◌else◌, Some, All, Contains}
use Rattle.btr_reader_walk.specs.btrfs_format.declared.flag.TheConstants.{BLOCK_GROUP_DUP}
use Rattle.btr_reader_walk.specs.btrfs_format.declared.object.TheConstants.{CHUNK_TREE}
use Rattle.btr_reader.specs.vol_block.Volume.{IsReserved}
use Rattle.btr_reader.specs.btr_reader_walk.Map.{place, second_place}
use Rattle.btr_reader.specs.Chunks.{is_dup_kind, system_kind, metadata_kind, data_kind}
use Rattle.btr_reader.specs.declared.chunk.ChunkAt.{ChunkAt}
use Rattle.btr_check_rules.specs.Recount.{Recount, TreeOn, PairsAt, IsData, IsNodeOf, all_trees, map_of}
use Rattle.btr_check_rules.specs.declared.span.Span.{Span}

-- ---- extents and chunks

-- An extent: a node of a tree, or a disk range of file extents; and the kind of its chunk. The nodes of the chunk tree lie in
-- system chunks.
abbrev pub node_kind : ℕ → ℕ
node_kind number = if number == CHUNK_TREE then system_kind else metadata_kind

pub data IsExtent (r : Recount) (span : Span) (kind : ℕ) : Type 0 where
  a_node : (t : TreeOn) → Contains (all_trees r) t → IsNodeOf r t span → kind ≡ node_kind t.number → IsExtent r span kind
  some_data : IsData r span → kind ≡ data_kind → IsExtent r span kind

-- the first ends before the second
abbrev pub EndsBefore : Span → Span → Type 0
EndsBefore a b = a.start + a.length ≤ b.start

pub record LiesIn (c : ChunkAt) (span : Span) : Type 0 where
  pub low : c.logical ≤ span.start
  pub high : span.start + span.length ≤ c.logical + c.chunk.length

-- what a chunk is for, in one copy or in two
abbrev pub kind_alone : ℕ → ℕ
kind_alone kind = if is_dup_kind kind then kind - BLOCK_GROUP_DUP else kind

-- a node lies between two multiples of 64 KiB ("crossing stripe boundary" of `btrfs check`)
abbrev pub IsUncrossed : Span → Type 0
IsUncrossed span = span.start / 65536 ≡ (span.start + span.length - 1) / 65536

-- ---- the parts

-- What part 4 asks at the address of an extent: it is one with another one, or apart from it (check_extent_item); it lies in one
-- chunk of its kind ("type mismatch with chunk" of `btrfs check`). No tree has a node twice.
pub record KeepsPlacement (r : Recount) (at : ℕ) : Type 0 where
  pub apart : (a b : Span) (k l : ℕ) → a.start ≡ at → IsExtent r a k → IsExtent r b l → ((a ≡ b) × (k ≡ l)) ⊎ (EndsBefore a b ⊎ EndsBefore b a)
  pub nodes : All (λ t. PairsAt (λ p. p.address) at (λ p q. p.address ≢ q.address) t.nodes) (all_trees r)
  pub within : (span : Span) (kind : ℕ) → span.start ≡ at → IsExtent r span kind → (c : ChunkAt) × Contains r.chunks c × LiesIn c span × (kind_alone c.chunk.kind ≡ kind)
  pub uncrossed : (span : Span) (kind : ℕ) → span.start ≡ at → IsExtent r span kind → kind ≢ data_kind → IsUncrossed span

-- What part 8 asks there: no block of the device on which a copy of the extent lies is reserved (exclude_super_stripes).
pub record KeepsReserved (r : Recount) (at : ℕ) : Type 0 where
  pub first : (span : Span) (kind a p : ℕ) → span.start ≡ at → IsExtent r span kind → span.start ≤ a → a < span.start + span.length
      → place (map_of r) a ≡ Some p → ¬ IsReserved (p / 4096) (r.super.total_bytes / 4096)
  pub second : (span : Span) (kind a p : ℕ) → span.start ≡ at → IsExtent r span kind → span.start ≤ a → a < span.start + span.length
      → second_place (map_of r) a ≡ Some p → ¬ IsReserved (p / 4096) (r.super.total_bytes / 4096)
