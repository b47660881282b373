-- Where the blocks of a file lie, as a list of runs.
use Rattle.std.specs.Prelude.{◌≡◌, ◌≤◌, ℕ, zero, suc, ◌+◌, ◌-◌, ◌*◌, ◌==◌, nat_le, nat_lt, min, max, Bool, true, false, ◌&&◌, List, [], ◌∷◌, length, Option, Some, None, if◌then◌else◌, All, AllPairs}
use Rattle.std.specs.Int.{div_ceil}
use Rattle.std.specs.List.{list_any}
use Rattle.reiser_walk.specs.reiser_node.declared.head.ItemKind.{ItemKind}
use Rattle.reiser_walk.specs.reiser_node.declared.head.ItemKind.TheVariants.{Stat, Indirect, Direct, Directory}
use Rattle.reiser_walk.specs.Items.{ReiserItem}
use Rattle.reiser_volume_files.specs.declared.map.FileRun.{FileRun}
use Rattle.reiser_volume_files.specs.declared.map.RunFrom.{RunFrom}
use Rattle.reiser_volume_files.specs.declared.map.RunFrom.TheVariants.{Disk, Tail}
use Rattle.reiser_volume_files.specs.Bytes.{first_byte, named_block}

-- an item holds a byte of file block k that lies below the size
abbrev pub holds_by_kind : ItemKind → ReiserItem → ℕ → ℕ → Bool
holds_by_kind Stat i size k = false
holds_by_kind Indirect i size k = false
holds_by_kind Direct i size k = nat_lt (max (first_byte i) (4096 * k)) (min (min (first_byte i + length i.body) (4096 * k + 4096)) size)
holds_by_kind Directory i size k = false

abbrev pub is_held : List ReiserItem → ℕ → ℕ → Bool
is_held items size k = list_any (λ i. holds_by_kind i.head.kind i size k) items

-- a block that is named, or a hole
abbrev pub disk_or_hole : ℕ → Option RunFrom
disk_or_hole block = if block == 0 then None else Some (Disk block)

-- Where file block k lies: in direct items, in the block that is named for it, or nowhere, as a hole and all past the
-- size.
abbrev pub block_from : List ReiserItem → ℕ → ℕ → Option RunFrom
block_from items size k = if nat_lt (4096 * k) size then (if is_held items size k then Some Tail else disk_or_hole (named_block items k)) else None

-- where what lies n blocks on in a run is
abbrev pub next_from : RunFrom → ℕ → RunFrom
next_from (Disk block) n = Disk (block + n)
next_from Tail n = Tail

-- that is what lies n blocks on
abbrev pub is_next : RunFrom → ℕ → RunFrom → Bool
is_next (Disk block) n (Disk other) = block + n == other
is_next (Disk block) n Tail = false
is_next Tail n (Disk other) = false
is_next Tail n Tail = true

-- a run goes on with file block k
abbrev pub goes_on : FileRun → ℕ → RunFrom → Bool
goes_on r k from = (r.at + r.count == k) && is_next r.from r.count from

abbrev pub run_of : ℕ → RunFrom → FileRun
run_of k from = record { at = k; count = 1; from = from }

abbrev pub longer : FileRun → FileRun
longer r = record { at = r.at; count = r.count + 1; from = r.from }

-- the runs with file block k behind them, joined to the last one if that goes on with it
abbrev pub with_block : List FileRun → ℕ → RunFrom → List FileRun
with_block [] k from = run_of k from ∷ []
with_block (r ∷ []) k from = if goes_on r k from then longer r ∷ [] else r ∷ run_of k from ∷ []
with_block (r ∷ (s ∷ runs)) k from = r ∷ with_block (s ∷ runs) k from

abbrev pub extended : List FileRun → ℕ → Option RunFrom → List FileRun
extended runs k None = runs
extended runs k (Some from) = with_block runs k from

-- the runs of the first n file blocks of a function
unfoldable pub runs_of : (ℕ → Option RunFrom) → ℕ → List FileRun
runs_of f zero = []
runs_of f (suc n) = extended (runs_of f n) n (f n)

-- The map of a file of a size.
abbrev pub file_runs : List ReiserItem → ℕ → List FileRun
file_runs items size = runs_of (block_from items size) (div_ceil size 4096)

-- file block k is one of the run
abbrev pub is_in_run : FileRun → ℕ → Bool
is_in_run r k = nat_le r.at k && nat_lt k (r.at + r.count)

-- where runs say that file block k lies
abbrev pub lies_at : List FileRun → ℕ → Option RunFrom
lies_at [] k = None
lies_at (r ∷ runs) k = if is_in_run r k then Some (next_from r.from (k - r.at)) else lies_at runs k

-- one run lies before the other, and does not go on with it
pub record IsFileRunBefore (r s : FileRun) : Type 0 where
  pub apart : r.at + r.count ≤ s.at
  pub maximal : goes_on r s.at s.from ≡ false

-- What runs say of a function of file blocks, all of it: each block lies where the function says, the runs ascend, each
-- block is in one of them at most, none is empty, and none goes on with another one.
pub record AreRunsOf (f : ℕ → Option RunFrom) (runs : List FileRun) : Type 0 where
  pub covers : (k : ℕ) → lies_at runs k ≡ f k
  pub some : All (λ r. 1 ≤ r.count) runs
  pub ascending : AllPairs IsFileRunBefore runs
