-- Parts of a map as functions from the number of a file block.
use Rattle.std.specs.Prelude.{◌≡◌, ◌≤◌, ◌<◌, ℕ, ◌+◌, ◌-◌, ◌*◌, ◌/◌, List, length, slice_index, Option, Some, None}
use Rattle.reiser_walk.specs.reiser_items.Pointers.{pointers}
use Rattle.reiser_volume_files.specs.declared.map.RunFrom.{RunFrom}
use Rattle.reiser_volume_files.specs.declared.map.RunFrom.TheVariants.{Tail}
use Rattle.reiser_volume_files.specs.Runs.{disk_or_hole}

-- the file blocks with these bytes lie in direct items
pub record OverlaysTail (at count : ℕ) (f g : ℕ → Option RunFrom) : Type 0 where
  pub inside : 0 < count → (k : ℕ) → at / 4096 ≤ k → 4096 * k < at + count → g k ≡ Some Tail
  pub none : count ≡ 0 → (k : ℕ) → g k ≡ f k
  pub below : (k : ℕ) → k < at / 4096 → g k ≡ f k
  pub above : (k : ℕ) → at + count ≤ 4096 * k → g k ≡ f k

-- the file blocks from `first` on lie where the pointers of a body say, up to the size
pub record OverlaysDisks (size first : ℕ) (body : List ℕ) (f g : ℕ → Option RunFrom) : Type 0 where
  pub inside : (k : ℕ) → first ≤ k → k < first + length body / 4 → 4096 * k < size → g k ≡ disk_or_hole (slice_index (pointers body) (k - first))
  pub past : (k : ℕ) → size ≤ 4096 * k → g k ≡ f k
  pub empty : (k : ℕ) → first ≤ k → k < first + length body / 4 → f k ≡ None
  pub below : (k : ℕ) → k < first → g k ≡ f k
  pub above : (k : ℕ) → first + length body / 4 ≤ k → g k ≡ f k
