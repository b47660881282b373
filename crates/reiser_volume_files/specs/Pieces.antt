-- Parts of a file as functions from the number of a byte.
use Rattle.std.specs.Prelude.{◌≡◌, ◌≤◌, ◌<◌, ℕ, ◌+◌, ◌-◌, ◌*◌, ◌/◌, ◌%◌, ◌==◌, nat_lt, Bool, true, ◌||◌, List, length, slice_index}
use Rattle.std.specs.List.{list_all}
use Rattle.reiser_walk.specs.reiser_node.declared.head.ItemKind.{ItemKind}
use Rattle.reiser_walk.specs.reiser_node.declared.head.ItemKind.TheVariants.{Stat, Indirect, Direct, Directory}
use Rattle.reiser_walk.specs.outside.History.{Image}
use Rattle.reiser_walk.specs.reiser_items.Pointers.{pointers}
use Rattle.reiser_volume_files.specs.Bytes.{block_byte}

-- The blocks that the pointers of a body name from file block `first` on stand in place of zeros, up to the size.
pub record OverlaysNamed (image : Image) (size first : ℕ) (body : List ℕ) (f g : ℕ → ℕ) : Type 0 where
  pub inside : (n : ℕ) → 4096 * first ≤ n → n < 4096 * (first + length body / 4) → n < size → g n ≡ block_byte image (slice_index (pointers body) (n / 4096 - first)) (n % 4096)
  pub past : (n : ℕ) → size ≤ n → g n ≡ f n
  pub nothing : (n : ℕ) → size ≤ n → f n ≡ 0
  pub empty : (n : ℕ) → 4096 * first ≤ n → n < 4096 * (first + length body / 4) → f n ≡ 0
  pub below : (n : ℕ) → n < 4096 * first → g n ≡ f n
  pub above : (n : ℕ) → 4096 * (first + length body / 4) ≤ n → g n ≡ f n

-- a block lies below n; 0 names none
abbrev pub is_inside : ℕ → ℕ → Bool
is_inside block n = (block == 0) || nat_lt block n

-- each block that is named does
abbrev pub are_inside : ItemKind → List ℕ → ℕ → Bool
are_inside Stat body n = true
are_inside Indirect body n = list_all (λ b. is_inside b n) (pointers body)
are_inside Direct body n = true
are_inside Directory body n = true
