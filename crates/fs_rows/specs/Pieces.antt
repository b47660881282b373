-- Parts of a file as functions from the number of a byte.
use Rattle.std.specs.Prelude.{◌≡◌, ◌≤◌, ◌<◌, ℕ, ◌+◌, ◌-◌, ◌*◌, List, length, slice_index}

-- bytes from byte `at` of a file on lie over what was there
pub record Overlays (at : ℕ) (bytes : List ℕ) (f g : ℕ → ℕ) : Type 0 where
  pub inside : (n : ℕ) → at ≤ n → n < at + length bytes → g n ≡ slice_index bytes (n - at)
  pub below : (n : ℕ) → n < at → g n ≡ f n
  pub above : (n : ℕ) → at + length bytes ≤ n → g n ≡ f n

-- a block stands in place of file block k, up to the size
pub record ReplacesBlock (size k : ℕ) (bytes : List ℕ) (f g : ℕ → ℕ) : Type 0 where
  pub inside : (j : ℕ) → j < 4096 → 4096 * k + j < size → g (4096 * k + j) ≡ slice_index bytes j
  pub past : (j : ℕ) → j < 4096 → size ≤ 4096 * k + j → g (4096 * k + j) ≡ 0
  pub below : (n : ℕ) → n < 4096 * k → g n ≡ f n
  pub above : (n : ℕ) → 4096 * k + 4096 ≤ n → g n ≡ f n
