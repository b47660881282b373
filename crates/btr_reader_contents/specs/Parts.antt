-- Parts of a file as functions from the number of a byte.
use Rattle.std.specs.Prelude.{◌≡◌, ◌≤◌, ◌<◌, ℕ, ◌+◌, ◌-◌}

-- So many bytes of a part come behind a file that is 0 from byte `at` on.
pub record Appends (at count : ℕ) (part f g : ℕ → ℕ) : Type 0 where
  pub below : (n : ℕ) → n < at → g n ≡ f n
  pub inside : (n : ℕ) → at ≤ n → n < at + count → g n ≡ part (n - at)
  pub before : (n : ℕ) → at ≤ n → f n ≡ 0
  pub after : (n : ℕ) → at + count ≤ n → g n ≡ 0
