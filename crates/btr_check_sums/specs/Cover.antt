-- Which blocks have checksums, beside those that need them.
use Rattle.std.specs.Prelude.{◌≡◌, ℕ, true, false, List}
use Rattle.number_runs.specs.Runs.{is_among}
use Rattle.number_runs.specs.declared.run.Run.{Run}
use Rattle.btr_check_sums.specs.declared.use_of_data.UsedBlocks.{UsedBlocks}

-- A block that may have no checksum has none, and what has one is data.
pub record MayHaveSum (used : UsedBlocks) (covered : List Run) (n : ℕ) : Type 0 where
  pub bare : is_among used.bare n ≡ true → is_among covered n ≡ false
  pub inside : is_among covered n ≡ true → is_among used.data n ≡ true

-- The same, and a block that needs a checksum has one.
pub record IsCoverRight (used : UsedBlocks) (covered : List Run) (n : ℕ) : Type 0 where
  pub wanted : is_among used.wanted n ≡ true → is_among covered n ≡ true
  pub sums : MayHaveSum used covered n
