-- How a set of n blocks is stored.
use Rattle.std.specs.Prelude.{◌≡◌, ℕ, ◌*◌, ◌^◌, ◌<◌, ◌≤◌, false, List, length}
use Rattle.reiser_bitmap.specs.Bits.{bit_of}

-- there is a bit for each block, every bit behind them is 0, and a block's number has 64 bits
pub record IsStored (n : ℕ) (bytes : List ℕ) : Type 0 where
  pub room : n ≤ 8 * length bytes
  pub tail : (b : ℕ) → n ≤ b → bit_of bytes b ≡ false
  pub small : n < 2 ^ 64
