-- The test of a reserved block tells the fact.
use Rattle.vol_block.proofs.Imports.{ℕ, ◌*◌, ◌/◌, ◌≤◌, ◌<◌, ◌&&◌, leb, ltb, arith, IsReserved, is_reserved}
use Rattle.std.specs.Bool.{Decides}
use Rattle.std.proofs.lemmas.Bool.Decides.{Decides-and, Decides-or, Decides-ltb, nat_tests}
use Rattle.btrfs_format.specs.declared.block.TheConstants.{FIRST_MIRROR, FIRST_MIRROR_END, RESERVED_BLOCKS, SECOND_MIRROR, SECOND_MIRROR_END}

decides_leb : (a b : ℕ) → Decides (leb a b) (a ≤ b)
decides_leb a b = grind (arith, nat_tests)

decides_between : (low b high : ℕ) → Decides (leb low b && ltb b high) ((low ≤ b) × (b < high))
decides_between low b high = Decides-and _ _ (decides_leb low b) (Decides-ltb b high)

pub decides_reserved : (b blocks : ℕ) → Decides (is_reserved b blocks) (IsReserved b blocks)
decides_reserved b blocks =
    Decides-or _ _ (Decides-ltb b RESERVED_BLOCKS)
    (Decides-or _ _ (decides_between FIRST_MIRROR b FIRST_MIRROR_END)
    (Decides-or _ _ (decides_between SECOND_MIRROR b SECOND_MIRROR_END) (decides_between (16 * (blocks / 16)) b blocks)))
