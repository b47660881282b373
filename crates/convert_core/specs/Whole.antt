-- What every volume that gives the same blocks at each read keeps of what was prepared.
use Rattle.std.specs.Prelude.{◌≡◌, ◌≤◌, ◌<◌, ◌^◌, ℕ, ◌+◌, length, All}
use Rattle.convert_steps.specs.declared.prepared.Prepared.{Prepared}
use Rattle.convert_steps.specs.space_items.Stream.{ArePieces}

-- The volume has a superblock, lies on a device of so many blocks, and has a bit for each block; its pieces ascend by their places and
-- lie on it; and the units for the chunk tree are so few that the superblock has room for their chunks.
pub record IsWhole (p : Prepared) (device : ℕ) : Type 0 where
  pub some : 16 < p.volume.sup.blocks
  pub small : p.volume.sup.blocks ≤ 2 ^ 29
  pub inside : p.volume.sup.blocks ≤ device
  pub bitmap : length p.volume.bitmap ≡ p.volume.sup.blocks
  pub pieces : ArePieces p.pieces.items.items
  pub places : All (λ q. q.place + q.count ≤ p.volume.sup.blocks) p.pieces.items.items
  pub system : p.need.system ≤ 2 ^ 14
