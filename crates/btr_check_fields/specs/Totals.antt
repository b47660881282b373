-- Sums, as what is left of a total.
use Rattle.std.specs.Prelude.{◌≡◌, ◌<◌, ℕ, ◌+◌, ◌==◌, nat_eq, Bool, ◌&&◌, Option, Some, None}
use Rattle.std.specs.Cmp.Lexicographic.{pointwise}
use Rattle.btr_check_rules.specs.btr_reader.btr_super.Super.{node_fsid}
use Rattle.btr_check_rules.specs.btr_reader.btr_super.declared.superblock.Super.{Super}

-- so much is left of a total without a part; nothing where the part is larger
abbrev pub Leaves : ℕ → ℕ → Option ℕ → Type 0
Leaves total part None = total < part
Leaves total part (Some left) = left + part ≡ total

-- the device's item in the superblock tells the volume that nodes name, and its length
abbrev pub tells_volume : Super → Bool
tells_volume s = pointwise nat_eq s.dev_item.fsid (node_fsid s) && (s.dev_item.total_bytes == s.total_bytes)
