-- Owners as runs of neighbouring blocks that neighbouring blocks of one file lie in.
use Rattle.std.specs.Prelude.{◌≡◌, ◌≤◌, ◌<◌, ℕ, ◌+◌, ◌-◌, ◌^◌, nat_le, nat_lt, Bool, ◌&&◌, List, All, AllPairs, Option}
use Rattle.std.specs.List.{find}
use Rattle.std.specs.Option.{option_map}
use Rattle.extent_pieces.specs.declared.run.OwnedRun.{OwnedRun}
use Rattle.extent_pieces.specs.Pieces.{Owners}

-- the block lies in the run
abbrev pub holds_block : ℕ → OwnedRun → Bool
holds_block b r = nat_le r.first b && nat_lt b (r.first + r.count)

abbrev pub owner_in : OwnedRun → ℕ → ℕ × ℕ
owner_in r b = (r.inode, r.at + (b - r.first))

-- the owner of a block, by a list of runs
abbrev pub owner_by : List OwnedRun → ℕ → Option (ℕ × ℕ)
owner_by runs b = option_map (λ r. owner_in r b) (find (holds_block b) runs)

-- the one run goes on where the other ends
pub record GoesOn (r s : OwnedRun) : Type 0 where
  pub next : s.first ≡ r.first + r.count
  pub inode : s.inode ≡ r.inode
  pub at : s.at ≡ r.at + r.count

-- the one run lies before the other, which does not go on with it
pub record IsRunBefore (r s : OwnedRun) : Type 0 where
  pub apart : r.first + r.count ≤ s.first
  pub maximal : ¬ GoesOn r s

pub record IsRun (r : OwnedRun) : Type 0 where
  pub some : 0 < r.count
  pub small : r.first + r.count < 2 ^ 64
  pub low : r.at + r.count < 2 ^ 64

-- the runs ascend and are as long as may be, and they tell the owner of each block
pub record TellOwners (runs : List OwnedRun) (owner : Owners) : Type 0 where
  pub each : All IsRun runs
  pub ascending : AllPairs IsRunBefore runs
  pub tell : (b : ℕ) → owner b ≡ owner_by runs b
