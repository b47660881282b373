-- What a call that writes a disk leaves alone, as one fact.
use Rattle.std.specs.Prelude.{◌≡◌, ℕ, Bool, List, Option, IsTrue}
use Rattle.outside.specs.History.{History, WritesOnly}
use Rattle.outside.specs.declared.disk.Access.{Access}
use Rattle.outside.specs.declared.disk.Disk.{Ghosts as DiskMembers}
use Rattle.outside.specs.declared.source.BlockSource.{Ghosts as SourceMembers}

-- What contracts see of disks of a type: `D.Disk` in a clause, where `D` is the type.
abbrev pub View : Type 0 → Type 1
View D = record {
  tells : Bool;
  blocks : D → List (List ℕ);
  size : D → ℕ;
  faults : D → ℕ;
  kept : D → D → Type 0;
  history : D → History;
  opened : D → Option Access;
  borrow : D → ℕ;
  wants : List ℕ → Access → Type 0;
}

-- the same in a proof file, which has the members of each trait by themselves
abbrev pub view : {D : Type 0} → SourceMembers D → DiskMembers D → View D
view source disk = record {
  tells = source.tells;
  blocks = source.blocks;
  size = source.size;
  faults = source.faults;
  kept = source.kept;
  history = disk.history;
  opened = disk.opened;
  borrow = disk.borrow;
  wants = disk.wants;
}

-- From old to new a disk was written, and each block that was, landed or failed, and its bytes have P. The access, the
-- number of blocks and the borrow stayed.
pub record Writes {D : Type 0} (d : View D) (P : ℕ → List ℕ → Type 0) (old new : D) : Type 0 where
  pub opened : d.opened new ≡ d.opened old
  pub size : d.size new ≡ d.size old
  pub borrow : d.borrow new ≡ d.borrow old
  pub only : IsTrue d.tells → WritesOnly P (d.history old) (d.history new)
