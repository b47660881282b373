-- All parts of a recount are kept where each is.
use Rattle.convert_core_laws.proofs.Imports.{ℕ, All, Image, Recount, file_trees, KeepsExtents, KeepsBlockGroups, KeepsChunks, KeepsTotals, KeepsPlacement, KeepsReserved, KeepsReferences, KeepsSums, KeepsTrees, BlockGroups, Chunks, Keeps, Placement, References, Reserved, SoundPart, Totals, Trees, FreeSpace, KeepsFreeSpace}
use Rattle.btr_check_rules.specs.Sound.{Checksums, Files}
use Rattle.btr_check_rules.specs.Inodes.{KeepsInode}
use Rattle.btr_check_rules.specs.Names.{KeepsNames}

pub record AreKept (image : Image) (k : Recount) : Type 0 where
  pub trees : (a : ℕ) → KeepsTrees image k a
  pub names : All (λ t. (a : ℕ) → KeepsNames k t a) (file_trees k)
  pub inodes : All (λ t. (a : ℕ) → KeepsInode k.super t a) (file_trees k)
  pub extents : All (λ t. (a : ℕ) → KeepsExtents k.super t a) (file_trees k)
  pub references : (a : ℕ) → KeepsReferences image k a
  pub placement : (a : ℕ) → KeepsPlacement k a
  pub checksums : (a : ℕ) → KeepsSums image k a
  pub block_groups : (a : ℕ) → KeepsBlockGroups k a
  pub chunks : (a : ℕ) → KeepsChunks k a
  pub reserved : (a : ℕ) → KeepsReserved k a
  pub totals : (a : ℕ) → KeepsTotals k a
  pub free_space : (a : ℕ) → KeepsFreeSpace k a

pub all_kept : (image : Image) (k : Recount) → AreKept image k → (part : SoundPart) (a : ℕ) → Keeps image k part a
all_kept image k are Trees a = are.trees a
all_kept image k are Files a = λ i d h. record { names = are.names i d h a; inode = are.inodes i d h a; extents = are.extents i d h a }
all_kept image k are References a = are.references a
all_kept image k are Placement a = are.placement a
all_kept image k are Checksums a = are.checksums a
all_kept image k are BlockGroups a = are.block_groups a
all_kept image k are Chunks a = are.chunks a
all_kept image k are Reserved a = are.reserved a
all_kept image k are Totals a = are.totals a
all_kept image k are FreeSpace a = are.free_space a
