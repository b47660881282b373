-- A recovery changes reserved blocks alone, and so no block in use.
use Rattle.rollback_core.proofs.Imports.{◌≡◌, ◌↔◌, ⊎_elim, ℕ, false, true≢false, subst, Image, IsMirror, IsSameOutside, is_spare, IsSameBut, RecoveryKeeps, IsInUse, IsReservedFree, RecoveryKeepsUse}
use Rattle.rollback_core.proofs.Apart.{spare_16, spare_unused}
use Rattle.rollback_core.proofs.Trees.{AreTreesApart, of_use}
use Rattle.rollback_core.proofs.Using.{used_same}

-- the blocks of the copies are reserved, on a volume of any number of blocks
not_mirror : (blocks b : ℕ) → is_spare b blocks ≡ false → IsMirror b → ⊥
not_mirror blocks b free mirror =
    ⊎_elim (λ one. true≢false (subst (λ (n : ℕ). is_spare n blocks ≡ false) one free)) (λ two. true≢false (subst (λ (n : ℕ). is_spare n blocks ≡ false) two free)) mirror

module _ (disk other : Image) (blocks : ℕ) (free : IsReservedFree disk blocks) (is : IsSameBut disk other) where
  outside : IsSameOutside (λ b. is_spare b blocks) disk other
  outside = record { size = is.size; others = λ b out. is.others b (not_mirror blocks b out) }

  trees : AreTreesApart (λ b. is_spare b blocks) disk
  trees = of_use disk (λ b. is_spare b blocks) (spare_16 blocks) (spare_unused disk blocks free)

  same_used : (b : ℕ) → IsInUse disk b ↔ IsInUse other b
  same_used = used_same (λ b. is_spare b blocks) disk other trees outside

pub recovery_keeps_use : RecoveryKeeps → RecoveryKeepsUse
recovery_keeps_use keeps = record {
  used = λ disk other blocks free left. same_used disk other blocks free (keeps.left disk other left);
  reserved = λ disk other blocks free left b reserved used. free b reserved ((same_used disk other blocks free (keeps.left disk other left) b).1 used);
}
