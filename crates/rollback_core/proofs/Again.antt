-- What a crash of a recovery leaves is in order, where the disk was.
use Rattle.rollback_core.proofs.Imports.{◌≡◌, ◌≢◌, ◌∙◌, inl, inr, ⊎_elim, ℕ, true, false, true≢false, nat_le, cond, List, length, refl, sym, ap, subst, arith, SUPER_BLOCK, format_in, Image, block_at, format, Format, Reiser, Btrfs, Neither, IsInOrder, IsLeftByRecovery, IsRecoverable, is_half_turned, put_back, IsPuttingBack, copy_place, format_front, none_btrfs, put_front, put_none, put_others, put_size, same_disks, super_front, RecoveryGoesOn}
use Rattle.std.specs.Prelude.{Bool, take}
use Rattle.super_turn.proofs.Halves.{sector_front}
use Rattle.rollback_core.proofs.Fronts.{front_turned}
use Rattle.rollback_core.proofs.RecoveryFormats.{btrfs_magic}
use Rattle.rollback_core.proofs.RecoveryKeeping.{keeps}

-- A disk is in order that has the same in all blocks but 16, and in that the first 128 bytes; of Btrfs all of them.
module _ (image other : Image) (size : length other ≡ length image) (front : take 128 (block_at other SUPER_BLOCK) ≡ take 128 (block_at image SUPER_BLOCK))
    (others : (b : ℕ) → b ≢ 16 → block_at other b ≡ block_at image b) (stays : format_in image ≡ Btrfs → other ≡ image) where
  format_same : format_in other ≡ format_in image
  format_same =
      ap (λ (n : ℕ). cond (nat_le n 16) Neither (format (block_at other SUPER_BLOCK))) size
      ∙ ap (λ (f : Format). cond (nat_le (length image) 16) Neither f) (format_front (block_at other SUPER_BLOCK) (block_at image SUPER_BLOCK) front)

  in_order : (f : Format) → format_in image ≡ f → IsInOrder f image → IsInOrder f other
  in_order Reiser is order = front_turned image other order (record { front = front; used = λ b rest has_it. others b rest }) size
  in_order Btrfs is order = subst (IsInOrder Btrfs) (sym (stays is)) order
  in_order Neither is order = absurd order

  still : IsRecoverable image → IsRecoverable other
  still can = subst (λ (f : Format). IsInOrder f other) (sym format_same) (in_order (format_in image) refl can)

-- so is one of which block 16 is put back
pub recovers_back : (image : Image) → IsRecoverable image → IsRecoverable (put_back image)
recovers_back image can =
    still image (put_back image) (put_size image) (put_front image) (put_others image) (λ btrfs. put_none image (none_btrfs image (btrfs_magic image btrfs))) can

-- ---- while block 16 is put back
module _ (image other : Image) (is : IsPuttingBack image other) where
  -- its first bytes stay
  pub putting_front : take 128 (block_at other SUPER_BLOCK) ≡ take 128 (block_at image SUPER_BLOCK)
  putting_front =
      ⊎_elim (λ back. ap (take 128) back ∙ super_front image) (λ first. sector_front 128 (block_at other SUPER_BLOCK) (block_at image SUPER_BLOCK) (omega arith) first.1) is.superblock

  -- a Btrfs volume stays as it is
  pub btrfs_stays : format_in image ≡ Btrfs → other ≡ image
  btrfs_stays btrfs =
      let none : is_half_turned image ≡ false = none_btrfs image (btrfs_magic image btrfs) in
      same_disks other image is.size
      (⊎_elim (λ back. back ∙ ap (λ (t : Bool). cond t (block_at image (copy_place image)) (block_at image SUPER_BLOCK)) none) (λ first. absurd (true≢false (sym first.0 ∙ none))) is.superblock)
      is.others

  pub putting_recovers : IsRecoverable image → IsRecoverable other
  putting_recovers can = still image other is.size putting_front is.others btrfs_stays can

-- ---- and behind that
pub recovery_goes_on : RecoveryGoesOn
recovery_goes_on image left is can = ⊎_elim (λ putting. putting_recovers image left putting can) (λ after. (keeps.left (put_back image) left after).can (recovers_back image can)) is
