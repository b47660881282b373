-- What crashes of recoveries leave of the old volume, where a crash of a rollback left it.
use Rattle.rollback_core.proofs.Imports.{◌≡◌, ◌∙◌, inr, inl, ⊎_elim, ℕ, Bool, true, false, true≢false, not, ◌&&◌, nat_lt, List, length, refl, sym, ap, subst, nat_eq, SUPER_BLOCK, format_in, Image, block_at, has_bytes_at, has, superblock, used_length, Reiser, Format, image_blocks, CanGoBack, old_used, is_half_turned, put_back, copy_place, is_torn, mended, mended_by, wiped, IsBack, IsPartly, IsLeftByRecover, IsRecoverable, again, put_none, IsUnmarked, RecoveryRollsBack, IsSameVolume}
use Rattle.std.specs.Prelude.{codes}
use Rattle.reiser_volume.specs.reiser_super.declared.superblock.Super.{Super}
use Rattle.super_turn.specs.Marked.{has_mark, is_half}
use Rattle.rollback_core.proofs.Back.{superblock_used}
use Rattle.rollback_core.proofs.Mended.{fresh_gives, is_stale}
use Rattle.rollback_core.proofs.RecoveryFormats.{has_format}
use Rattle.rollback_core.proofs.RecoveryKeeping.{keeps, not_both}
use Rattle.rollback_core.proofs.RollbackKeeping.{rollback_keeps}

-- a superblock without a mark is not half turned
unmarked : (other mark named half : Bool) → mark ≡ false → ((other && (mark && named)) && half) ≡ false
unmarked false mark named half none = refl
unmarked true false named half none = refl
unmarked true true named half none = absurd (true≢false none)

not_half : (image : Image) → has_mark (block_at image SUPER_BLOCK) ≡ false → is_half_turned image ≡ false
not_half image none =
    unmarked (not (has_bytes_at (block_at image SUPER_BLOCK) 64 (codes "_BHRfS_M"))) (has_mark (block_at image SUPER_BLOCK))
    (nat_lt (copy_place image) (length image) && not (nat_eq (copy_place image) SUPER_BLOCK)) (is_half (block_at image (copy_place image)) (block_at image SUPER_BLOCK)) none

module _ (disk : Image) (can : CanGoBack disk) where
  abbrev used : List Bool
  used = old_used disk

  module _ (image : Image) (is : IsBack disk image) where
    same : IsSameVolume (image_blocks disk) image
    same = rollback_keeps.back disk image can is

    reiser : format_in image ≡ Reiser
    reiser = (has_format.accepted image same.accepted).0

    order : IsRecoverable image
    order = (has_format.accepted image same.accepted).1

    mended_is : (b : ℕ) → mended image b ≡ wiped (length used) used b (block_at image b)
    mended_is b =
        ap (λ (f : Format). mended_by f image b (block_at image b)) reiser
        ∙ ap (λ (set : List Bool). wiped (superblock image).blocks set b (block_at image b)) same.used
        ∙ ap (λ (s : Super). wiped s.blocks used b (block_at image b)) same.fields
        ∙ ap (λ (n : ℕ). wiped n used b (block_at image b)) (sym (used_length (image_blocks disk)))

    -- a block that is to change holds a Btrfs superblock, and has no use
    torn_stale : (b : ℕ) → is_torn image b ≡ true → is_stale (length used) used b (block_at image b) ≡ true
    torn_stale b torn = by (is_stale (length used) used b (block_at image b)) refl
      where
        by : (t : Bool) → is_stale (length used) used b (block_at image b) ≡ t → is_stale (length used) used b (block_at image b) ≡ true
        by true stale = stale
        by false fresh = absurd (not_both image b (mended_is b ∙ sym (fresh_gives (length used) used b (block_at image b) fresh).bytes_are) torn)

    back_partly : (other : Image) → IsPartly image other → IsBack disk other
    back_partly other partly = record {
      size = partly.size ∙ is.size;
      used = λ b marked. (keeps.left image other (inr (order, partly))).used reiser order b (subst (λ (set : List Bool). has set b ≡ true) (sym same.used) marked) ∙ is.used b marked;
      others = λ b free.
          ⊎_elim (λ kept. ⊎_elim (λ before. inl (kept ∙ before)) (λ wiping. inr wiping) (is.others b free))
          (λ torn. ⊎_elim (λ before. inr (torn.0, subst (λ (bytes : List ℕ). is_stale (length used) used b bytes ≡ true) before (torn_stale b torn.1))) (λ wiping. inr wiping) (is.others b free))
          (partly.each b);
    }

    back_left : (other : Image) → IsLeftByRecover image other → IsBack disk other
    back_left other left = ⊎_elim (λ kept. subst (IsBack disk) (sym kept) is) (λ both. back_partly other both.1) left

  module _ (none : IsUnmarked disk) where
    whole : (image : Image) → IsBack disk image → is_half_turned image ≡ false
    whole image is = not_half image (ap has_mark (is.used 16 (superblock_used disk can)) ∙ none)

    back_whole : (image : Image) → IsBack disk image → IsBack disk (put_back image)
    back_whole image is = subst (IsBack disk) (sym (put_none image (whole image is))) is

pub rolls_back : RecoveryRollsBack
rolls_back = record {
  begins = λ disk other can none is. ⊎_elim (λ half. half.back) (λ back. back_whole disk can none other back) is;
  left = λ disk other left can none is crash.
      ⊎_elim (λ putting. subst (IsBack disk) (sym (again other left putting (whole disk can none (put_back other) is))) is)
      (λ recovering. back_whole disk can none left (back_left disk can (put_back other) is left recovering)) crash;
  recovered = λ disk other new can none is done. back_left disk can (put_back other) is new (keeps.recovered (put_back other) new done);
}
