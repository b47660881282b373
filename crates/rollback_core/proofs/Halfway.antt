-- Where block 16 is half turned over the restored blocks, the old volume stands once it is put back.
use Rattle.rollback_core.proofs.Imports.{◌≡◌, ◌≢◌, inl, ⊎_elim, ℕ, ◌<◌, true, false, true≢false, List, [], length, set, Option, Some, None, refl, sym, ◌∙◌, ap, subst, arith, get_or-set_same, get_or-set_other, cases_lt, cases_eq, get_or_past, length-set, unwrap_or, ImageFile, own_map, Image, block_at, has_bytes_at, has_reiser_magic, zeros, CanGoBackToo, block_or_hole, image_blocks, place_by_file, saved_file, saved_place, image_block, image_short, is_half_turned, put_back, IsWayBack, IsBack, IsHalfBack, AreWritesApart, IsHalfway, IsTurned, IsUnturned, WayBack, accepted_front, SUPER_BLOCK, half_turned}
use Rattle.std.specs.Prelude.{codes}
use Rattle.super_turn.specs.Laws.{HasHalf}
use Rattle.rollback_core.proofs.Back.{back, standing}
use Rattle.rollback_core.proofs.Phases.{saved_stay}
use Rattle.rollback_core.proofs.RecoveryFormats.{btrfs_magic, other_magic}
use Rattle.rollback_core.proofs.RollbackKeeping.{rollback_keeps}

module _ (disk : Image) (way : WayBack) (p : IsWayBack disk way) where
  abbrev old : List ℕ
  old = way.superblock.bytes

  -- the image has block 16
  low : 16 < length (image_blocks disk)
  low = p.can.accepted.clean.superblock.there

  read : old ≡ block_or_hole disk (saved_place disk 16)
  read = p.superblock ∙ image_block disk 16 low

  its_magic : has_reiser_magic old ≡ true
  its_magic = ap has_reiser_magic p.superblock ∙ p.can.accepted.clean.superblock.magic

  no_other : has_bytes_at old 64 (codes "_BHRfS_M") ≡ false
  no_other = ap (λ (bytes : List ℕ). has_bytes_at bytes 64 (codes "_BHRfS_M")) p.superblock ∙ other_magic (image_blocks disk) (accepted_front (image_blocks disk) p.can.accepted)

  not_empty : old ≡ [] → ⊥
  not_empty is = true≢false (sym its_magic ∙ ap has_reiser_magic is)

  not_zeros : old ≡ zeros → ⊥
  not_zeros is = true≢false (sym its_magic ∙ ap has_reiser_magic is)

  -- it lies in the block that is kept in mind
  placed : (o : Option ℕ) → saved_place disk 16 ≡ o → (saved_place disk 16 ≡ Some way.copy) × (block_at disk way.copy ≡ old)
  placed None is = absurd (not_zeros (read ∙ ap (block_or_hole disk) is))
  placed (Some place) is =
      let here : way.copy ≡ place = p.copy ∙ ap (λ (o : Option ℕ). unwrap_or o 16) is in
      (is ∙ ap (λ (n : ℕ). Some n) (sym here), ap (block_at disk) here ∙ sym (read ∙ ap (block_or_hole disk) is))

  elsewhere : way.copy ≢ 16
  elsewhere is =
      true≢false (sym (btrfs_magic disk p.format)
      ∙ ap (λ (bytes : List ℕ). has_bytes_at bytes 64 (codes "_BHRfS_M")) (sym (ap (block_at disk) is) ∙ (placed (saved_place disk 16) refl).1) ∙ no_other)

  module _ (apart : AreWritesApart way) (other : Image) (is : IsHalfway way disk other) where
    long : 16 < length other
    long = omega (arith, low, image_short disk, is.size)

    -- with its block 16 the Btrfs volume would stand
    abbrev mid : Image
    mid = set other 16 (block_at disk SUPER_BLOCK)

    unturned : IsUnturned way disk mid
    unturned = record {
      size = length-set other 16 (block_at disk SUPER_BLOCK) ∙ is.size;
      others = λ b outside. ⊎_elim
          (λ here. subst (λ (n : ℕ). block_at mid n ≡ block_at disk n) (sym here) (get_or-set_same other 16 (block_at disk SUPER_BLOCK) [] long))
          (λ rest. get_or-set_other other 16 b (block_at disk SUPER_BLOCK) [] rest ∙ is.others b rest outside) (cases_eq b 16);
    }

    too : CanGoBackToo disk mid
    too = rollback_keeps.standing disk mid p.can (standing disk way p apart mid unturned)

    -- so the copy is there
    copy_kept : (f : Option ImageFile) → saved_file disk ≡ f → place_by_file (own_map disk) f 16 ≡ Some way.copy → block_at mid way.copy ≡ block_at disk way.copy
    copy_kept None file at = absurd (cc at)
    copy_kept (Some f) file at = too.same.contents f 16 way.copy file at

    copy_there : block_at other way.copy ≡ old
    copy_there =
        let at = placed (saved_place disk 16) refl in
        sym (get_or-set_other other 16 way.copy (block_at disk SUPER_BLOCK) [] elsewhere) ∙ copy_kept (saved_file disk) refl at.0 ∙ at.1

    inside : way.copy < length other
    inside = ⊎_elim (λ within. within) (λ past. absurd (not_empty (sym copy_there ∙ get_or_past other way.copy [] past))) (cases_lt way.copy (length other))

    turned : IsTurned way disk (set other 16 old)
    turned = record {
      size = length-set other 16 old ∙ is.size;
      superblock = get_or-set_same other 16 old [] long;
      written = saved_stay way apart disk other (set other 16 old) is.written (λ b rest. get_or-set_other other 16 b old [] rest);
      others = λ b rest outside. inl (get_or-set_other other 16 b old [] rest ∙ is.others b rest outside);
    }

    pub half_back : IsHalfBack disk other
    half_back =
        let has : HasHalf old way.copy other =
        record { whole = is.whole; other_magic = no_other; inside = inside; elsewhere = elsewhere; small = is.small; copy = copy_there; half = is.half } in
        let both = half_turned old way.copy other has in
        record { half = both.0; back = subst (IsBack disk) (sym both.1) (back disk way p (set other 16 old) turned) }
