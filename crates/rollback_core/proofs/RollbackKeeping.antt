-- What a rollback and its crashes keep.
use Rattle.rollback_core.proofs.Imports.{◌≡◌, ◌≢◌, inl, inr, ⊎_elim, ℕ, ◌≤◌, ◌+◌, eqb, nat_lt, Bool, true, false, not, ◌&&◌, List, length, codes, refl, sym, ◌∙◌, ap, subst, arith, true≢false, and_parts, cases_eq, nat_tests, SUPER_MAGIC_OFFSET, Image, block_at, image_blocks, image_short, IsSameOutside, has, superblock, used_of, used_length, same_volume, has_bytes_at, is_reserved, RollbackGoesOn, RollbackKeeps, IsBack, IsRolledBack, StillStands, is_wiped, CanGoBack, old_used, put_back}
use Rattle.volume_state.specs.Laws.{is_spare}
use Rattle.volume_state.proofs.Staying.{spare_blocks_decide_nothing}

-- a reserved block other than 16 is a spare one
spare_so : (t : Bool) (b : ℕ) → t ≡ true → b ≢ 16 → (t && not (eqb b 16)) ≡ true
spare_so true b is other = grind (arith, nat_tests, other)
spare_so false b is other = absurd (true≢false (sym is))

outside_spare : (disk other : Image) → StillStands disk other → IsSameOutside (is_spare disk) disk other
outside_spare disk other is = record { size = is.size; others = λ b free. ⊎_elim (λ first. at_superblock b first) (λ rest. elsewhere b free rest) (cases_eq b 16) }
  where
    at_superblock : (b : ℕ) → b ≡ 16 → block_at other b ≡ block_at disk b
    at_superblock b first = subst (λ (n : ℕ). block_at other n ≡ block_at disk n) (sym first) is.superblock

    elsewhere : (b : ℕ) → is_spare disk b ≡ false → b ≢ 16 → block_at other b ≡ block_at disk b
    elsewhere b free rest =
        is.others b (λ restored.
        let reserved : is_reserved b (superblock (image_blocks disk)).blocks ≡ true = subst (λ (n : ℕ). is_reserved b n ≡ true) (used_length (image_blocks disk)) restored.reserved in
        true≢false (sym (spare_so (is_reserved b (superblock (image_blocks disk)).blocks) b reserved rest) ∙ free))

pub rollback_keeps : RollbackKeeps
rollback_keeps = record {
  standing = λ disk other u is. spare_blocks_decide_nothing disk other u (outside_spare disk other is);
  half = λ disk other u is.
      same_volume (image_blocks disk) (put_back other) u.accepted is.back.used (room disk (put_back other) u is.back);
  back = λ disk other u is.
      same_volume (image_blocks disk) other u.accepted is.used (room disk other u is);
}
  where
    room : (disk other : Image) → CanGoBack disk → IsBack disk other → (superblock (image_blocks disk)).blocks ≤ length other
    room disk other u is = omega (arith, u.accepted.clean.superblock.fits, is.size, image_short disk)

-- ---- another rollback
module _ (disk left other : Image) (u : CanGoBack disk) (is : StillStands disk left) (done : IsRolledBack left other) where
  image_same : image_blocks left ≡ image_blocks disk
  image_same = (spare_blocks_decide_nothing disk left u (outside_spare disk left is)).image

  used_same : old_used left ≡ old_used disk
  used_same = ap used_of image_same

  -- a block without use was left as it was
  left_same : (b : ℕ) → has (old_used disk) b ≡ false → block_at left b ≡ block_at disk b
  left_same b free = is.others b (λ restored. true≢false (sym restored.used ∙ free))

  abbrev wiped_by : List Bool → List ℕ → ℕ → Bool
  wiped_by used bytes b = nat_lt (b + 1) (length used) && (not (has used b) && has_bytes_at bytes SUPER_MAGIC_OFFSET (codes "_BHRfS_M"))

  wiped_same : (b : ℕ) → has (old_used disk) b ≡ false → is_wiped left b ≡ is_wiped disk b
  wiped_same b free = ap (λ (used : List Bool). wiped_by used (block_at left b) b) used_same ∙ ap (λ (bytes : List ℕ). wiped_by (old_used disk) bytes b) (left_same b free)

  unused : (b : ℕ) → is_wiped disk b ≡ true → has (old_used disk) b ≡ false
  unused b wiped = by (has (old_used disk) b) _ (and_parts (nat_lt (b + 1) (length (old_used disk))) _ wiped).1
    where
      by : (h t : Bool) → (not h && t) ≡ true → h ≡ false
      by false t so = refl
      by true t so = absurd (true≢false (sym so))

  again : IsRolledBack disk other
  again = record {
    can = u;
    back = record {
      size = done.back.size ∙ is.size;
      used = λ b marked. done.back.used b (subst (λ (used : List Bool). has used b ≡ true) (sym used_same) marked) ∙ ap (λ (i : Image). block_at i b) image_same;
      others = λ b free.
          ⊎_elim (λ same. inl (same ∙ left_same b free)) (λ wiped. inr (wiped.0, sym (wiped_same b free) ∙ wiped.1))
          (done.back.others b (subst (λ (used : List Bool). has used b ≡ false) (sym used_same) free));
    };
    wiped = λ b mirror wiped. done.wiped b mirror (wiped_same b (unused b wiped) ∙ wiped);
  }

pub rollback_goes_on : RollbackGoesOn
rollback_goes_on disk left other u is done = again disk left other u is done
