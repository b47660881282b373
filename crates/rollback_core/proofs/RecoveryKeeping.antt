-- What a recovery keeps.
use Rattle.rollback_core.proofs.Imports.{◌≡◌, ◌≢◌, ◌∙◌, ◌⊎◌, inl, inr, ⊎_elim, ℕ, zero, suc, Bool, not, ◌+◌, ◌/◌, ◌<◌, ◌≤◌, true, false, true≢false, cond, nat_lt, nat_le, List, length, codes, refl, sym, ap, subst, arith, bytes_eq, cases_lt, nat_tests, bytes_eq-Decides, FIRST_MIRROR, SECOND_MIRROR, SUPER_BLOCK, SUPER_MAGIC_OFFSET, format_in, Image, block_at, BtrRefusal, super_of, mirror_bytes, Super, IsMirror, own_super, IsSameOutside, is_spare, is_spare_in, SameUsed, contains_filter, filter_contains, IsFrontAccepted, superblock, used_of, front_not_refused, same_volume, format, has_bytes_at, Format, Reiser, Btrfs, Neither, IsRefusedAs, IsSameBut, RecoversWhatIsInOrder, RecoveryCounts, RecoveryKeeps, RecoveryMends, RecoveryStays, blocks_of, is_torn, mended, mended_by, copied, IsInOrder, IsLeftByRecover, IsPartly, IsRecoverable, IsRecovered, copy_blocks}
use Rattle.std.specs.Prelude.{Contains, Ok, Err, Result}
use Rattle.reiser_bitmap.specs.refusals.declared.refusal.VolumeRefusal.{VolumeRefusal}
use Rattle.btr_reader.proofs.Decided.{reserved_blocks_are_spare}
use Rattle.convert_steps.specs.command_answers.declared.answer.Answer.TheVariants as answer
use Rattle.rollback_core.proofs.Fronts.{front_same, used_same}
use Rattle.rollback_core.proofs.Mended.{copy_beyond, copy_wanted, mend_again, mend_same, mirror_or, same_bytes, two_of, used_stays, wiped_clean}

-- block 16 is that of no copy
mirror_16 : IsMirror 16 → ⊥
mirror_16 mirror = ⊎_elim (λ eq. omega (arith, eq)) (λ eq. omega (arith, eq)) mirror

format_same : (image other : Image) → length other ≡ length image → block_at other SUPER_BLOCK ≡ block_at image SUPER_BLOCK → format_in other ≡ format_in image
format_same image other size same =
    ap (λ (n : ℕ). cond (nat_le n 16) Neither (format (block_at other SUPER_BLOCK))) size ∙ ap (λ (bytes : List ℕ). cond (nat_le (length image) 16) Neither (format bytes)) same

-- a block is not to change exactly where it holds what is to stand there
not_torn : (image : Image) (b : ℕ) → is_torn image b ≡ false → mended image b ≡ block_at image b
not_torn image b whole = (bytes_eq-Decides (mended image b) (block_at image b)).0 (not_not (bytes_eq (mended image b) (block_at image b)) whole)
  where
    not_not : (t : Bool) → not t ≡ false → t ≡ true
    not_not true is = refl
    not_not false is = absurd (true≢false is)

pub not_both : (image : Image) (b : ℕ) → mended image b ≡ block_at image b → is_torn image b ≡ true → ⊥
not_both image b same torn = true≢false (sym torn ∙ ap not ((bytes_eq-Decides (mended image b) (block_at image b)).1 same))

-- a disk that was recovered differs in blocks of copies alone
partly_of : (image other : Image) → IsRecovered image other → IsPartly image other
partly_of image other is = record {
  size = is.size;
  each = λ b. ⊎_elim (λ mirror. by b mirror (is_torn image b) refl) (λ outside. inl (is.others b outside)) (mirror_or b);
}
  where
    by : (b : ℕ) → IsMirror b → (t : Bool) → is_torn image b ≡ t → (block_at other b ≡ block_at image b) ⊎ (IsMirror b × (is_torn image b ≡ true))
    by b mirror true torn = inr (mirror, torn)
    by b mirror false whole = inl (is.copies b mirror ∙ not_torn image b whole)

module _ (image other : Image) (can : IsRecoverable image) (is : IsPartly image other) where
  outside : (b : ℕ) → ¬ IsMirror b → block_at other b ≡ block_at image b
  outside b elsewhere = ⊎_elim (λ same. same) (λ both. absurd (elsewhere both.0)) (is.each b)

  super_same : block_at other SUPER_BLOCK ≡ block_at image SUPER_BLOCK
  super_same = outside 16 mirror_16

  format_kept : format_in other ≡ format_in image
  format_kept = format_same image other is.size super_same

  front_in : format_in image ≡ Reiser → IsFrontAccepted image
  front_in reiser = subst (λ (f : Format). IsInOrder f image) reiser can

  used_kept : format_in image ≡ Reiser → SameUsed (used_of image) image other
  used_kept reiser b used =
      ⊎_elim (λ same. same)
      (λ both. absurd (not_both image b (ap (λ (f : Format). mended_by f image b (block_at image b)) reiser ∙ used_stays (superblock image).blocks (used_of image) b (block_at image b) used) both.1))
      (is.each b)

  in_order : (f : Format) → format_in image ≡ f → IsInOrder f image → IsInOrder f other
  in_order Reiser format order = front_same image other order (used_kept format) is.size
  in_order Btrfs format order =
      (order.0, ap (λ (bytes : List ℕ). super_of bytes SUPER_BLOCK (length other)) super_same ∙ (ap (λ (n : ℕ). super_of (block_at image SUPER_BLOCK) SUPER_BLOCK n) is.size ∙ order.1))
  in_order Neither format order = absurd order

  can_again : IsRecoverable other
  can_again = subst (λ (f : Format). IsInOrder f other) (sym format_kept) (in_order (format_in image) refl can)

  mends_alike : (b : ℕ) (bytes : List ℕ) → mended_by (format_in other) other b bytes ≡ mended_by (format_in image) image b bytes
  mends_alike b bytes =
      ap (λ (f : Format). mended_by f other b bytes) format_kept
      ∙ mend_same (format_in image) image other super_same (λ reiser. used_same image other (front_in reiser) (used_kept reiser)) b bytes

  -- on a Btrfs volume nothing else is to stand there
  copies_again : format_in image ≡ Btrfs → (b : ℕ) → mended other b ≡ mended image b
  copies_again btrfs b =
      mends_alike b (block_at other b)
      ∙ ⊎_elim (λ same. ap (λ (bytes : List ℕ). mended_by (format_in image) image b bytes) same) (λ both. by (nat_lt (b + 1) blocks) refl both.1) (is.each b)
    where
      blocks : ℕ
      blocks = blocks_of (block_at image SUPER_BLOCK)

      as_btrfs : (bytes : List ℕ) → mended_by (format_in image) image b bytes ≡ copied blocks (block_at image SUPER_BLOCK) b bytes
      as_btrfs bytes = ap (λ (f : Format). mended_by f image b bytes) btrfs

      by : (t : Bool) → nat_lt (b + 1) blocks ≡ t → is_torn image b ≡ true → mended_by (format_in image) image b (block_at other b) ≡ mended image b
      by true low torn =
          as_btrfs (block_at other b) ∙ copy_wanted blocks (block_at image SUPER_BLOCK) b (block_at other b) low
          ∙ sym (as_btrfs (block_at image b) ∙ copy_wanted blocks (block_at image SUPER_BLOCK) b (block_at image b) low)
      by false high torn = absurd (not_both image b (as_btrfs (block_at image b) ∙ copy_beyond blocks (block_at image SUPER_BLOCK) b (block_at image b) high) torn)

  same_but : IsSameBut image other
  same_but = record {
    size = is.size;
    format = format_kept;
    can = λ _. can_again;
    others = outside;
    used = λ reiser _. used_kept reiser;
    volume = λ reiser accepted. same_volume image other accepted (used_kept reiser) (omega (arith, is.size, accepted.clean.superblock.fits));
  }

same_as_itself : (image : Image) → IsSameBut image image
same_as_itself image = record {
  size = refl;
  format = refl;
  can = λ can. can;
  others = λ b outside. refl;
  used = λ reiser can b used. refl;
  volume = λ reiser accepted. same_volume image image accepted (λ b used. refl) accepted.clean.superblock.fits;
}

-- the blocks of copies are reserved
not_reserved : (blocks b : ℕ) → is_spare b blocks ≡ false → IsMirror b → ⊥
not_reserved blocks b free mirror =
    ⊎_elim (λ one. true≢false (subst (λ (n : ℕ). is_spare n blocks ≡ false) one free)) (λ two. true≢false (subst (λ (n : ℕ). is_spare n blocks ≡ false) two free)) mirror

left_outside : (image other : Image) → IsSameBut image other → IsSameOutside (is_spare_in image) image other
left_outside image other is = record { size = is.size; others = λ b free. is.others b (not_reserved ((own_super image).total_bytes / 4096) b free) }

left_same : (image other : Image) → IsLeftByRecover image other → IsSameBut image other
left_same image other is = ⊎_elim (λ same. subst (IsSameBut image) (sym same) (same_as_itself image)) (λ both. same_but image other both.0 both.1) is

pub keeps : RecoveryKeeps
keeps = record {
  recovered = λ image other is. inr (is.can, partly_of image other is);
  left = left_same;
  btrfs = λ image other free is. reserved_blocks_are_spare image other free (left_outside image other (left_same image other is));
}

-- ---- again
settled_copies : (image other : Image) (is : IsRecovered image other) (b : ℕ) → IsMirror b → mended other b ≡ block_at other b
settled_copies image other is b mirror =
    mends_alike image other is.can (partly_of image other is) b (block_at other b)
    ∙ ap (λ (bytes : List ℕ). mended_by (format_in image) image b bytes) (is.copies b mirror)
    ∙ mend_again (format_in image) image b (block_at image b) ∙ sym (is.copies b mirror)

pub stays : RecoveryStays
stays = record {
  stays = λ image other is. record {
    can = can_again image other is.can (partly_of image other is);
    size = refl;
    copies = λ b mirror. sym (settled_copies image other is b mirror);
    others = λ b outside. refl;
  };
  idle = λ image other is.
      let first = same_bytes (mended other FIRST_MIRROR) (block_at other FIRST_MIRROR) (settled_copies image other is FIRST_MIRROR (inl refl)) in
      let second = same_bytes (mended other SECOND_MIRROR) (block_at other SECOND_MIRROR) (settled_copies image other is SECOND_MIRROR (inr refl)) in
      two_of (is_torn other) false false first second;
  again = λ image left other btrfs is made. ⊎_elim (λ same. subst (λ (i : Image). IsRecovered i other) same made)
      (λ both. record {
        can = both.0;
        size = made.size ∙ both.1.size;
        copies = λ b mirror. made.copies b mirror ∙ copies_again image left both.0 both.1 btrfs b;
        others = λ b elsewhere. made.others b elsewhere ∙ outside image left both.0 both.1 b elsewhere;
      })
      is;
}

-- ---- what stands
copied_there : (image : Image) (b : ℕ) → format_in image ≡ Btrfs → b + 1 < blocks_of (block_at image SUPER_BLOCK) → mended image b ≡ mirror_bytes b (block_at image SUPER_BLOCK)
copied_there image b btrfs low =
    let yes : nat_lt (b + 1) (blocks_of (block_at image SUPER_BLOCK)) ≡ true = grind (arith, nat_tests, low) in
    ap (λ (f : Format). mended_by f image b (block_at image b)) btrfs ∙ copy_wanted (blocks_of (block_at image SUPER_BLOCK)) (block_at image SUPER_BLOCK) b (block_at image b) yes

kept_beyond : (image : Image) (b : ℕ) → format_in image ≡ Btrfs → blocks_of (block_at image SUPER_BLOCK) ≤ b + 1 → mended image b ≡ block_at image b
kept_beyond image b btrfs high =
    let no : nat_lt (b + 1) (blocks_of (block_at image SUPER_BLOCK)) ≡ false = grind (arith, nat_tests, high) in
    ap (λ (f : Format). mended_by f image b (block_at image b)) btrfs ∙ copy_beyond (blocks_of (block_at image SUPER_BLOCK)) (block_at image SUPER_BLOCK) b (block_at image b) no

pub mends : RecoveryMends
mends = record {
  copies = λ image other is btrfs b mirror low. is.copies b mirror ∙ copied_there image b btrfs low;
  wiped = λ image other is reiser b mirror low free.
      let yes : nat_lt (b + 1) (superblock image).blocks ≡ true = grind (arith, nat_tests, low) in
      let here : block_at other b ≡ mended_by Reiser image b (block_at image b) = is.copies b mirror ∙ ap (λ (f : Format). mended_by f image b (block_at image b)) reiser in
      ap (λ (bytes : List ℕ). has_bytes_at bytes SUPER_MAGIC_OFFSET (codes "_BHRfS_M")) here ∙ wiped_clean (superblock image).blocks (used_of image) b (block_at image b) yes free;
  whole = λ image can btrfs copies. record {
    can = can;
    size = refl;
    copies = λ b mirror. ⊎_elim (λ low. copies b mirror low ∙ sym (copied_there image b btrfs low)) (λ high. sym (kept_beyond image b btrfs high)) (cases_lt (b + 1) (blocks_of (block_at image SUPER_BLOCK)));
    others = λ b outside. refl;
  };
}

-- ---- what differs
not_false : (t : Bool) → not t ≡ true → t ≡ true → ⊥
not_false true is holds = absurd cc
not_false false is holds = absurd cc

not_so : (t : Bool) → (t ≡ true → ⊥) → not t ≡ true
not_so true never = absurd (never refl)
not_so false never = refl

copy_among : (b : ℕ) → IsMirror b → Contains copy_blocks b
copy_among b mirror = ⊎_elim (λ one. (0, omega arith, sym one)) (λ two. (1, omega arith, sym two)) mirror

copy_of : (b : ℕ) → Contains copy_blocks b → IsMirror b
copy_of b (zero, below, is) = inl (sym is)
copy_of b (suc zero, below, is) = inr (sym is)
copy_of b (suc (suc n), below, is) = absurd (omega (arith, below))

pub counts : RecoveryCounts
counts image other is b = (
  λ among.
      let parts = filter_contains (is_torn image) copy_blocks b among in
      let here = is.copies b (copy_of b parts.0) in
      λ same. not_false (bytes_eq (mended image b) (block_at image b)) parts.1 ((bytes_eq-Decides (mended image b) (block_at image b)).1 (sym here ∙ same)),
  λ differs.
      ⊎_elim
      (λ mirror. contains_filter (is_torn image) copy_blocks b
      (not_so (bytes_eq (mended image b) (block_at image b)) (λ equal. differs (is.copies b mirror ∙ (bytes_eq-Decides (mended image b) (block_at image b)).0 equal))) (copy_among b mirror))
      (λ outside. absurd (differs (is.others b outside)))
      (mirror_or b),
)

-- ---- what is answered
no_volume_refusal : (image : Image) (r : VolumeRefusal) (f : Format) → IsInOrder f image → IsRefusedAs f image r → ⊥
no_volume_refusal image r Reiser order refused = front_not_refused image r refused order
no_volume_refusal image r Btrfs order refused = refused
no_volume_refusal image r Neither order refused = order

abbrev ok : Super → Result Super BtrRefusal
ok s = Ok s

abbrev err : BtrRefusal → Result Super BtrRefusal
err r = Err r

no_super_refusal : (image : Image) (r : BtrRefusal) → IsInOrder Btrfs image → super_of (block_at image SUPER_BLOCK) SUPER_BLOCK (length image) ≡ Err r → ⊥
no_super_refusal image r order refused =
    let both : ok order.0 ≡ err r = sym order.1 ∙ refused in
    absurd cc

has_bitmap : (image : Image) (f : Format) → IsInOrder f image → f ≢ Btrfs → f ≡ Reiser
has_bitmap image Reiser order other = refl
has_bitmap image Btrfs order other = absurd (other refl)
has_bitmap image Neither order other = absurd order

pub in_order_recovers : RecoversWhatIsInOrder
in_order_recovers image (answer.Volume r) can refused = absurd (no_volume_refusal image r (format_in image) can refused)
in_order_recovers image (answer.Btr r) can refused = absurd (no_super_refusal image r (subst (λ (f : Format). IsInOrder f image) refused.0 can) refused.1)
in_order_recovers image (answer.NoSpace needed free run_needed longest) can refused = absurd refused
in_order_recovers image answer.WrongFormat can refused = absurd refused
in_order_recovers image answer.ImageMissing can refused = absurd refused
in_order_recovers image (answer.ImageMoved block) can refused = absurd refused
in_order_recovers image (answer.ImageDamaged r) can refused = absurd refused
in_order_recovers image (answer.ReservedUsed block) can refused = absurd refused
in_order_recovers image (answer.NotSound part address) can refused = absurd refused
in_order_recovers image (answer.ImageShared tree) can refused = absurd refused
in_order_recovers image answer.Fault can refused = inl refl
in_order_recovers image answer.Memory can refused = inr (refl, has_bitmap image (format_in image) can refused)
