-- What a crash leaves in each phase of the switch.
use Rattle.convert_steps.proofs.Imports.{◌≡◌, ◌≢◌, ◌⊎◌, inl, inr, ⊎_elim, ℕ, ◌+◌, ◌<◌, List, [], length, Result, Ok, Err, OnOk, refl, sym, ◌∙◌, ap, subst, arith, ext_get_or, FIRST_MIRROR, SECOND_MIRROR, SUPER_BLOCK, Image, History, block_at, reads, clock, IsSettled, LeftSince, WritesBlock, WritesOnly, reads_only, write_only, writes_length, writes_then, writes_weaker, reads_outside, set_stands, write_reads, left_outside, mirror_bytes, IsMirror, IsMirrorOf, IsCopy, IsCopyAt, IsSwitchPart, IsSwitched, HasCopies, IsHalfSwitched, IsLeftBySwitch, cases_eq}
use Rattle.super_turn.specs.Turned.{IsTurning, StandsWith}

not_mirror : ¬ IsMirror 16
not_mirror mirror = ⊎_elim (λ eq. omega (arith, eq)) (λ eq. omega (arith, eq)) mirror

-- block 16 differs, and no other
switched : (superblock : List ℕ) (blocks : ℕ) (old image : Image) → length image ≡ length old → block_at image SUPER_BLOCK ≡ superblock
    → ((b : ℕ) → b ≢ 16 → block_at image b ≡ block_at old b) → IsSwitched superblock blocks old image
switched superblock blocks old image size is others = record {
  size = size;
  superblock_is = is;
  others = λ b not_superblock _. others b not_superblock;
}

-- while block 16 is turned
pub superblock_crash : (superblock : List ℕ) (place blocks : ℕ) (old image : Image) → (image ≡ old) ⊎ IsTurning (block_at old SUPER_BLOCK) place superblock old image → IsLeftBySwitch place superblock blocks old image
superblock_crash superblock place blocks old image (inl same) = inl same
superblock_crash superblock place blocks old image (inr is) =
    ⊎_elim
    (λ same. inl (ext_get_or [] image old is.size (λ b below.
    ⊎_elim (λ here. subst (λ (n : ℕ). block_at image n ≡ block_at old n) (sym here) same) (λ other. is.others b other) (cases_eq b 16))))
    (λ turned. ⊎_elim (λ half. inr (inl (record { size = is.size; others = is.others; whole = is.whole; small = is.small; half = half }))) (λ new. inr (inr (switched superblock blocks old image is.size new is.others))) turned)
    is.superblock

-- the superblock stands
pub superblock_stands : (superblock : List ℕ) (blocks : ℕ) (old image : Image) → StandsWith superblock old image → IsSwitched superblock blocks old image
superblock_stands superblock blocks old image is = switched superblock blocks old image is.size is.superblock is.others

-- what differs in the copies' blocks alone is switched too
module _ (superblock : List ℕ) (blocks : ℕ) (old : Image) where
  stays : (image mid : Image) → IsSwitched superblock blocks old mid → length image ≡ length mid
      → ((b : ℕ) → ¬ IsMirrorOf blocks b → block_at image b ≡ block_at mid b) → IsSwitched superblock blocks old image
  stays image mid is size same = record {
    size = size ∙ is.size;
    superblock_is = same 16 (λ mirror. not_mirror mirror.0) ∙ is.superblock_is;
    others = λ b not_superblock outside. same b outside ∙ is.others b not_superblock outside;
  }

  -- a copy goes to its place
  placed : (b : ℕ) (bytes : List ℕ) → IsCopy superblock blocks b bytes → IsMirrorOf blocks b
  placed b bytes copy = (copy.mirror, copy.within)

  -- once the superblock is on the disk, and copies may wait
  pub copies_crash : (h₁ h₂ : History) → IsSettled h₁ → IsSwitched superblock blocks old (reads h₁) → WritesOnly (IsCopy superblock blocks) h₁ h₂
      → (image : Image) → LeftSince (clock h₁) h₂ image → IsSwitched superblock blocks old image
  copies_crash h₁ h₂ settled is only image since =
      let outside = left_outside (IsMirrorOf blocks) h₁ h₂ (writes_weaker (IsCopy superblock blocks) (λ b _. IsMirrorOf blocks b) placed h₁ h₂ only) settled image since in
      stays image (reads h₁) is outside.0 outside.1

  pub copies_stand : (h₁ h₂ : History) → IsSwitched superblock blocks old (reads h₁) → WritesOnly (IsCopy superblock blocks) h₁ h₂ → IsSwitched superblock blocks old (reads h₂)
  copies_stand h₁ h₂ is only =
      stays (reads h₂) (reads h₁) is (writes_length (IsCopy superblock blocks) h₁ h₂ only)
      (reads_outside (IsMirrorOf blocks) h₁ h₂ (writes_weaker (IsCopy superblock blocks) (λ b _. IsMirrorOf blocks b) placed h₁ h₂ only))

-- what each phase writes is part of what the switch writes
module _ (superblock : List ℕ) (blocks : ℕ) where
  pub superblock_part : (h₀ h₁ : History) → WritesOnly (λ b _. b ≡ 16) h₀ h₁ → WritesOnly (IsSwitchPart superblock blocks) h₀ h₁
  superblock_part h₀ h₁ = writes_weaker (λ b _. b ≡ 16) (IsSwitchPart superblock blocks) (λ b bytes is. inl is) h₀ h₁

  pub copies_part : (h₀ h₁ h₂ : History) → WritesOnly (λ b _. b ≡ 16) h₀ h₁ → WritesOnly (IsCopy superblock blocks) h₁ h₂ → WritesOnly (IsSwitchPart superblock blocks) h₀ h₂
  copies_part h₀ h₁ h₂ first then =
      writes_then (IsSwitchPart superblock blocks) h₀ h₁ h₂ (superblock_part h₀ h₁ first)
      (writes_weaker (IsCopy superblock blocks) (IsSwitchPart superblock blocks) (λ b bytes is. inr is) h₁ h₂ then)

  pub copy_part : (place : ℕ) (h₀ h₁ : History) → WritesOnly (IsCopyAt place superblock blocks) h₀ h₁ → WritesOnly (IsCopy superblock blocks) h₀ h₁
  copy_part place h₀ h₁ = writes_weaker (IsCopyAt place superblock blocks) (IsCopy superblock blocks) (λ b bytes is. is.1) h₀ h₁

  -- both copies stand
  pub both_stand : (h₀ h₁ h₂ : History) → (FIRST_MIRROR + 1 < blocks → block_at (reads h₁) FIRST_MIRROR ≡ mirror_bytes FIRST_MIRROR superblock)
      → (SECOND_MIRROR + 1 < blocks → block_at (reads h₂) SECOND_MIRROR ≡ mirror_bytes SECOND_MIRROR superblock)
      → WritesOnly (IsCopyAt SECOND_MIRROR superblock blocks) h₁ h₂ → HasCopies superblock blocks (reads h₂)
  both_stand h₀ h₁ h₂ one two only b mirror below =
      ⊎_elim first second mirror
    where
      first : b ≡ FIRST_MIRROR → block_at (reads h₂) b ≡ mirror_bytes b superblock
      first eq =
          let long : FIRST_MIRROR + 1 < blocks = omega (arith, eq, below) in
          let kept : block_at (reads h₂) FIRST_MIRROR ≡ block_at (reads h₁) FIRST_MIRROR =
          ⊎_elim (λ same. same) (λ is. absurd (omega (arith, is.0))) (reads_only (IsCopyAt SECOND_MIRROR superblock blocks) h₁ h₂ only FIRST_MIRROR) in
          subst (λ (n : ℕ). block_at (reads h₂) n ≡ mirror_bytes n superblock) (sym eq) (kept ∙ one long)

      second : b ≡ SECOND_MIRROR → block_at (reads h₂) b ≡ mirror_bytes b superblock
      second eq =
          let long : SECOND_MIRROR + 1 < blocks = omega (arith, eq, below) in
          subst (λ (n : ℕ). block_at (reads h₂) n ≡ mirror_bytes n superblock) (sym eq) (two long)

  -- one copy was written, or its write failed
  module _ (place : ℕ) (bytes : List ℕ) (h₀ h₁ : History) {T E : Type 0} (result : Result T E) where
    pub copy_only : IsMirror place → place + 1 < blocks → bytes ≡ mirror_bytes place superblock → WritesBlock h₀ place bytes result h₁ → WritesOnly (IsCopyAt place superblock blocks) h₀ h₁
    copy_only mirror within is did =
        write_only (IsCopyAt place superblock blocks) h₀ h₁ place bytes result (refl, record { mirror = mirror; within = within; bytes_are = is }) did

    pub copy_stands : place < length (reads h₀) → bytes ≡ mirror_bytes place superblock → WritesBlock h₀ place bytes result h₁
        → OnOk result (place + 1 < blocks → block_at (reads h₁) place ≡ mirror_bytes place superblock)
    copy_stands long is did =
        on_then result (set_stands result (reads h₀) (reads h₁) place bytes long (write_reads h₀ h₁ place bytes result did))
      where
        on_then : (r : Result T E) → OnOk r (block_at (reads h₁) place ≡ bytes) → OnOk r (place + 1 < blocks → block_at (reads h₁) place ≡ mirror_bytes place superblock)
        on_then (Ok x) stands = λ below. stands ∙ is
        on_then (Err e) stands = tt
