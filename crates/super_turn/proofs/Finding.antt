-- What a read of block 16 finds, and what a crash leaves while it is put back.
use Rattle.super_turn.proofs.Imports.{◌≡◌, ◌⊎◌, inl, inr, ⊎_elim, ℕ, Bool, true, false, cond, List, length, take, Result, Ok, Err, OnOk, refl, sym, ◌∙◌, ap, subst, ◌&&◌, History, Image, IsSettled, LeftSince, block_at, clock, reads, left_unwritten, torn_alike, torn_first, is_half, marked_place, names_copy, with_first, IsPuttingBack, copy_place, is_half_turned, put_back, super_before, IsStep, StandsWith, SUPER_BLOCK}
use Rattle.super_turn.proofs.Backs.{put_none, put_others, put_size, same_disks, super_put}
use Rattle.super_turn.proofs.Halves.{joined_first, joined_rest}

module _ (image : Image) (block : List ℕ) (blocks : ℕ) (is : block ≡ block_at image SUPER_BLOCK) (count : blocks ≡ length image) where
  pub none_named : names_copy block blocks ≡ false → is_half_turned image ≡ false
  none_named not_named =
      ap (λ (t : Bool). t && is_half (block_at image (copy_place image)) (block_at image SUPER_BLOCK))
      (sym (ap (λ (zs : List ℕ). names_copy zs (length image)) is) ∙ sym (ap (λ (n : ℕ). names_copy block n) count) ∙ not_named)

  module _ (before : List ℕ) (copy : before ≡ block_at image (marked_place block)) (named : names_copy block blocks ≡ true) where
    pub copy_is : before ≡ block_at image (copy_place image)
    copy_is = copy ∙ ap (λ (zs : List ℕ). block_at image (marked_place zs)) is

    pub half_is : (t : Bool) → is_half before block ≡ t → is_half_turned image ≡ t
    half_is t half =
        ap (λ (s : Bool). s && is_half (block_at image (copy_place image)) (block_at image SUPER_BLOCK))
        (sym (ap (λ (zs : List ℕ). names_copy zs (length image)) is) ∙ sym (ap (λ (n : ℕ). names_copy block n) count) ∙ named)
        ∙ sym (ap (λ (zs : List ℕ). is_half zs (block_at image SUPER_BLOCK)) copy_is) ∙ sym (ap (λ (zs : List ℕ). is_half before zs) is) ∙ half

-- the two steps of putting it back
module _ (start image : Image) (bytes before : List ℕ) (whole : length bytes ≡ 4096) (is : bytes ≡ block_at start SUPER_BLOCK) (copy : before ≡ block_at start (copy_place start)) (half : is_half_turned start ≡ true) where
  abbrev joined : List ℕ
  joined = with_first bytes before

  abbrev here : List ℕ
  here = block_at image SUPER_BLOCK

  abbrev Leaves : Type 0
  Leaves = (here ≡ super_before start) ⊎ ((is_half_turned start ≡ true) × (take 512 here ≡ take 512 (block_at start SUPER_BLOCK)))

  before_is : before ≡ super_before start
  before_is = copy ∙ sym (ap (λ (t : Bool). cond t (block_at start (copy_place start)) (block_at start SUPER_BLOCK)) half)

  first_is : take 512 here ≡ take 512 bytes → Leaves
  first_is same = inr (half, same ∙ ap (take 512) is)

  leaves_one : IsStep (block_at start SUPER_BLOCK) joined start image → Leaves
  leaves_one step = first_is (torn_alike (block_at start SUPER_BLOCK) joined here step.torn 0 (sym (joined_first bytes before whole ∙ ap (take 512) is)) ∙ sym (ap (take 512) is))

  leaves_two : IsStep joined before start image → Leaves
  leaves_two step =
      ⊎_elim (λ same. first_is (ap (take 512) same ∙ joined_first bytes before whole)) (λ back. inl (back ∙ before_is))
      (torn_first joined before here step.torn (joined_rest bytes before whole))

  pub putting_back : IsStep (block_at start SUPER_BLOCK) joined start image ⊎ IsStep joined before start image → IsPuttingBack start image
  putting_back steps =
      ⊎_elim
      (λ one. record { size = one.size; others = one.others; superblock = leaves_one one })
      (λ two. record { size = two.size; others = two.others; superblock = leaves_two two }) steps

-- ---- the whole of it
-- a disk that is not written is one that a crash may leave
pub putting_none : (start : Image) → IsPuttingBack start start
putting_none start = record { size = refl; others = λ b other. refl; superblock = by (is_half_turned start) refl }
  where
    by : (t : Bool) → is_half_turned start ≡ t → (block_at start SUPER_BLOCK ≡ super_before start) ⊎ ((is_half_turned start ≡ true) × (take 512 (block_at start SUPER_BLOCK) ≡ take 512 (block_at start SUPER_BLOCK)))
    by true half = inr (half, refl)
    by false half = inl (sym (ap (λ (t : Bool). cond t (block_at start (copy_place start)) (block_at start SUPER_BLOCK)) half))

pub unwritten_crash : (h₀ h₁ : History) → IsSettled h₀ → h₁ ≡ h₀ → (image : Image) → LeftSince (clock h₀) h₁ image → IsPuttingBack (reads h₀) image
unwritten_crash h₀ h₁ settled same image left = subst (IsPuttingBack (reads h₀)) (sym (left_unwritten h₀ h₁ settled same image left)) (putting_none (reads h₀))

module _ (h₀ h₁ h₂ : History) (same : h₁ ≡ h₀) (bytes before : List ℕ) (read : bytes ≡ block_at (reads h₀) 16) (copy : before ≡ block_at (reads h₀) (copy_place (reads h₀))) (half : is_half_turned (reads h₀) ≡ true) where
  pub back_crash : (first : List ℕ) → length bytes ≡ 4096 → first ≡ with_first bytes before → IsSettled h₀
      → (IsSettled h₁ → (image : Image) → LeftSince (clock h₁) h₂ image → IsStep (block_at (reads h₁) 16) first (reads h₁) image ⊎ IsStep first before (reads h₁) image)
      → (image : Image) → LeftSince (clock h₀) h₂ image → IsPuttingBack (reads h₀) image
  back_crash first whole is_first settled each image left =
      let here = subst (λ (h : History). IsSettled h → (x : Image) → LeftSince (clock h) h₂ x → IsStep (block_at (reads h) 16) first (reads h) x ⊎ IsStep first before (reads h) x) same each settled image left in
      putting_back (reads h₀) image bytes before whole read copy half
      (subst (λ (zs : List ℕ). IsStep (block_at (reads h₀) 16) zs (reads h₀) image ⊎ IsStep zs before (reads h₀) image) is_first here)

  back_stands : StandsWith before (reads h₁) (reads h₂) → reads h₂ ≡ put_back (reads h₀)
  back_stands stands =
      let here = subst (λ (h : History). StandsWith before (reads h) (reads h₂)) same stands in
      same_disks (reads h₂) (put_back (reads h₀)) (here.size ∙ sym (put_size (reads h₀)))
      (here.superblock ∙ copy ∙ sym (super_put (reads h₀) ∙ ap (λ (t : Bool). cond t (block_at (reads h₀) (copy_place (reads h₀))) (block_at (reads h₀) 16)) half))
      (λ b elsewhere. here.others b elsewhere ∙ sym (put_others (reads h₀) b elsewhere))

  pub back_written : {T E : Type 0} (result : Result T E) → OnOk result (StandsWith before (reads h₁) (reads h₂)) → OnOk result (reads h₂ ≡ put_back (reads h₀))
  back_written (Ok x) stands = back_stands stands
  back_written (Err e) stands = tt

pub unwritten_back : (h₀ h₁ : History) → h₁ ≡ h₀ → is_half_turned (reads h₀) ≡ false → reads h₁ ≡ put_back (reads h₀)
unwritten_back h₀ h₁ same none = ap reads same ∙ sym (put_none (reads h₀) none)
