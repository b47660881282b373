-- What the steps of a turn leave of block 16.
use Rattle.super_turn.proofs.Imports.{◌≡◌, ◌⊎◌, inl, inr, ⊎_elim, ℕ, ◌^◌, ◌<◌, List, length, take, drop, sym, ◌∙◌, ap, subst, History, Image, IsSettled, IsTorn, LeftSince, block_at, clock, reads, torn_alike, torn_first, IsHalf, marked, with_first, IsStep, IsTurning, SUPER_BLOCK}
use Rattle.super_turn.proofs.Halves.{joined_first, joined_rest, marked_long, marked_rest}

-- a step, by what it leaves of block 16
turning : (reiser btrfs from to : List ℕ) (place : ℕ) → length reiser ≡ 4096 → place < 2 ^ 64 → (start image : Image) → IsStep from to start image
    → (IsTorn (λ value. value ≡ to) from (block_at image SUPER_BLOCK) → (block_at image SUPER_BLOCK ≡ reiser) ⊎ (IsHalf reiser place (block_at image SUPER_BLOCK) ⊎ (block_at image SUPER_BLOCK ≡ btrfs)))
    → IsTurning reiser place btrfs start image
turning reiser btrfs from to place whole small start image step leaves = record { size = step.size; others = step.others; whole = whole; small = small; superblock = leaves step.torn }

module _ (reiser btrfs : List ℕ) (place : ℕ) (whole : length reiser ≡ 4096) (small : place < 2 ^ 64) (start image : Image) where
  abbrev turned : List ℕ
  turned = marked reiser place

  abbrev joined : List ℕ
  joined = with_first turned btrfs

  abbrev here : List ℕ
  here = block_at image SUPER_BLOCK

  abbrev Leaves : Type 0
  Leaves = (here ≡ reiser) ⊎ (IsHalf reiser place here ⊎ (here ≡ btrfs))

  long : length turned ≡ 4096
  long = marked_long reiser place whole

  is_turned : here ≡ turned → Leaves
  is_turned is = inr (inl (ap (take 512) is))

  is_joined : here ≡ joined → Leaves
  is_joined is = inr (inl (ap (take 512) is ∙ joined_first turned btrfs long))

  is_reiser : here ≡ reiser → Leaves
  is_reiser is = inl is

  is_btrfs : here ≡ btrfs → Leaves
  is_btrfs is = inr (inr is)

  alike : take 512 turned ≡ take 512 joined
  alike = sym (joined_first turned btrfs long)

  pub turning_to_btrfs : IsStep reiser turned start image ⊎ (IsStep turned joined start image ⊎ IsStep joined btrfs start image) → IsTurning reiser place btrfs start image
  turning_to_btrfs steps =
      ⊎_elim
      (λ one. turning reiser btrfs reiser turned place whole small start image one (λ torn. ⊎_elim is_reiser is_turned (torn_first reiser turned here torn (sym (marked_rest reiser place whole)))))
      (λ rest. ⊎_elim
      (λ two. turning reiser btrfs turned joined place whole small start image two (λ torn. inr (inl (torn_alike turned joined here torn 0 alike))))
      (λ three. turning reiser btrfs joined btrfs place whole small start image three (λ torn. ⊎_elim is_joined is_btrfs (torn_first joined btrfs here torn (joined_rest turned btrfs long))))
      rest)
      steps

  pub turning_to_reiser : IsStep btrfs joined start image ⊎ (IsStep joined turned start image ⊎ IsStep turned reiser start image) → IsTurning reiser place btrfs start image
  turning_to_reiser steps =
      ⊎_elim
      (λ one. turning reiser btrfs btrfs joined place whole small start image one (λ torn. ⊎_elim is_btrfs is_joined (torn_first btrfs joined here torn (sym (joined_rest turned btrfs long)))))
      (λ rest. ⊎_elim
      (λ two. turning reiser btrfs joined turned place whole small start image two (λ torn. inr (inl (torn_alike joined turned here torn 0 (sym alike) ∙ sym alike))))
      (λ three. turning reiser btrfs turned reiser place whole small start image three (λ torn. ⊎_elim is_turned is_reiser (torn_first turned reiser here torn (marked_rest reiser place whole))))
      rest)
      steps

-- ---- what a crash of the three steps leaves, which began with the disk as it was
abbrev Steps : List ℕ → List ℕ → List ℕ → Image → Image → Type 0
Steps a b c start image = IsStep (block_at start SUPER_BLOCK) a start image ⊎ (IsStep a b start image ⊎ IsStep b c start image)

module _ (h₀ h₁ h₂ : History) (same : h₁ ≡ h₀) (place : ℕ) (small : place < 2 ^ 64) (before turned joined last : List ℕ) (read : before ≡ block_at (reads h₀) 16) (settled : IsSettled h₀)
    (each : IsSettled h₁ → (image : Image) → LeftSince (clock h₁) h₂ image → (IsStep (block_at (reads h₁) 16) turned (reads h₁) image ⊎ (IsStep turned joined (reads h₁) image ⊎ IsStep joined last (reads h₁) image))) where
  steps_here : (image : Image) → LeftSince (clock h₀) h₂ image → Steps turned joined last (reads h₀) image
  steps_here = subst (λ (h : History). IsSettled h → (x : Image) → LeftSince (clock h) h₂ x → Steps turned joined last (reads h) x) same each settled

  pub to_btrfs_crash : length before ≡ 4096 → turned ≡ marked before place → joined ≡ with_first turned last → (image : Image) → LeftSince (clock h₀) h₂ image
      → IsTurning (block_at (reads h₀) 16) place last (reads h₀) image
  to_btrfs_crash whole is_turned is_joined image left =
      let old : List ℕ = block_at (reads h₀) 16 in
      let one : turned ≡ marked old place = is_turned ∙ ap (λ (bytes : List ℕ). marked bytes place) read in
      let two : joined ≡ with_first (marked old place) last = is_joined ∙ ap (λ (bytes : List ℕ). with_first bytes last) one in
      turning_to_btrfs old last place (subst (λ (bytes : List ℕ). length bytes ≡ 4096) read whole) small (reads h₀) image
      (subst (λ (bytes : List ℕ). Steps (marked old place) bytes last (reads h₀) image) two
      (subst (λ (bytes : List ℕ). Steps bytes joined last (reads h₀) image) one (steps_here image left)))

module _ (h₀ h₁ h₂ : History) (same : h₁ ≡ h₀) (place : ℕ) (small : place < 2 ^ 64) (before turned joined reiser : List ℕ) (read : before ≡ block_at (reads h₀) 16) (settled : IsSettled h₀)
    (each : IsSettled h₁ → (image : Image) → LeftSince (clock h₁) h₂ image → (IsStep (block_at (reads h₁) 16) joined (reads h₁) image ⊎ (IsStep joined turned (reads h₁) image ⊎ IsStep turned reiser (reads h₁) image))) where
  pub to_reiser_crash : length reiser ≡ 4096 → turned ≡ marked reiser place → joined ≡ with_first turned before → (image : Image) → LeftSince (clock h₀) h₂ image
      → IsTurning reiser place (block_at (reads h₀) 16) (reads h₀) image
  to_reiser_crash whole one is_joined image left =
      let btrfs : List ℕ = block_at (reads h₀) 16 in
      let two : joined ≡ with_first (marked reiser place) btrfs = is_joined ∙ ap (λ (bytes : List ℕ). with_first bytes before) one ∙ ap (λ (bytes : List ℕ). with_first (marked reiser place) bytes) read in
      turning_to_reiser reiser btrfs place whole small (reads h₀) image
      (subst (λ (bytes : List ℕ). Steps (with_first (marked reiser place) btrfs) bytes reiser (reads h₀) image) one
      (subst (λ (bytes : List ℕ). Steps bytes turned reiser (reads h₀) image) two
      (steps_here h₀ h₁ h₂ same place small before joined turned reiser read settled each image left)))
