-- What a crash leaves in each phase of writing the old volume back.
use Rattle.rollback_core.proofs.Imports.{◌≡◌, ◌≢◌, ◌⊎◌, inl, inr, ⊎_elim, ℕ, ◌<◌, Bool, true, List, length, get_or, Result, Ok, Err, OnOk, sym, ◌∙◌, subst, arith, false, refl, true≢false, FIRST_MIRROR, SECOND_MIRROR, SUPER_BLOCK, zeros, Image, History, block_at, reads, clock, IsSettled, IsBlock, LeftSince, WritesBlock, WritesOnly, writes_length, reads_only, writes_weaker, left_outside, left_then, reads_outside, set_stands, write_reads, has_place, Saved, WayBack, AreWritesApart, AreWiped, AreWrittenBack, IsWayBackPart, IsSavedPlace, IsTurned, IsUnturned, IsWiped, IsWiping, IsHalfway, cases_eq}
use Rattle.super_turn.specs.Turned.{IsTurning, StandsWith}

abbrev WritesSaved : List Saved → History → History → Type 0
WritesSaved saved = WritesOnly (λ b _. IsSavedPlace saved b)

-- block 16 is none of those that become zeros
not_wiped : (way : WayBack) → ¬ IsWiped way 16
not_wiped way wiped = ⊎_elim (λ first. omega (arith, first.0)) (λ second. omega (arith, second.0)) wiped

-- a block becomes zeros, or does not
wiped_or : (way : WayBack) (b : ℕ) → IsWiped way b ⊎ ¬ IsWiped way b
wiped_or way b =
    ⊎_elim (λ one. inl (inl one)) (λ not_one. ⊎_elim (λ two. inl (inr two)) (λ not_two. inr (λ wiped. ⊎_elim not_one not_two wiped)) (both_or b SECOND_MIRROR way.second)) (both_or b FIRST_MIRROR way.first)
  where
    by : (b n : ℕ) (t : Bool) → b ≡ n → ((b ≡ n) × (t ≡ true)) ⊎ ¬ ((b ≡ n) × (t ≡ true))
    by b n true same = inl (same, refl)
    by b n false same = inr (λ both. true≢false (sym both.1))

    both_or : (b n : ℕ) (t : Bool) → ((b ≡ n) × (t ≡ true)) ⊎ ¬ ((b ≡ n) × (t ≡ true))
    both_or b n t = ⊎_elim (λ same. by b n t same) (λ other. inr (λ both. other both.0)) (cases_eq b n)

-- zeros go to such blocks alone
wipes_only : (way : WayBack) (h₂ h₃ : History) → WritesOnly (IsWiping way) h₂ h₃ → WritesOnly (λ b _. IsWiped way b) h₂ h₃
wipes_only way = writes_weaker (IsWiping way) (λ b _. IsWiped way b) (λ b bytes is. is.0)

module _ (way : WayBack) (apart : AreWritesApart way) (old : Image) where
  abbrev saved : List Saved
  saved = way.reserved.items

  -- what differs in blocks that become zeros alone is turned too
  turned_stays : (image mid : Image) → IsTurned way old mid → length image ≡ length mid
      → ((b : ℕ) → ¬ IsWiped way b → block_at image b ≡ block_at mid b) → IsTurned way old image
  turned_stays image mid is size same = record {
    size = size ∙ is.size;
    superblock = same 16 (not_wiped way) ∙ is.superblock;
    written = λ k d below.
        same (get_or saved k d).at (λ wiped. apart.wiped (get_or saved k d).at wiped (has_place (λ (x : Saved). x.at) (λ (x : Saved). x.block.bytes) saved k d below)) ∙ is.written k d below;
    others = λ b not_superblock outside. ⊎_elim (λ wiped. inr wiped) (λ kept. kept_too b not_superblock outside kept) (wiped_or way b);
  }
    where
      kept_too : (b : ℕ) → b ≢ 16 → ¬ IsSavedPlace saved b → ¬ IsWiped way b → (block_at image b ≡ block_at old b) ⊎ IsWiped way b
      kept_too b not_superblock outside kept = ⊎_elim (λ as_before. inl (same b kept ∙ as_before)) (λ wiped. inr wiped) (is.others b not_superblock outside)

  -- the saved blocks stand where block 16 alone differs
  pub saved_stay : (mid image : Image) → AreWrittenBack saved mid → ((b : ℕ) → b ≢ 16 → block_at image b ≡ block_at mid b) → AreWrittenBack saved image
  saved_stay mid image stand same k d below =
      same (get_or saved k d).at (λ eq. apart.superblock (subst (IsSavedPlace saved) eq (has_place (λ (x : Saved). x.at) (λ (x : Saved). x.block.bytes) saved k d below))) ∙ stand k d below

  -- block 16 over the saved blocks is turned
  over_saved : (mid image : Image) → IsUnturned way old mid → AreWrittenBack saved mid → length image ≡ length mid
      → block_at image SUPER_BLOCK ≡ way.superblock.bytes → ((b : ℕ) → b ≢ 16 → block_at image b ≡ block_at mid b) → IsTurned way old image
  over_saved mid image before stand size is same = record {
    size = size ∙ before.size;
    superblock = is;
    written = saved_stay mid image stand same;
    others = λ b not_superblock outside. inl (same b not_superblock ∙ before.others b outside);
  }

  -- what a turn of block 16 over the saved blocks leaves
  over_turning : (mid image : Image) → IsUnturned way old mid → AreWrittenBack saved mid → IsTurning way.superblock.bytes way.copy (block_at mid SUPER_BLOCK) mid image
      → IsUnturned way old image ⊎ (IsHalfway way old image ⊎ IsTurned way old image)
  over_turning mid image before stand t =
      ⊎_elim (λ is. inr (inr (over_saved mid image before stand t.size is t.others)))
      (λ rest. ⊎_elim
      (λ half. inr (inl (record {
        size = t.size ∙ before.size;
        whole = t.whole;
        small = t.small;
        half = half;
        written = saved_stay mid image stand t.others;
        others = λ b not_superblock outside. t.others b not_superblock ∙ before.others b outside;
      })))
      (λ same. inl (record {
        size = t.size ∙ before.size;
        others = λ b outside. ⊎_elim (λ here. subst (λ (n : ℕ). block_at image n ≡ block_at mid n) (sym here) same) (λ other. t.others b other) (cases_eq b 16) ∙ before.others b outside;
      }))
      rest)
      t.superblock

  -- once block 16 is on the disk, and zeros may wait
  pub wiping_crash : (h₂ h₃ : History) → IsSettled h₂ → IsTurned way old (reads h₂) → WritesOnly (IsWiping way) h₂ h₃
      → (image : Image) → LeftSince (clock h₂) h₃ image → IsTurned way old image
  wiping_crash h₂ h₃ settled is only image since =
      let outside = left_outside (IsWiped way) h₂ h₃ (wipes_only way h₂ h₃ only) settled image since in
      turned_stays image (reads h₂) is outside.0 outside.1

  pub wiping_stands : (h₂ h₃ : History) → IsTurned way old (reads h₂) → WritesOnly (IsWiping way) h₂ h₃ → IsTurned way old (reads h₃)
  wiping_stands h₂ h₃ is only =
      turned_stays (reads h₃) (reads h₂) is (writes_length (IsWiping way) h₂ h₃ only) (reads_outside (IsWiped way) h₂ h₃ (wipes_only way h₂ h₃ only))

pub reads_unturned : (way : WayBack) (h₀ h₁ : History) → WritesSaved way.reserved.items h₀ h₁ → IsUnturned way (reads h₀) (reads h₁)
reads_unturned way h₀ h₁ only = record {
  size = writes_length (λ b _. IsSavedPlace way.reserved.items b) h₀ h₁ only;
  others = reads_outside (IsSavedPlace way.reserved.items) h₀ h₁ only;
}

-- while the saved blocks wait
pub saved_crash : (way : WayBack) (h₀ h₁ : History) → IsSettled h₀ → WritesSaved way.reserved.items h₀ h₁ → (image : Image) → LeftSince (clock h₀) h₁ image → IsUnturned way (reads h₀) image
saved_crash way h₀ h₁ settled only image left =
    let outside = left_outside (IsSavedPlace way.reserved.items) h₀ h₁ only settled image left in
    record { size = outside.0; others = outside.1 }

-- while block 16 is turned, over the saved blocks
pub superblock_crash : (way : WayBack) (h₀ h₁ h₂ : History) → AreWritesApart way → IsSettled h₀ → WritesSaved way.reserved.items h₀ h₁
    → AreWrittenBack way.reserved.items (reads h₁) → WritesOnly (λ b _. b ≡ 16) h₁ h₂
    → ((image : Image) → LeftSince (clock h₁) h₂ image → (image ≡ reads h₁) ⊎ IsTurning way.superblock.bytes way.copy (block_at (reads h₁) 16) (reads h₁) image)
    → (image : Image) → LeftSince (clock h₀) h₂ image → IsUnturned way (reads h₀) image ⊎ (IsHalfway way (reads h₀) image ⊎ IsTurned way (reads h₀) image)
superblock_crash way h₀ h₁ h₂ apart settled₀ only₁ stand only₂ turning image left =
    ⊎_elim (λ early. inl (saved_crash way h₀ h₁ settled₀ only₁ image early))
    (λ late. ⊎_elim (λ same. inl (subst (IsUnturned way (reads h₀)) (sym same) (reads_unturned way h₀ h₁ only₁)))
    (λ turned. over_turning way apart (reads h₀) (reads h₁) image (reads_unturned way h₀ h₁ only₁) stand turned) (turning image late))
    (left_then (λ b _. IsSavedPlace way.reserved.items b) (λ b _. b ≡ 16) h₀ h₁ h₂ only₁ only₂ image left)

-- block 16 stands over the saved blocks
pub superblock_stands : (way : WayBack) (h₀ h₁ h₂ : History) → AreWritesApart way → WritesSaved way.reserved.items h₀ h₁
    → AreWrittenBack way.reserved.items (reads h₁) → StandsWith way.superblock.bytes (reads h₁) (reads h₂) → IsTurned way (reads h₀) (reads h₂)
superblock_stands way h₀ h₁ h₂ apart only₁ stand is =
    over_saved way apart (reads h₀) (reads h₁) (reads h₂) (reads_unturned way h₀ h₁ only₁) stand is.size is.superblock is.others

-- what each phase writes is part of what is written
module _ (way : WayBack) (b : ℕ) (bytes : List ℕ) where
  pub saved_part : (other : List Saved) → other ≡ way.reserved.items → IsSavedPlace other b → IsWayBackPart way b bytes
  saved_part other same is = inl (subst (λ (s : List Saved). IsSavedPlace s b) same is)

  pub superblock_part : b ≡ 16 → IsWayBackPart way b bytes
  superblock_part is = inr (inl is)

  pub wiping_part : IsWiping way b bytes → IsWayBackPart way b bytes
  wiping_part is = inr (inr is)

-- ---- zeros

-- one block was wiped, if it is to be
abbrev pub WipesOne : Bool → ℕ → ℕ → List ℕ → Type 0
WipesOne wiped place b bytes = (wiped ≡ true) × IsBlock place zeros b bytes

module _ (way : WayBack) where
  pub first_wiping : (b : ℕ) (bytes : List ℕ) → WipesOne way.first FIRST_MIRROR b bytes → IsWiping way b bytes
  first_wiping b bytes is = (inl (is.1.0, is.0), is.1.1)

  pub second_wiping : (b : ℕ) (bytes : List ℕ) → WipesOne way.second SECOND_MIRROR b bytes → IsWiping way b bytes
  second_wiping b bytes is = (inr (is.1.0, is.0), is.1.1)

  -- both are zeros
  pub both_wiped : (h₁ h₂ : History) → (way.first ≡ true → block_at (reads h₁) FIRST_MIRROR ≡ zeros) → (way.second ≡ true → block_at (reads h₂) SECOND_MIRROR ≡ zeros)
      → WritesOnly (WipesOne way.second SECOND_MIRROR) h₁ h₂ → AreWiped way (reads h₂)
  both_wiped h₁ h₂ one two only b wiped = ⊎_elim first second wiped
    where
      first : (b ≡ FIRST_MIRROR) × (way.first ≡ true) → block_at (reads h₂) b ≡ zeros
      first is =
          let kept : block_at (reads h₂) FIRST_MIRROR ≡ block_at (reads h₁) FIRST_MIRROR =
          ⊎_elim (λ same. same) (λ other. absurd (omega (arith, other.1.0))) (reads_only (WipesOne way.second SECOND_MIRROR) h₁ h₂ only FIRST_MIRROR) in
          subst (λ (n : ℕ). block_at (reads h₂) n ≡ zeros) (sym is.0) (kept ∙ one is.1)

      second : (b ≡ SECOND_MIRROR) × (way.second ≡ true) → block_at (reads h₂) b ≡ zeros
      second is = subst (λ (n : ℕ). block_at (reads h₂) n ≡ zeros) (sym is.0) (two is.1)

module _ (wiped : Bool) (place : ℕ) (bytes : List ℕ) (h₀ h₁ : History) {T E : Type 0} (result : Result T E) (zero_bytes : bytes ≡ zeros) where
  pub one_stands : place < length (reads h₀) → WritesBlock h₀ place bytes result h₁ → OnOk result (wiped ≡ true → block_at (reads h₁) place ≡ zeros)
  one_stands long did = then_zeros result (set_stands result (reads h₀) (reads h₁) place bytes long (write_reads h₀ h₁ place bytes result did))
    where
      then_zeros : (r : Result T E) → OnOk r (block_at (reads h₁) place ≡ bytes) → OnOk r (wiped ≡ true → block_at (reads h₁) place ≡ zeros)
      then_zeros (Ok x) stands = λ _. stands ∙ zero_bytes
      then_zeros (Err e) stands = tt

-- ---- the blocks, as a slice has them
pub saved_here : (here other : List Saved) (h₀ h₁ : History) → other ≡ here → WritesSaved other h₀ h₁ → WritesSaved here h₀ h₁
saved_here here other h₀ h₁ same only = subst (λ (s : List Saved). WritesSaved s h₀ h₁) same only

pub written_here : (here other : List Saved) (image : Image) → other ≡ here → AreWrittenBack other image → AreWrittenBack here image
written_here here other image same is = subst (λ (s : List Saved). AreWrittenBack s image) same is
