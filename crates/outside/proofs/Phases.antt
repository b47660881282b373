-- Phases of a function that writes: what each leaves, and how they follow one another.
use Rattle.outside.proofs.Imports.{◌≡◌, ◌≢◌, ◌⊎◌, ⊎_elim, ℕ, ◌<◌, List, [], length, set, Result, Ok, Err, OnOk, get_or-set_same, ap, subst, sym, ◌∙◌, Image, History, block_at, reads, clock, IsSettled, IsBlock, LeftSince, WritesBlock, Syncs, WritesOnly, IsTorn}
use Rattle.outside.proofs.Crash.{left_each, left_goes_on, writes_later, reads_only, settled_left}
use Rattle.outside.proofs.Sectors.{torn_none, torn_weaker}

-- ---- the clauses of one call
pub on_ok : {T E : Type 0} (result : Result T E) (P : Type 0) → P → OnOk result P
on_ok (Ok x) P is = is
on_ok (Err e) P is = tt

-- what reads give after a write that landed
pub write_reads : {T E : Type 0} (old new : History) (b : ℕ) (bytes : List ℕ) (result : Result T E) → WritesBlock old b bytes result new → OnOk result (reads new ≡ set (reads old) b bytes)
write_reads old new b bytes (Ok x) wrote_it = ap reads wrote_it
write_reads old new b bytes (Err e) may = tt

-- a sync changes no read, whether it succeeded or not
pub sync_reads : {T E : Type 0} (old new : History) (result : Result T E) → Syncs old result new → reads new ≡ reads old
sync_reads old new (Ok x) did = ap reads did
sync_reads old new (Err e) same = ap reads same

-- a block that was written stands there
pub set_stands : {T E : Type 0} (result : Result T E) (old new : Image) (n : ℕ) (bytes : List ℕ) → n < length old → OnOk result (new ≡ set old n bytes) → OnOk result (block_at new n ≡ bytes)
set_stands (Ok x) old new n bytes fits is = ap (λ (image : Image). block_at image n) is ∙ get_or-set_same old n bytes [] fits
set_stands (Err e) old new n bytes fits is = tt

-- ---- one phase
-- a phase that writes only among some blocks leaves the others as they were read
module _ (Among : ℕ → Type 0) (old new : History) (only : WritesOnly (λ b _. Among b) old new) where
  pub reads_outside : (b : ℕ) → ¬ Among b → block_at (reads new) b ≡ block_at (reads old) b
  reads_outside b outside = ⊎_elim (λ same. same) (λ among. absurd (outside among)) (reads_only (λ b _. Among b) old new only b)

  -- and where it began settled, so does a crash at any moment of it
  pub left_outside : IsSettled old → (image : Image) → LeftSince (clock old) new image → (length image ≡ length (reads old)) × ((b : ℕ) → ¬ Among b → block_at image b ≡ block_at (reads old) b)
  left_outside settled image left =
      let each = left_each (λ b _. Among b) old new settled only image left in
      (each.0, λ b outside. torn_none (λ _. Among b) (block_at (reads old) b) (block_at image b) (λ _ among. outside among) (each.1 b))

-- A phase that writes block n alone leaves all others as they were read, and of this one each sector as it was read or as in the bytes
-- written.
pub left_one : (n : ℕ) (bytes : List ℕ) (old new : History) → WritesOnly (IsBlock n bytes) old new → IsSettled old → (image : Image) → LeftSince (clock old) new image
    → (length image ≡ length (reads old)) × ((b : ℕ) → b ≢ n → block_at image b ≡ block_at (reads old) b) × IsTorn (λ value. value ≡ bytes) (block_at (reads old) n) (block_at image n)
left_one n bytes old new only settled image left =
    let each = left_each (IsBlock n bytes) old new settled only image left in (
      each.0,
      (λ b other. torn_none (IsBlock n bytes b) (block_at (reads old) b) (block_at image b) (λ value is. other is.0) (each.1 b)),
      torn_weaker (IsBlock n bytes n) (λ value. value ≡ bytes) (block_at (reads old) n) (block_at image n) (λ value is. is.1) (each.1 n),
    )

-- a crash of a phase that wrote nothing leaves what reads gave before it
pub left_unwritten : (old new : History) → IsSettled old → new ≡ old → (image : Image) → LeftSince (clock old) new image → image ≡ reads old
left_unwritten old new settled same image left = settled_left old settled image (subst (λ (h : History). LeftSince (clock old) h image) same left)

-- ---- one phase after another
-- a crash since the first began came before its end, or since it
pub left_then : (P Q : ℕ → List ℕ → Type 0) (first mid last : History) → WritesOnly P first mid → WritesOnly Q mid last → (image : Image) → LeftSince (clock first) last image
    → LeftSince (clock first) mid image ⊎ LeftSince (clock mid) last image
left_then P Q first mid last before after image left = left_goes_on Q (clock first) mid last (writes_later P first mid before) after image left
