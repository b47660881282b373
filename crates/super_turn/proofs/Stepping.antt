-- Block 16 is written step by step: what stands behind each, and what a crash of it leaves.
use Rattle.super_turn.proofs.Imports.{◌≡◌, ◌≢◌, ◌⊎◌, inl, inr, ⊎_elim, ℕ, ◌<◌, List, [], length, set, IsTrue, Result, Ok, Err, OnOk, refl, sym, ◌∙◌, ap, subst, get_or-set_same, get_or-set_other, length-set, History, Image, IsBlock, IsSettled, IsTorn, LeftSince, WritesOnly, block_at, clock, reads, left_one, left_then, IsStep, StandsWith, SUPER_BLOCK}
use Rattle.outside.proofs.Crash.{writes_none, writes_weaker}
use Rattle.outside.specs.Writes.{View, Writes}

-- a write of block 16
abbrev pub IsSuperWrite : ℕ → List ℕ → Type 0
IsSuperWrite b bytes = b ≡ 16

pub stands_start : (start : Image) → StandsWith (block_at start SUPER_BLOCK) start start
stands_start start = record { size = refl; others = λ b other. refl; superblock = refl }

module _ (from to : List ℕ) (start : Image) (h h' : History) (stands : StandsWith from start (reads h)) where
  pub step_stands : 16 < length (reads h) → reads h' ≡ set (reads h) 16 to → StandsWith to start (reads h')
  step_stands long is = record {
    size = ap (λ (i : Image). length i) is ∙ length-set (reads h) 16 to ∙ stands.size;
    others = λ b other. ap (λ (i : Image). block_at i b) is ∙ get_or-set_other (reads h) 16 b to [] other ∙ stands.others b other;
    superblock = ap (λ (i : Image). block_at i SUPER_BLOCK) is ∙ get_or-set_same (reads h) 16 to [] long;
  }

  pub step_crash : IsSettled h → WritesOnly (IsBlock 16 to) h h' → (image : Image) → LeftSince (clock h) h' image → IsStep from to start image
  step_crash settled only image left =
      let one = left_one 16 to h h' only settled image left in
      record {
        size = one.0 ∙ stands.size;
        others = λ b other. one.1 b other ∙ stands.others b other;
        torn = subst (λ (bytes : List ℕ). IsTorn (λ value. value ≡ to) bytes (block_at image SUPER_BLOCK)) stands.superblock one.2;
      }

-- two steps, of which the first stands
pub two_crash : (a b : List ℕ) (h₀ h₁ h₂ : History) → IsSettled h₀ → WritesOnly (IsBlock 16 a) h₀ h₁ → IsSettled h₁ → StandsWith a (reads h₀) (reads h₁) → WritesOnly (IsBlock 16 b) h₁ h₂
    → (image : Image) → LeftSince (clock h₀) h₂ image → IsStep (block_at (reads h₀) 16) a (reads h₀) image ⊎ IsStep a b (reads h₀) image
two_crash a b h₀ h₁ h₂ settled₀ only₁ settled₁ stands only₂ image left =
    ⊎_elim
    (λ early. inl (step_crash (block_at (reads h₀) 16) a (reads h₀) h₀ h₁ (stands_start (reads h₀)) settled₀ only₁ image early))
    (λ late. inr (step_crash a b (reads h₀) h₁ h₂ stands settled₁ only₂ image late))
    (left_then (IsBlock 16 a) (IsBlock 16 b) h₀ h₁ h₂ only₁ only₂ image left)

-- and one more
pub three_crash : (a b c : List ℕ) (h₀ h₂ h₃ : History) → WritesOnly IsSuperWrite h₀ h₂ → IsSettled h₂ → StandsWith b (reads h₀) (reads h₂) → WritesOnly (IsBlock 16 c) h₂ h₃
    → ((image : Image) → LeftSince (clock h₀) h₂ image → IsStep (block_at (reads h₀) 16) a (reads h₀) image ⊎ IsStep a b (reads h₀) image)
    → (image : Image) → LeftSince (clock h₀) h₃ image → IsStep (block_at (reads h₀) 16) a (reads h₀) image ⊎ (IsStep a b (reads h₀) image ⊎ IsStep b c (reads h₀) image)
three_crash a b c h₀ h₂ h₃ only₂ settled₂ stands only₃ two image left =
    ⊎_elim
    (λ early. ⊎_elim (λ first. inl first) (λ second. inr (inl second)) (two image early))
    (λ late. inr (inr (step_crash b c (reads h₀) h₂ h₃ stands settled₂ only₃ image late)))
    (left_then IsSuperWrite (IsBlock 16 c) h₀ h₂ h₃ only₂ only₃ image left)

-- what was written stands, where it was
pub step_written : {T E : Type 0} (result : Result T E) (from to : List ℕ) (start : Image) (h h' : History) → StandsWith from start (reads h) → 16 < length (reads h)
    → OnOk result (reads h' ≡ set (reads h) 16 to) → OnOk result (StandsWith to start (reads h'))
step_written (Ok x) from to start h h' stands long is = step_stands from to start h h' stands long is
step_written (Err e) from to start h h' stands long is = tt

-- a call that only read
pub same_writes : {D : Type 0} {d : View D} {P : ℕ → List ℕ → Type 0} {a b : D} → d.opened b ≡ d.opened a → d.size b ≡ d.size a → d.borrow b ≡ d.borrow a
    → (IsTrue d.tells → d.history b ≡ d.history a) → Writes d P a b
same_writes {D} {d} {P} {a} {b} opened size borrow same = record {
  opened = opened;
  size = size;
  borrow = borrow;
  only = λ tells. subst (λ (h : History). WritesOnly P (d.history a) h) (sym (same tells)) (writes_none P (d.history a));
}
