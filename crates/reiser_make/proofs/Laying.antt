-- Blocks that are laid over an image, one after the other, and the writes that do it.
use Rattle.reiser_make.proofs.Imports.{◌≡◌, ◌≤◌, ◌<◌, ℕ, ◌+◌, List, [], ◌∷◌, ◌++◌, map, refl, sym, ap, subst, ◌∙◌, arith, Option, Result, Ok, slice_set, range_with_len, map-range_with_len_more, History, Image, reads, after, wrote, WritesBlock, WritesOnly, write_only, writes_none, writes_then, Placed, laid_over}
use Rattle.std.specs.Prelude.{true}
use Rattle.fs_rows.specs.outside.declared.disk.Access.{Access}

pub laid_over-append : (ps qs : List Placed) (image : Image) → laid_over (ps ++ qs) image ≡ laid_over qs (laid_over ps image)
laid_over-append [] qs image = refl
laid_over-append (p ∷ ps) qs image = laid_over-append ps qs (slice_set image p.0 p.1)

-- From an old state of a disk to a new one only used blocks were written, and reads give these blocks laid over what they
-- gave.
pub record Goes (tells : Type 0) (used : ℕ → Type 0) (open_old open_new : Option Access) (size_old size_new faults_old faults_new : ℕ) (old new : History) (parts : List Placed) : Type 0 where
  pub access : open_new ≡ open_old
  pub size : size_new ≡ size_old
  pub faults : faults_new ≡ faults_old
  pub only : tells → WritesOnly (λ b _. used b) old new
  pub written : tells → reads new ≡ laid_over parts (reads old)

pub goes_none : (tells : Type 0) (used : ℕ → Type 0) (access : Option Access) (size faults : ℕ) (h : History) → Goes tells used access access size size faults faults h h []
goes_none tells used access size faults h = record { access = refl; size = refl; faults = refl; only = λ t. writes_none (λ b _. used b) h; written = λ t. refl }

module _ (tells : Type 0) (used : ℕ → Type 0) (o₀ o₁ o₂ : Option Access) (s₀ s₁ s₂ f₀ f₁ f₂ : ℕ) (h₀ h₁ h₂ : History) where
  -- one block of a row more
  pub goes_more : (f : ℕ → Placed) (a n k b : ℕ) (bytes : List ℕ) → Goes tells used o₀ o₁ s₀ s₁ f₀ f₁ h₀ h₁ (map f (range_with_len a n)) → a + n ≡ k
      → used b → (b, bytes) ≡ f k → o₂ ≡ o₁ → s₂ ≡ s₁ → f₂ ≡ f₁ → (tells → h₂ ≡ after (wrote b bytes true) h₁)
      → Goes tells used o₀ o₂ s₀ s₂ f₀ f₂ h₀ h₂ (map f (range_with_len a (n + 1)))
  goes_more f a n k b bytes before is in_use placed opened sized same done = record {
    access = opened ∙ before.access;
    size = sized ∙ before.size;
    faults = same ∙ before.faults;
    only = λ t. writes_then (λ b _. used b) h₀ h₁ h₂ (before.only t) (write_only (λ b _. used b) {T = Unit {0}} {E = Unit {0}} h₁ h₂ b bytes (Ok tt) in_use (done t));
    written = λ t.
        ap reads (done t)
        ∙ ap (λ image. slice_set image b bytes) (before.written t)
        ∙ ap (λ (p : Placed). slice_set (laid_over (map f (range_with_len a n)) (reads h₀)) p.0 p.1) placed
        ∙ sym (laid_over-append (map f (range_with_len a n)) (f k ∷ []) (reads h₀))
        ∙ sym (ap (λ ps. laid_over ps (reads h₀)) (map-range_with_len_more f a n k is));
  }

  -- the same with the count as it is written elsewhere
  pub goes_more_to : (f : ℕ → Placed) (a n next k b : ℕ) (bytes : List ℕ) → n + 1 ≡ next → Goes tells used o₀ o₁ s₀ s₁ f₀ f₁ h₀ h₁ (map f (range_with_len a n)) → a + n ≡ k
      → used b → (b, bytes) ≡ f k → o₂ ≡ o₁ → s₂ ≡ s₁ → f₂ ≡ f₁ → (tells → h₂ ≡ after (wrote b bytes true) h₁)
      → Goes tells used o₀ o₂ s₀ s₂ f₀ f₂ h₀ h₂ (map f (range_with_len a next))
  goes_more_to f a n next k b bytes to before is in_use placed opened sized same done =
      subst (λ m. Goes tells used o₀ o₂ s₀ s₂ f₀ f₂ h₀ h₂ (map f (range_with_len a m))) to (goes_more f a n k b bytes before is in_use placed opened sized same done)

  -- some blocks more
  pub goes_on : (ps qs all : List Placed) → ps ++ qs ≡ all → Goes tells used o₀ o₁ s₀ s₁ f₀ f₁ h₀ h₁ ps → o₂ ≡ o₁ → s₂ ≡ s₁ → f₂ ≡ f₁
      → (tells → WritesOnly (λ b _. used b) h₁ h₂) → (tells → reads h₂ ≡ laid_over qs (reads h₁)) → Goes tells used o₀ o₂ s₀ s₂ f₀ f₂ h₀ h₂ all
  goes_on ps qs all to before opened sized same only written = record {
    access = opened ∙ before.access;
    size = sized ∙ before.size;
    faults = same ∙ before.faults;
    only = λ t. writes_then (λ b _. used b) h₀ h₁ h₂ (before.only t) (only t);
    written = λ t. written t ∙ ap (laid_over qs) (before.written t) ∙ sym (laid_over-append ps qs (reads h₀)) ∙ ap (λ z. laid_over z (reads h₀)) to;
  }

-- a last write that may have failed
pub only_more : (tells : Type 0) (used : ℕ → Type 0) (o₀ o₁ : Option Access) (s₀ s₁ f₀ f₁ : ℕ) (h₀ h₁ h₂ : History) {T E : Type 0} (ps : List Placed) (b : ℕ) (bytes : List ℕ) (result : Result T E)
    → Goes tells used o₀ o₁ s₀ s₁ f₀ f₁ h₀ h₁ ps → used b → (tells → WritesBlock h₁ b bytes result h₂) → tells → WritesOnly (λ b _. used b) h₀ h₂
only_more tells used o₀ o₁ s₀ s₁ f₀ f₁ h₀ h₁ h₂ ps b bytes result before in_use effect t =
    writes_then (λ b _. used b) h₀ h₁ h₂ (before.only t) (write_only (λ b _. used b) h₁ h₂ b bytes result in_use (effect t))

-- a last part that may have failed
pub only_on : (tells : Type 0) (used : ℕ → Type 0) (o₀ o₁ : Option Access) (s₀ s₁ f₀ f₁ : ℕ) (h₀ h₁ h₂ : History) (ps : List Placed)
    → Goes tells used o₀ o₁ s₀ s₁ f₀ f₁ h₀ h₁ ps → (tells → WritesOnly (λ b _. used b) h₁ h₂) → tells → WritesOnly (λ b _. used b) h₀ h₂
only_on tells used o₀ o₁ s₀ s₁ f₀ f₁ h₀ h₁ h₂ ps before only t = writes_then (λ b _. used b) h₀ h₁ h₂ (before.only t) (only t)

-- a block is on the disk
pub in_range : (b needed used blocks size_old size_new : ℕ) → b < needed → used ≡ needed → used ≤ blocks → blocks ≤ size_old → size_new ≡ size_old → b < size_new
in_range b needed used blocks size_old size_new lt is fits inside same = omega arith

-- five parts, one after the other
pub laid_five : (a b c d e : List Placed) (i₀ i₁ i₂ i₃ i₄ i₅ : Image) → i₁ ≡ laid_over a i₀ → i₂ ≡ laid_over b i₁ → i₃ ≡ laid_over c i₂ → i₄ ≡ laid_over d i₃ → i₅ ≡ laid_over e i₄
    → i₅ ≡ laid_over (a ++ (b ++ (c ++ (d ++ e)))) i₀
laid_five a b c d e i₀ i₁ i₂ i₃ i₄ i₅ is₁ is₂ is₃ is₄ is₅ =
    is₅ ∙ ap (laid_over e) is₄ ∙ sym (laid_over-append d e i₃)
    ∙ ap (laid_over (d ++ e)) is₃ ∙ sym (laid_over-append c (d ++ e) i₂)
    ∙ ap (laid_over (c ++ (d ++ e))) is₂ ∙ sym (laid_over-append b (c ++ (d ++ e)) i₁)
    ∙ ap (laid_over (b ++ (c ++ (d ++ e)))) is₁ ∙ sym (laid_over-append a (b ++ (c ++ (d ++ e))) i₀)
