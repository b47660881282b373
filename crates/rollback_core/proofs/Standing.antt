-- What is written, and what a crash leaves of it.
use Rattle.rollback_core.proofs.Imports.{◌≡◌, ◌∙◌, ◌⊎◌, inl, inr, ⊎_elim, ℕ, true, ◌+◌, ◌<◌, List, length, Option, Some, None, Result, OnOk, refl, sym, ap, subst, arith, Bool, false, true≢false, IsSomeAnd, is_some, FIRST_MIRROR, SECOND_MIRROR, format_in, History, Image, IsSettled, LeftSince, WritesBlock, WritesOnly, block_at, clock, reads, IsTorn, sector, left_each, reads_only, write_only, writes_length, writes_then, writes_weaker, set_stands, write_reads, IsMirror, Block, Format, given, is_torn, mended, IsGiven, IsGivenAt, IsGivenOrRewrite, IsPlanned, MendingStands, writes_of, IsMend, IsPartly, IsRecovered, copy_blocks, recover_summary, Mending, RecoverSummary}
use Rattle.std.specs.Prelude.{filter}
use Rattle.reiser_bitmap.proofs.outside.Sectors.{sectors_same}
use Rattle.rollback_core.proofs.Mended.{mirror_or, two_of}

some_given : (found : Option Block) (bytes old wanted : List ℕ) → IsSomeAnd found (λ block. bytes ≡ block.bytes) → given found old ≡ wanted → bytes ≡ wanted
some_given None bytes old wanted is gives = absurd is
some_given (Some block) bytes old wanted is gives = is ∙ gives

abbrev told_of : Format → ℕ → RecoverSummary
told_of format n = record { format = format; mirrors = n }

some_there : (found : Option Block) (bytes : List ℕ) → IsSomeAnd found (λ block. bytes ≡ block.bytes) → is_some found ≡ true
some_there None bytes is = absurd is
some_there (Some block) bytes is = refl

module _ (image : Image) (m : Mending) (planned : IsPlanned image m) where
  -- what is written goes to the blocks of copies, and is what is to stand there
  given_mended : (b : ℕ) (bytes : List ℕ) → IsGiven m b bytes → IsMirror b × (bytes ≡ mended image b)
  given_mended b bytes is =
      ⊎_elim
      (λ one. (inl one.0, some_given m.first bytes (block_at image FIRST_MIRROR) (mended image FIRST_MIRROR) one.1 planned.first.bytes_are ∙ ap (mended image) (sym one.0)))
      (λ two. (inr two.0, some_given m.second bytes (block_at image SECOND_MIRROR) (mended image SECOND_MIRROR) two.1 planned.second.bytes_are ∙ ap (mended image) (sym two.0)))
      is

  -- and it is written only where something else stands
  pub given_mend : (b : ℕ) (bytes : List ℕ) → IsGiven m b bytes → IsMend image b bytes
  given_mend b bytes is = record {
    mirror = (given_mended b bytes is).0;
    torn = ⊎_elim
        (λ one. subst (λ (n : ℕ). is_torn image n ≡ true) (sym one.0) (sym planned.first.needed ∙ some_there m.first bytes one.1))
        (λ two. subst (λ (n : ℕ). is_torn image n ≡ true) (sym two.0) (sym planned.second.needed ∙ some_there m.second bytes two.1)) is;
    bytes_are = (given_mended b bytes is).1;
  }

  -- a block that is not to change stays, though block 16 is written as it stands
  stays_torn : (other : Image) (b : ℕ) → ((bytes : List ℕ) → IsGiven m b bytes → ⊥) → IsTorn (IsGivenOrRewrite image m b) (block_at image b) (block_at other b) → block_at other b ≡ block_at image b
  stays_torn other b never torn =
      sectors_same (block_at other b) (block_at image b)
      (λ s. ⊎_elim (λ same. same)
      (λ value. ⊎_elim (λ again. value.2 ∙ ap (λ (bytes : List ℕ). sector bytes s) (again.1 ∙ ap (block_at image) (sym again.0))) (λ given. absurd (never value.0 given)) value.1)
      (torn s))

  -- so a block is as it was, or it is to change
  torn_partly : (other : Image) (b : ℕ) → IsTorn (IsGivenOrRewrite image m b) (block_at image b) (block_at other b) → (block_at other b ≡ block_at image b) ⊎ (IsMirror b × (is_torn image b ≡ true))
  torn_partly other b torn =
      ⊎_elim
      (λ mirror. by mirror (is_torn image b) refl)
      (λ outside. inl (stays_torn other b (λ bytes given. outside (given_mended b bytes given).0) torn))
      (mirror_or b)
    where
      by : IsMirror b → (t : Bool) → is_torn image b ≡ t → (block_at other b ≡ block_at image b) ⊎ (IsMirror b × (is_torn image b ≡ true))
      by mirror true is = inr (mirror, is)
      by mirror false is = inl (stays_torn other b (λ bytes given. true≢false (sym (given_mend b bytes given).torn ∙ is)) torn)

  -- block 16 stays where it is written as it stands
  kept_or_given : (other : Image) (b : ℕ) → (block_at other b ≡ block_at image b) ⊎ IsGivenOrRewrite image m b (block_at other b)
      → (block_at other b ≡ block_at image b) ⊎ IsGiven m b (block_at other b)
  kept_or_given other b is = ⊎_elim (λ same. inl same) (λ written. ⊎_elim (λ again. inl (again.1 ∙ ap (block_at image) (sym again.0))) (λ given. inr given) written) is

  module _ (h₀ h₁ : History) (start : reads h₀ ≡ image) (only : WritesOnly (IsGivenOrRewrite image m) h₀ h₁) where
    pub crash_partly : IsSettled h₀ → (other : Image) → LeftSince (clock h₀) h₁ other → IsPartly image other
    crash_partly settled other left =
        let each = left_each (IsGivenOrRewrite image m) h₀ h₁ settled only other left in
        record {
          size = each.0 ∙ ap (λ (i : Image). length i) start;
          each = λ b. torn_partly other b (subst (λ (i : Image). IsTorn (IsGivenOrRewrite image m b) (block_at i b) (block_at other b)) start (each.1 b));
        }

    pub recovers : MendingStands m (reads h₀) (reads h₁) → IsRecovered image (reads h₁)
    recovers stands = record {
      can = planned.can;
      size = writes_length (IsGivenOrRewrite image m) h₀ h₁ only ∙ ap (λ (i : Image). length i) start;
      copies = λ b mirror. ⊎_elim
          (λ one. subst (λ (n : ℕ). block_at (reads h₁) n ≡ mended image n) (sym one)
          (stands.first ∙ (ap (λ (i : Image). given m.first (block_at i FIRST_MIRROR)) start ∙ planned.first.bytes_are)))
          (λ two. subst (λ (n : ℕ). block_at (reads h₁) n ≡ mended image n) (sym two)
          (stands.second ∙ (ap (λ (i : Image). given m.second (block_at i SECOND_MIRROR)) start ∙ planned.second.bytes_are)))
          mirror;
      others = λ b outside. ⊎_elim (λ same. same) (λ is. absurd (outside (given_mended b (block_at (reads h₁) b) is).0))
          (kept_or_given (reads h₁) b (⊎_elim (λ same. inl (same ∙ ap (λ (i : Image). block_at i b) start)) (λ is. inr is) (reads_only (IsGivenOrRewrite image m) h₀ h₁ only b)));
    }

  -- the blocks that are written are those that are to change
  pub counts : writes_of m.first + writes_of m.second ≡ length (filter (is_torn image) copy_blocks)
  counts = sym (two_of (is_torn image) (is_some m.first) (is_some m.second) (sym planned.first.needed) (sym planned.second.needed))

  pub summary_is : (n : ℕ) → n ≡ writes_of m.first + writes_of m.second → told_of m.format n ≡ recover_summary image
  summary_is n is = ap (λ (f : Format). told_of f n) planned.format ∙ ap (λ (k : ℕ). told_of (format_in image) k) (is ∙ counts)

-- ---- one block, if there is one to be written
module _ (place : ℕ) (block : Block) (h₀ h₁ : History) {T E : Type 0} (result : Result T E) where
  pub some_only : WritesBlock h₀ place block.bytes result h₁ → WritesOnly (IsGivenAt place (Some block)) h₀ h₁
  some_only did = write_only (IsGivenAt place (Some block)) h₀ h₁ place block.bytes result (refl, refl) did

-- ---- both
module _ (m : Mending) where
  pub first_part : (h₀ h₁ : History) → WritesOnly (IsGivenAt FIRST_MIRROR m.first) h₀ h₁ → WritesOnly (IsGiven m) h₀ h₁
  first_part = writes_weaker (IsGivenAt FIRST_MIRROR m.first) (IsGiven m) (λ b bytes is. inl is)

  pub second_part : (h₀ h₁ : History) → WritesOnly (IsGivenAt SECOND_MIRROR m.second) h₀ h₁ → WritesOnly (IsGiven m) h₀ h₁
  second_part = writes_weaker (IsGivenAt SECOND_MIRROR m.second) (IsGiven m) (λ b bytes is. inr is)

  pub both_parts : (h₀ h₁ h₂ : History) → WritesOnly (IsGivenAt FIRST_MIRROR m.first) h₀ h₁ → WritesOnly (IsGivenAt SECOND_MIRROR m.second) h₁ h₂ → WritesOnly (IsGiven m) h₀ h₂
  both_parts h₀ h₁ h₂ one two = writes_then (IsGiven m) h₀ h₁ h₂ (first_part h₀ h₁ one) (second_part h₁ h₂ two)

  -- each stands, since the other is written elsewhere
  pub both_stand : (h₀ h₁ h₂ : History) → WritesOnly (IsGivenAt FIRST_MIRROR m.first) h₀ h₁ → WritesOnly (IsGivenAt SECOND_MIRROR m.second) h₁ h₂
      → block_at (reads h₁) FIRST_MIRROR ≡ given m.first (block_at (reads h₀) FIRST_MIRROR) → block_at (reads h₂) SECOND_MIRROR ≡ given m.second (block_at (reads h₁) SECOND_MIRROR) → MendingStands m (reads h₀) (reads h₂)
  both_stand h₀ h₁ h₂ one two first second = record {
    first = elsewhere SECOND_MIRROR m.second h₁ h₂ two FIRST_MIRROR (λ eq. omega (arith, eq)) ∙ first;
    second = second ∙ ap (given m.second) (elsewhere FIRST_MIRROR m.first h₀ h₁ one SECOND_MIRROR (λ eq. omega (arith, eq)));
  }
    where
      elsewhere : (place : ℕ) (found : Option Block) (a b : History) → WritesOnly (IsGivenAt place found) a b → (n : ℕ) → ¬ (n ≡ place) → block_at (reads b) n ≡ block_at (reads a) n
      elsewhere place found a b only n other = ⊎_elim (λ same. same) (λ is. absurd (other is.0)) (reads_only (IsGivenAt place found) a b only n)
