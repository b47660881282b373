-- Block 16 is written as it stands, and what is written after it.
use Rattle.rollback_core.proofs.Imports.{◌≡◌, ◌≢◌, ◌⊎◌, inl, inr, ⊎_elim, ℕ, zero, suc, ◌+◌, ◌<◌, true, List, [], ◌∷◌, Option, Some, None, Result, Ok, Err, OnOk, refl, sym, ◌∙◌, ap, subst, arith, false, IfOk, is_some, IfErr, ext_get_or, FIRST_MIRROR, SECOND_MIRROR, History, IsSettled, Syncs, WritesBlock, WritesOnly, after, block_at, reads, wrote, synced, Block, reads_only, sync_only, write_only, writes_length, writes_none, writes_then, writes_weaker, GoesOn, synced_now, goes_on, HasMendingRoom, writes_of, IsMend, IsRecoverWrite, IsRewrite, RewritesFirst, rewritten, PutsBackFirst, Mending, RecoverSummary, Answer, IsPutBackAlone, is_half_turned, put_back}
use Rattle.convert_steps.specs.command_answers.declared.answer.Answer.TheVariants as answer

-- ---- block 16

-- no read changes
pub rewrite_reads : (old new : History) → WritesOnly (IsRewrite (reads old)) old new → reads new ≡ reads old
rewrite_reads old new only =
    ext_get_or [] (reads new) (reads old) (writes_length (IsRewrite (reads old)) old new only)
    (λ b below. ⊎_elim (λ same. same) (λ again. again.1 ∙ ap (block_at (reads old)) (sym again.0)) (reads_only (IsRewrite (reads old)) old new only b))

module _ (old read written new : History) (bytes : List ℕ) (same : read ≡ old) (as_read : bytes ≡ block_at (reads old) 16) where
  -- it is written, or not
  pub write_again_only : {T E : Type 0} (result : Result T E) → WritesBlock read 16 bytes result written → WritesOnly (IsRewrite (reads old)) old written
  write_again_only result did =
      subst (λ (h : History). WritesOnly (IsRewrite (reads old)) h written) same (write_only (IsRewrite (reads old)) read written 16 bytes result (refl, as_read) did)

  -- and synced
  pub sync_again_only : {T E : Type 0} (result : Result T E) → WritesOnly (IsRewrite (reads old)) old written → Syncs written result new → WritesOnly (IsRewrite (reads old)) old new
  sync_again_only result before did = writes_then (IsRewrite (reads old)) old written new before (sync_only (IsRewrite (reads old)) written new result did)

  pub written_again : {T E : Type 0} (result : Result T E) → written ≡ after (wrote 16 bytes true) read → Syncs written result new → OnOk result (new ≡ rewritten old)
  written_again (Ok done) wrote_it did =
      did ∙ ap (after synced) (wrote_it ∙ ap (after (wrote 16 bytes true)) same ∙ ap (λ (written : List ℕ). after (wrote 16 written true) old) as_read)
  written_again (Err failed) wrote_it did = tt

-- ---- and what comes after it

rewritten_only : (old : History) → WritesOnly (IsRewrite (reads old)) old (rewritten old)
rewritten_only old =
    writes_then (IsRewrite (reads old)) old (after (wrote 16 (block_at (reads old) 16) true) old) (rewritten old)
    (record { more = wrote 16 (block_at (reads old) 16) true ∷ []; is = refl; each = ((refl, refl), tt) })
    (record { more = synced ∷ []; is = refl; each = tt })

module _ (P : ℕ → List ℕ → Type 0) (old new : History) where
  -- all that is written
  pub first_only : RewritesFirst P old new → WritesOnly (λ b bytes. IsRewrite (reads old) b bytes ⊎ P b bytes) old new
  first_only (inl only) = writes_weaker (IsRewrite (reads old)) (λ b bytes. IsRewrite (reads old) b bytes ⊎ P b bytes) (λ b bytes is. inl is) old new only
  first_only (inr rest) =
      writes_then (λ b bytes. IsRewrite (reads old) b bytes ⊎ P b bytes) old (rewritten old) new
      (writes_weaker (IsRewrite (reads old)) (λ b bytes. IsRewrite (reads old) b bytes ⊎ P b bytes) (λ b bytes is. inl is) old (rewritten old) (rewritten_only old))
      (writes_weaker P (λ b bytes. IsRewrite (reads old) b bytes ⊎ P b bytes) (λ b bytes is. inr is) (rewritten old) new rest)

  pub first_weaker : (Q : ℕ → List ℕ → Type 0) → ((b : ℕ) (bytes : List ℕ) → P b bytes → Q b bytes) → RewritesFirst P old new → RewritesFirst Q old new
  first_weaker Q turn (inl only) = inl only
  first_weaker Q turn (inr rest) = inr (writes_weaker P Q turn (rewritten old) new rest)

  -- nothing was written
  pub first_none : new ≡ old → RewritesFirst P old new
  first_none same = inl (subst (WritesOnly (IsRewrite (reads old)) old) (sym same) (writes_none (IsRewrite (reads old)) old))

  -- block 16 stands again, and these writes came after it
  pub first_then : (mid : History) → mid ≡ rewritten old → WritesOnly P mid new → RewritesFirst P old new
  first_then mid is rest = inr (subst (λ (h : History). WritesOnly P h new) is rest)

-- ---- the whole of `recover`

-- where the first sync failed
pub uncalled_only : (old new : History) → new ≡ old → WritesOnly (IsRecoverWrite (reads old)) old new
uncalled_only old new same = subst (WritesOnly (IsRecoverWrite (reads old)) old) (sym same) (writes_none (IsRecoverWrite (reads old)) old)

-- what is put back first, and then mended
puts_only : (old new : History) → PutsBackFirst old new → WritesOnly (IsRecoverWrite (reads old)) old new
puts_only old new (inl only) = writes_weaker (λ b bytes. b ≡ 16) (IsRecoverWrite (reads old)) (λ b bytes is. inl is) old new only
puts_only old new (inr rest) =
    let mend : ℕ → List ℕ → Type 0 = IsMend (put_back (reads old)) in
    writes_then (IsRecoverWrite (reads old)) old rest.0 new
    (writes_weaker (λ b bytes. b ≡ 16) (IsRecoverWrite (reads old)) (λ b bytes is. inl is) old rest.0 rest.1)
    (writes_weaker (λ b bytes. IsRewrite (reads rest.0) b bytes ⊎ mend b bytes) (IsRecoverWrite (reads old)) (λ b bytes is. ⊎_elim (λ again. inl again.0) (λ mends. inr mends) is) rest.0 new
    (first_only mend rest.0 new rest.3))

pub puts_goes_on : (old new : History) → PutsBackFirst old new → GoesOn old new
puts_goes_on old new puts = goes_on (IsRecoverWrite (reads old)) old new (puts_only old new puts)

-- and where the first sync did not fail
pub called_only : (old mid new : History) → mid ≡ synced_now old → PutsBackFirst mid new → WritesOnly (IsRecoverWrite (reads old)) old new
called_only old mid new is puts =
    let rest = subst (λ (h : History). PutsBackFirst h new) is puts in
    writes_then (IsRecoverWrite (reads old)) old (synced_now old) new (record { more = synced ∷ []; is = refl; each = tt }) (puts_only (synced_now old) new rest)

-- all has reached the device, whether or not a copy was to be written
settled_by : (n : ℕ) (mid new : History) → IsSettled mid → (n ≡ 0 → new ≡ mid) → (n ≢ 0 → IsSettled new) → IsSettled new
settled_by zero mid new before unwritten settled = subst IsSettled (sym (unwritten refl)) before
settled_by (suc n) mid new before unwritten settled = settled (λ none. absurd (omega (arith, none)))

pub settled_told : {E : Type 0} (result : Result RecoverSummary E) (mid new : History) → IsSettled mid
    → IfOk result (λ told. told.mirrors ≡ 0 → new ≡ mid) → IfOk result (λ told. told.mirrors ≢ 0 → IsSettled new) → OnOk result (IsSettled new)
settled_told (Ok told) mid new before unwritten settled = settled_by told.mirrors mid new before unwritten settled
settled_told (Err e) mid new before unwritten settled = tt

-- a refusal changes nothing but what was put back
pub refused_alone : {T : Type 0} (result : Result T Answer) (old mid new : History) → reads mid ≡ put_back (reads old) → (is_half_turned (reads old) ≡ false → mid ≡ old) → (IsSettled old → IsSettled mid)
    → IfErr result (λ e. e ≢ answer.Fault → new ≡ mid) → IfErr result (λ e. e ≢ answer.Fault → IsPutBackAlone old new)
refused_alone (Ok x) old mid new put same settled kept = tt
refused_alone (Err e) old mid new put same settled kept = λ other.
    record { put = ap reads (kept other) ∙ put; same = λ none. kept other ∙ same none; settled = λ before. subst IsSettled (sym (kept other)) (settled before) }
