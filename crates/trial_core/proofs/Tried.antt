-- A trial, from what is said of its steps.
use Rattle.trial_core.proofs.Imports.{◌≡◌, inl, inr, ⊎_elim, Result, Ok, Err, ℕ, ◌<◌, ◌≤◌, false, ◌&&◌, List, length, map, sym, ◌∙◌, ap, subst, arith, true≢false, IfErr, IsTrue, nat_lt, slice_index, MatchResult, and_parts, Ids, ConvertedVolumesGoBack, History, Image, IsSettled, WritesOnly, after, block_at, reads, synced, Answer, WholeRow, row_of, Row, has, RowsAreOne, used_of, RollbackKeeps, HasBytes, summary_of, TrialSummary, IsMakeAnswer, LeavesRefused, LeavesRound, RefusesRound, RefusesScratch, RefusesTrial, FreeAreBytes, IsRound, IsTrialSummary, IsSampleMade, IsScratch, IsTried, KeepsFree, needed_by, sample_on, trial_summary, synced_now, is_half_turned, shape}
use Rattle.std.proofs.lemmas.Bool.Decides.{Decides-ltb}
use Rattle.reiser_bitmap.proofs.outside.Crash.{reads_only}
use Rattle.reiser_make.specs.Layout.{IsUsed}
use Rattle.reiser_make.specs.Maker.{usage_of}
use Rattle.reiser_make.specs.Places.{is_taken}
use Rattle.reiser_make.specs.Rows.{sample_rows}
use Rattle.reiser_make_laws.specs.Laws.{SamplesMarkUsed}
use Rattle.reiser_make_laws.specs.Rows.{IsAsDescribed, SamplesAreAsDescribed}
use Rattle.trial_core.specs.Laws.{TriesKeep}
use Rattle.trial_core.proofs.Rounds.{gone_back, restored}
use Rattle.trial_core.proofs.Unturned.{not_half_turned}
use Rattle.convert_core.specs.command_answers.declared.answer.Answer.TheVariants as answer

-- ---- what was made

-- what the bitmap has as free was not written
not_used : (needed blocks b : ℕ) → (b < blocks → is_taken needed b ≡ false) → IsTrue (nat_lt b blocks && is_taken needed b) → ⊥
not_used needed blocks b free is =
    let both = and_parts (nat_lt b blocks) (is_taken needed b) is in
    true≢false (sym both.1 ∙ free ((Decides-ltb b blocks).0 both.0))

pub free_kept : SamplesMarkUsed → (number : ℕ) (old new : History) → number ≤ 4000 → needed_by number ≤ 65536 → 65536 ≤ length (reads old) → reads new ≡ sample_on number (reads old)
    → WritesOnly (λ b _. IsUsed (usage_of (shape number false) 65536) b) old new → (b : ℕ) → has (used_of (reads new)) b ≡ false → block_at (reads new) b ≡ block_at (reads old) b
free_kept marks number old new few room long written only b free =
    ⊎_elim (λ same. same)
    (λ used. absurd (not_used (needed_by number) 65536 b
    (λ low. sym (marks number false 65536 (reads old) (record { number_low = few; needed_low = room; blocks_low = omega arith; inside = long }) b low) ∙ subst (λ (image : Image). has (used_of image) b ≡ false) written free) used))
    (reads_only _ old new only b)

synced_settled : (h : History) → IsSettled (after synced h)
synced_settled h = λ b bytes waits. waits

pub made_whole : SamplesAreAsDescribed → SamplesMarkUsed → (number : ℕ) (old mid new : History) → number ≤ 4000 → needed_by number ≤ 65536 → 65536 ≤ length (reads old) → reads mid ≡ sample_on number (reads old)
    → WritesOnly (λ b _. IsUsed (usage_of (shape number false) 65536) b) old mid → new ≡ after synced mid → IsSampleMade number old new
made_whole described marks number old mid new few room long written only settled =
    let is = described number false 65536 (reads old) (record { number_low = few; needed_low = room; blocks_low = omega arith; inside = long }) in
    subst (IsSampleMade number old) (sym settled)
    (record {
      written = written;
      settled = synced_settled mid;
      described = subst (IsAsDescribed number) (sym written) is;
      unturned = ap (λ (image : Image). is_half_turned image) written ∙ not_half_turned number (reads old) room long;
      free = free_kept marks number old mid few room long written only;
    })

pub free_bytes : (number : ℕ) (old new : History) → IsSampleMade number old new → HasBytes (reads old) → FreeAreBytes (reads new)
free_bytes number old new made bytes b free i = subst (λ (block : List ℕ). slice_index block i < 256) (sym (made.free b free)) (bytes b i)

-- ---- what is told

pub told_number : RowsAreOne → (number : ℕ) (old new : History) (told : TrialSummary) → IsSampleMade number old new → IsTrialSummary (reads new) told → told ≡ trial_summary number
told_number one number old new told made (rows, are, is) =
    is ∙ ap (λ (rs : List Row). summary_of rs) (are.2 ∙ ap (λ (whole : List WholeRow). map row_of whole) (one (reads new) made.described.accepted are.0 (sample_rows number) are.1 made.described.rows))

-- ---- what is refused

pub scratch_refuses : (number : ℕ) (disk : Image) (e : Answer) → RefusesScratch disk e → RefusesTrial number disk e
scratch_refuses number disk (answer.Volume r) refused = (refused.0, inl (refused.1, refused.2))
scratch_refuses number disk answer.WrongFormat refused = refused
scratch_refuses number disk answer.Fault refused = tt
scratch_refuses number disk _ refused = absurd refused

pub make_refuses : (number : ℕ) (disk : Image) (e : Answer) → IsScratch disk → IsMakeAnswer number e → RefusesTrial number disk e
make_refuses number disk (answer.NoSpace needed free run_needed longest) scratch known = (scratch, inl known)
make_refuses number disk answer.Fault scratch known = tt
make_refuses number disk answer.Memory scratch known = tt
make_refuses number disk _ scratch known = absurd known

module _ (number : ℕ) (old mid : History) (scratch : IsScratch (reads old)) (room : needed_by number ≤ 65536) (made : IsSampleMade number old mid) where
  pub round_refuses : (e : Answer) → RefusesRound (reads mid) e → RefusesTrial number (reads old) e
  round_refuses (answer.Volume r) refused = (scratch.format, inr (refused.0, scratch.long, λ bytes. refused.1 (free_bytes number old mid made bytes)))
  round_refuses (answer.NoSpace needed free run_needed longest) refused =
      (scratch, inr (room, subst (λ (image : Image). RefusesRound image (answer.NoSpace needed free run_needed longest)) made.written refused))
  round_refuses answer.Fault refused = tt
  round_refuses answer.Memory refused = tt
  round_refuses _ refused = absurd refused

  pub round_leaves : (new : History) (e : Answer) → RefusesRound (reads mid) e → LeavesRound (synced_now mid) new e → LeavesRefused number old new e
  round_leaves new (answer.Volume r) refused leaves = (λ short. absurd (omega (arith, short, scratch.long)), λ bytes. absurd (refused.1 (free_bytes number old mid made bytes)))
  round_leaves new (answer.NoSpace needed free run_needed longest) refused leaves =
      (λ many. absurd (omega (arith, many, room)), λ few. (ap reads leaves ∙ made.written, subst IsSettled (sym leaves) (synced_settled mid)))
  round_leaves new answer.Fault refused leaves = tt
  round_leaves new answer.Memory refused leaves = tt
  round_leaves new _ refused leaves = absurd refused

-- ---- what is left

pub tried : (number : ℕ) (ids : Ids) (now : ℕ) (old mid : History) (other : Image) → IsScratch (reads old) → needed_by number ≤ 65536 → IsSampleMade number old mid → IsRound ids now (reads mid) other → IsTried number ids now (reads old) other
tried number ids now old mid other scratch room made round = record {
  scratch = scratch;
  room = room;
  free = subst (KeepsFree (reads old)) made.written made.free;
  round = subst (λ (image : Image). IsRound ids now image other) made.written round;
}

pub kept : ConvertedVolumesGoBack → RollbackKeeps → SamplesAreAsDescribed → TriesKeep
kept back keeps described number ids now disk other t few low are bytes =
    let sample : Image = sample_on number disk in
    let is = described number false 65536 disk (record { number_low = few; needed_low = t.room; blocks_low = omega arith; inside = t.scratch.long }) in
    let free : FreeAreBytes sample = λ b free i. subst (λ (block : List ℕ). slice_index block i < 256) (sym (t.free b free)) (bytes b i) in
    let goes = gone_back ids now sample t.round.between low are t.round.converted t.round.bytes free back in
    let volume = keeps.back t.round.between other t.round.rolled_back.can t.round.rolled_back.back in
    record {
      accepted = volume.accepted;
      rows = (volume.rows (sample_rows number)).0 ((goes.volume.rows (sample_rows number)).0 is.rows);
      used = restored sample t.round.between other goes t.round.rolled_back;
    }

-- ---- the end

module _ (number : ℕ) (ids : Ids) (now : ℕ) (old mid new : History) (scratch : IsScratch (reads old)) (room : needed_by number ≤ 65536) (made : IsSampleMade number old mid) where
  pub tried_result : RowsAreOne → (result : Result TrialSummary Answer) → MatchResult result (λ told. IsRound ids now (reads mid) (reads new) × IsTrialSummary (reads mid) told) (RefusesRound (reads mid))
      → MatchResult result (λ told. IsTried number ids now (reads old) (reads new) × (told ≡ trial_summary number)) (RefusesTrial number (reads old))
  tried_result one (Ok told) right = (tried number ids now old mid (reads new) scratch room made right.0, told_number one number old mid told made right.1)
  tried_result one (Err e) right = round_refuses number old mid scratch room made e right

  pub leaves_result : (result : Result TrialSummary Answer) → MatchResult result (λ told. IsRound ids now (reads mid) (reads new) × IsTrialSummary (reads mid) told) (RefusesRound (reads mid)) → IfErr result (LeavesRound (synced_now mid) new)
      → IfErr result (LeavesRefused number old new)
  leaves_result (Ok told) right leaves = tt
  leaves_result (Err e) right leaves = round_leaves number old mid scratch room made new e right leaves
