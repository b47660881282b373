-- The answers of a conversion.
use Rattle.convert_core.proofs.Imports.{◌≡◌, ◌≢◌, ◌⊎◌, ℕ, Ok, Err, sym, subst, ⊎_elim, rules, false, ◌∙◌, ap, IfErr, Result, Btrfs, format_in, Image, History, IsSettled, reads, Answer, IsPrepareAnswer, RefusesConversion, Options, IsConvertAnswer, RefusesConvert, IsPutBackAlone, is_half_turned, put_back}
use Rattle.std.specs.Result.{MatchResult}
use Rattle.reiser_volume.specs.outside.Fault.{HasCauseOf}
use Rattle.convert_steps.specs.command_answers.declared.answer.Answer.TheVariants as answer

-- a volume that is not prepared is not converted
pub refuses : (o : Options) (image : Image) (a : Answer) → format_in image ≢ Btrfs → RefusesConversion image o a → RefusesConvert o image a
refuses o image (answer.Volume r) reiser is = (reiser, is)
refuses o image (answer.Btr r) reiser is = is
refuses o image (answer.NoSpace needed free run_needed longest) reiser is = (reiser, is)
refuses o image answer.WrongFormat reiser is = absurd is
refuses o image answer.ImageMissing reiser is = is
refuses o image (answer.ImageMoved block) reiser is = is
refuses o image (answer.ImageDamaged r) reiser is = is
refuses o image (answer.ReservedUsed block) reiser is = is
refuses o image (answer.NotSound part address) reiser is = is
refuses o image (answer.ImageShared tree) reiser is = is
refuses o image answer.Fault reiser is = tt
refuses o image answer.Memory reiser is = tt

-- a failure refuses nothing
pub fails : (image : Image) (o : Options) (a : Answer) → (a ≡ answer.Fault) ⊎ (a ≡ answer.Memory) → RefusesConversion image o a
fails image o a is = ⊎_elim (λ fault. subst (RefusesConversion image o) (sym fault) tt) (λ memory. subst (RefusesConversion image o) (sym memory) tt) is

-- where all errors are failures, whatever is said of other ones holds
pub failed_so : {T : Type 0} (r : Result T Answer) (P : T → Type 0) (Q : Type 0) → MatchResult r P (λ e. (e ≡ answer.Fault) ⊎ (e ≡ answer.Memory)) → IfErr r (λ e. e ≢ answer.Fault → e ≢ answer.Memory → Q)
failed_so (Ok x) P Q is = tt
failed_so (Err e) P Q is = λ fault memory. absurd (⊎_elim fault memory is)

-- an answer that is no fault has the cause of a call that went well
pub keeps_cause : {T X : Type 0} (before now : ℕ) (x : X) (e : Answer) → e ≢ answer.Fault → HasCauseOf {T = X} answer.Fault before now (Ok x) → HasCauseOf {T = T} answer.Fault before now (Err e)
keeps_cause before now x e other is = record { later = is.later; failed = λ same. search rules; kept = λ _. is.kept (λ same. search rules) }

-- a refusal changes nothing but what was put back
pub refused_alone : {T : Type 0} (result : Result T Answer) (old mid new : History) → reads mid ≡ put_back (reads old) → (is_half_turned (reads old) ≡ false → mid ≡ old) → (IsSettled old → IsSettled mid)
    → IfErr result (λ e. e ≢ answer.Fault → e ≢ answer.Memory → new ≡ mid) → IfErr result (λ e. e ≢ answer.Fault → e ≢ answer.Memory → IsPutBackAlone old new)
refused_alone (Ok x) old mid new put same settled kept = tt
refused_alone (Err e) old mid new put same settled kept = λ other some.
    record { put = ap reads (kept other some) ∙ put; same = λ none. kept other some ∙ same none; settled = λ before. subst IsSettled (sym (kept other some)) (settled before) }
