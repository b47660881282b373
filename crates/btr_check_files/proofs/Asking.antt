-- What an answer tells where a rule was asked.
use Rattle.btr_check_files.proofs.Imports.{◌≡◌, ℕ, Bool, true, false, Option, None, Some, Result, Ok, Err, MatchResult, sym, subst, MatchOption}
use Rattle.std.specs.Result.{IfErr, OnOk}
use Rattle.btr_check_walk.specs.Parts.{IsVisitAnswer, TellsPart}
use Rattle.btr_check_walk.specs.command_answers.declared.answer.Answer.{Answer}
use Rattle.btr_check_walk.specs.command_answers.declared.answer.Answer.TheVariants as answers

pub asked : {T : Type 0} (r : Result T Answer) (kept : Bool) (part a : ℕ) (P : Type 0) (Q : ℕ → ℕ → Type 0) → OnOk r (kept ≡ true) → IfErr r (λ e. (kept ≡ false) × (e ≡ answers.NotSound part a))
    → (kept ≡ true → P) → (kept ≡ false → Q part a) → MatchResult r (λ _. P) (TellsPart Q)
asked (Ok x) kept part a P Q ok err good bad = good ok
asked (Err e) kept part a P Q ok err good bad = subst (TellsPart Q) (sym err.1) (bad err.0)

pub asked_none : {T : Type 0} (r : Result T Answer) (found : Option ℕ) (part : ℕ) (P : Type 0) (Q : ℕ → ℕ → Type 0) → OnOk r (found ≡ None)
    → IfErr r (λ e. (a : ℕ) × (found ≡ Some a) × (e ≡ answers.NotSound part a)) → MatchOption found P (Q part) → MatchResult r (λ _. P) (TellsPart Q)
asked_none (Ok x) found part P Q ok err told = subst (λ (o : Option ℕ). MatchOption o P (Q part)) ok told
asked_none (Err e) found part P Q ok err told = subst (TellsPart Q) (sym err.2) (subst (λ (o : Option ℕ). MatchOption o P (Q part)) err.1 told)

pub asked_visit : {T : Type 0} (r : Result T Answer) (kept : Bool) (part a : ℕ) → IfErr r (λ e. (kept ≡ false) × (e ≡ answers.NotSound part a)) → IfErr r IsVisitAnswer
asked_visit (Ok x) kept part a err = err
asked_visit (Err e) kept part a err = subst IsVisitAnswer (sym err.1) tt

pub none_named : {T : Type 0} (r : Result T Answer) (found : Option ℕ) (part : ℕ) → IfErr r (λ e. (a : ℕ) × (found ≡ Some a) × (e ≡ answers.NotSound part a)) → IfErr r (λ e. (a : ℕ) × (e ≡ answers.NotSound part a))
none_named (Ok x) found part err = err
none_named (Err e) found part err = (err.0, err.2)
