use Rattle.convert_options.proofs.Imports.{◌≡◌, ℕ, nat_eq, cond, List, length, refl, ◌∙◌, Option, Some, None, option_and_then}
use Rattle.std.proofs.lemmas.Bool.{false≢true}
use Rattle.uuid.specs.Text.{parsed, parsed_hyphenated}
use Rattle.convert_options.proofs.values.given_uuid.Goals as goal

by_length : (n : ℕ) (a b c d e : Option (List ℕ)) → n ≡ 36 → cond (nat_eq n 32) a (cond (nat_eq n 36) b (cond (nat_eq n 38) c (cond (nat_eq n 45) d e))) ≡ b
by_length n a b c d e is = rw is refl

-- a word of 36 bytes is read in the form with hyphens
in_form : (value : List ℕ) → length value ≡ 36 → parsed value ≡ parsed_hyphenated value
in_form value long = by_length (length value) _ _ _ _ _ long

none_of : {A B : Type 0} (f : A → Option B) (o : Option A) → ((u : A) → o ≡ Some u → ⊥) → None ≡ option_and_then f o
none_of f None none = refl
none_of f (Some u) none = absurd (none u refl)

pub returns-in-Err-clause-set : goal.returns-in-Err-clause-set
returns-in-Err-clause-set c =
    none_of _ (parsed_hyphenated c.args.value.now)
    (λ u is. false≢true (c.in-Err.ensures.ok.1 (u, in_form c.args.value.now c.if-value-ne36.false ∙ is)))
