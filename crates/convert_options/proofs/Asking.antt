-- Options that are read one after the other, with `--verbose` among them.
use Rattle.convert_options.proofs.Imports.{◌≡◌, ◌<◌, ◌∙◌, ℕ, Bool, true, false, not, ◌&&◌, ◌||◌, cond, List, [], ◌∷◌, length, map, String, string_bytes, refl, sym, ap, arith, Option, Some, None, option_map, option_and_then, are_new, asked_by, has_verbose, is_verbose, options_beside, options_of_convert, without_verbose, first_setting, has, none_given, with_given, with_value, alone, are_apart, options, plain, settings, valued, with_setting, with_settings, Given, Options, Setting}
use Rattle.convert_options.specs.declared.asked.AskedOptions.{AskedOptions}
use Rattle.convert_options.proofs.OneByOne.{by_rest, fresh, fresh_is, new_to, rest_all, rest_none, rest_of, rest_step, rest_twice}

-- ---- beside settings that are given

fresh_beside : (g : Given) (ss : List Setting) → fresh g ss ≡ (are_new g ss && are_apart ss)
unfolding new_to
fresh_beside g ss = fresh_is g ss

by_settings : (g : Given) (found : Option (List Setting)) → option_and_then (λ ss. by_rest g plain ss) found ≡ option_and_then (λ ss. cond (are_new g ss && are_apart ss) (Some (with_settings plain ss)) None) found
by_settings g None = refl
by_settings g (Some ss) = ap (λ (b : Bool). cond b (Some (with_settings plain ss)) None) (fresh_beside g ss)

pub rest_beside : (g : Given) (words : List (List ℕ)) → rest_of g plain words ≡ options_beside g words
rest_beside g words = by_settings g (settings words)

pub beside_none : (words : List (List ℕ)) → options_beside none_given words ≡ options words
beside_none words = sym (rest_beside none_given words) ∙ rest_all words

-- ---- a word that begins a setting, without `--verbose` behind it

abbrev Found : Type 0
Found = Option (Setting × List (List ℕ))

-- what is found, without `--verbose` behind it
abbrev cut : Found → Found
cut found = option_map (λ p. (p.0, without_verbose p.1)) found

record Goes (word : List ℕ) (rest : List (List ℕ)) : Type 0 where
  pub others : List (List ℕ)
  pub words : without_verbose (word ∷ rest) ≡ word ∷ others
  pub first : first_setting word others ≡ cut (first_setting word rest)
  pub verbose : (s : Setting) (behind : List (List ℕ)) → first_setting word rest ≡ Some (s, behind) → has_verbose (word ∷ rest) ≡ has_verbose behind

-- whether it is behind what is found
abbrev behind_has : Found → Bool
behind_has found = elim found [ Some p ↦ has_verbose p.1 | None ↦ false ]

-- a word without another behind it
last_cut : (a : Option Setting) → elim a [ Some s ↦ Some (s, []) | None ↦ None ] ≡ cut (elim a [ Some s ↦ Some (s, []) | None ↦ None ])
last_cut (Some s) = refl
last_cut None = refl

last_has : (a : Option Setting) (s : Setting) (behind : List (List ℕ)) → ◌≡◌ {A = Found} (elim a [ Some s ↦ Some (s, []) | None ↦ None ]) (Some (s, behind)) → false ≡ has_verbose behind
last_has (Some t) s behind is = ap behind_has is
last_has None s behind is = cc

-- a word that takes the next one as its value
value_cut : (v : Option Setting) (more : List (List ℕ)) → option_map (λ s. (s, without_verbose more)) v ≡ cut (option_map (λ s. (s, more)) v)
value_cut (Some s) more = refl
value_cut None more = refl

value_has : (v : Option Setting) (more : List (List ℕ)) (s : Setting) (behind : List (List ℕ)) → option_map {U = Setting × List (List ℕ)} (λ s. (s, more)) v ≡ Some (s, behind) → has_verbose more ≡ has_verbose behind
value_has (Some t) more s behind is = ap behind_has is
value_has None more s behind is = cc

module _ (word value : List ℕ) (more : List (List ℕ)) (other : is_verbose word ≡ false) where
  abbrev cut_by : Bool → Option Setting → List (List ℕ)
  cut_by b a = cond b (value ∷ more) (elim a [ Some s ↦ word ∷ without_verbose (value ∷ more) | None ↦ word ∷ value ∷ without_verbose more ])

  abbrev has_by : Bool → Option Setting → Bool
  has_by b a = b || elim a [ Some s ↦ has_verbose (value ∷ more) | None ↦ has_verbose more ]

  abbrev found_by : List (List ℕ) → Option Setting → Found
  found_by rest a = elim a [ Some s ↦ Some (s, rest) | None ↦ with_value word rest ]

  words_by : (a : Option Setting) → alone word ≡ a → without_verbose (word ∷ value ∷ more) ≡ cut_by false a
  words_by a is = ap (λ (b : Bool). cut_by b (alone word)) other ∙ ap (cut_by false) is

  is_has : (a : Option Setting) → alone word ≡ a → has_verbose (word ∷ value ∷ more) ≡ has_by false a
  is_has a is = ap (λ (b : Bool). has_by b (alone word)) other ∙ ap (has_by false) is

  is_found : (rest : List (List ℕ)) (a : Option Setting) → alone word ≡ a → first_setting word rest ≡ found_by rest a
  is_found rest a is = ap (found_by rest) is

  goes_by : (a : Option Setting) → alone word ≡ a → Goes word (value ∷ more)
  goes_by (Some t) is = record {
    others = without_verbose (value ∷ more);
    words = words_by (Some t) is;
    first = is_found (without_verbose (value ∷ more)) (Some t) is ∙ sym (ap cut (is_found (value ∷ more) (Some t) is));
    verbose = λ s behind found. is_has (Some t) is ∙ ap behind_has (sym (is_found (value ∷ more) (Some t) is) ∙ found);
  }
  goes_by None is = record {
    others = value ∷ without_verbose more;
    words = words_by None is;
    first = is_found (value ∷ without_verbose more) None is ∙ (value_cut (valued word value) more ∙ sym (ap cut (is_found (value ∷ more) None is)));
    verbose = λ s behind found. is_has None is ∙ value_has (valued word value) more s behind (sym (is_found (value ∷ more) None is) ∙ found);
  }

goes : (word : List ℕ) (rest : List (List ℕ)) → is_verbose word ≡ false → Goes word rest
goes word [] other = record {
  others = [];
  words = ap (λ (b : Bool). cond b [] (word ∷ [])) other;
  first = last_cut (alone word);
  verbose = λ s behind found. other ∙ last_has (alone word) s behind found;
}
goes word (value ∷ more) other = goes_by word value more other (alone word) refl

-- ---- the words that are still to be read

-- those behind the first `--verbose` are read as they are
abbrev pub left : Bool → List (List ℕ) → List (List ℕ)
left met words = cond met words (without_verbose words)

-- it was met, or is among them
abbrev pub told : Bool → List (List ℕ) → Bool
told met words = met || has_verbose words

pub left_none : (g : Given) (o : Options) (word : List ℕ) (rest : List (List ℕ)) (met : Bool) → (not met && is_verbose word) ≡ false → first_setting word rest ≡ None → rest_of g o (left met (word ∷ rest)) ≡ None
left_none g o word rest true other is = rest_none g o word rest is
left_none g o word rest false other is =
    let go = goes word rest other in
    ap (λ (ws : List (List ℕ)). rest_of g o ws) go.words ∙ rest_none g o word go.others (go.first ∙ ap cut is)

pub left_twice : (g : Given) (o : Options) (word : List ℕ) (rest : List (List ℕ)) (met : Bool) → (not met && is_verbose word) ≡ false → (s : Setting) (behind : List (List ℕ)) → first_setting word rest ≡ Some (s, behind) → has g s ≡ true
    → rest_of g o (left met (word ∷ rest)) ≡ None
left_twice g o word rest true other s behind is twice = rest_twice g o word rest s behind is twice
left_twice g o word rest false other s behind is twice =
    let go = goes word rest other in
    ap (λ (ws : List (List ℕ)). rest_of g o ws) go.words ∙ rest_twice g o word go.others s (without_verbose behind) (go.first ∙ ap cut is) twice

pub left_step : (g : Given) (o : Options) (word : List ℕ) (rest : List (List ℕ)) (met : Bool) → (not met && is_verbose word) ≡ false → (s : Setting) (behind : List (List ℕ)) → first_setting word rest ≡ Some (s, behind) → has g s ≡ false
    → rest_of g o (left met (word ∷ rest)) ≡ rest_of (with_given g s) (with_setting o s) (left met behind)
left_step g o word rest true other s behind is new = rest_step g o word rest s behind is new
left_step g o word rest false other s behind is new =
    let go = goes word rest other in
    ap (λ (ws : List (List ℕ)). rest_of g o ws) go.words ∙ rest_step g o word go.others s (without_verbose behind) (go.first ∙ ap cut is) new

pub told_step : (word : List ℕ) (rest : List (List ℕ)) (met : Bool) → (not met && is_verbose word) ≡ false → (s : Setting) (behind : List (List ℕ)) → first_setting word rest ≡ Some (s, behind) → told met (word ∷ rest) ≡ told met behind
told_step word rest true other s behind is = refl
told_step word rest false other s behind is = (goes word rest other).verbose s behind is

-- nothing is left
pub left_end : (g : Given) (o : Options) (met : Bool) → rest_of g o (left met []) ≡ Some o
left_end g o true = refl
left_end g o false = refl

pub told_end : (met : Bool) → told met [] ≡ met
told_end true = refl
told_end false = refl

-- ---- what the words ask for

abbrev with_verbose : Bool → Options → AskedOptions
with_verbose b o = record { options = o; verbose = b }

pub asked_none : (g : Given) (words : List (List ℕ)) → rest_of g plain (without_verbose words) ≡ None → None ≡ asked_by (λ ws. options_beside g ws) words
asked_none g words is = sym (ap (λ (found : Option Options). option_map (with_verbose (has_verbose words)) found) (sym (rest_beside g (without_verbose words)) ∙ is))

pub asked_some : (g : Given) (words : List (List ℕ)) (o : Options) (met : Bool) → rest_of g plain (without_verbose words) ≡ Some o → met ≡ has_verbose words → Some (with_verbose met o) ≡ asked_by (λ ws. options_beside g ws) words
asked_some g words o met is same =
    ap (λ (b : Bool). Some (with_verbose b o)) same
    ∙ sym (ap (λ (found : Option Options). option_map (with_verbose (has_verbose words)) found) (sym (rest_beside g (without_verbose words)) ∙ is))

-- `convert` takes settings of each kind
pub asked_convert : (g : Given) (words : List (List ℕ)) → g ≡ none_given → asked_by (λ ws. options_beside g ws) words ≡ options_of_convert words
asked_convert g words is =
    ap (λ (found : Option Options). option_map (with_verbose (has_verbose words)) found)
    (ap (λ (h : Given). options_beside h (without_verbose words)) is ∙ beside_none (without_verbose words))

-- the words are at their end
pub no_words : {A : Type 0} (rest : List (String A)) → length rest < 1 → map string_bytes rest ≡ []
no_words [] few = refl
no_words (x ∷ xs) few = absurd (omega (arith, few))
