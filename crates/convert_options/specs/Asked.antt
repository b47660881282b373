-- The options before the path of a command: `--verbose` may stand among them, and a command may take some kinds of settings alone.
use Rattle.std.specs.Prelude.{ℕ, Bool, true, false, not, ◌&&◌, ◌||◌, List, [], ◌∷◌, codes, bytes_eq, Option, Some, None, option_map, option_and_then, if◌then◌else◌}
use Rattle.std.specs.List.{list_all}
use Rattle.convert_options.specs.Reading.{has, none_given}
use Rattle.convert_options.specs.Settings.{alone, are_apart, options, plain, settings, with_settings}
use Rattle.convert_options.specs.declared.asked.AskedOptions.{AskedOptions}
use Rattle.convert_options.specs.declared.given.Given.{Given}
use Rattle.convert_options.specs.declared.options.Options.{Options}
use Rattle.convert_options.specs.declared.setting.Setting.{Setting}

-- ---- `--verbose`

abbrev pub is_verbose : List ℕ → Bool
is_verbose word = bytes_eq word (codes "--verbose")

-- the words without the first `--verbose` that stands where an option begins, and is no value of one
abbrev pub without_verbose : List (List ℕ) → List (List ℕ)
without_verbose [] = []
without_verbose (word ∷ []) = if is_verbose word then [] else word ∷ []
without_verbose (word ∷ value ∷ rest) =
    if is_verbose word then value ∷ rest
    else elim (alone word) [ Some s ↦ word ∷ without_verbose (value ∷ rest) | None ↦ word ∷ value ∷ without_verbose rest ]

-- there is one
abbrev pub has_verbose : List (List ℕ) → Bool
has_verbose [] = false
has_verbose (word ∷ []) = is_verbose word
has_verbose (word ∷ value ∷ rest) = is_verbose word || elim (alone word) [ Some s ↦ has_verbose (value ∷ rest) | None ↦ has_verbose rest ]

-- ---- the kinds of settings that a command takes

-- none of the settings is of a kind that is given
abbrev pub are_new : Given → List Setting → Bool
are_new g ss = list_all (λ s. not (has g s)) ss

-- the options of words whose settings are of kinds that are not given, no two of one kind
abbrev pub options_beside : Given → List (List ℕ) → Option Options
options_beside g words = option_and_then (λ ss. if are_new g ss && are_apart ss then Some (with_settings plain ss) else None) (settings words)

-- the kinds that say what the new volume is called: its label and its identifier
abbrev pub naming : Given
naming = record none_given { label = true; uuid = true }

-- ---- the options of a command

abbrev pub asked_by : (List (List ℕ) → Option Options) → List (List ℕ) → Option AskedOptions
asked_by read words = option_map (λ o. record { options = o; verbose = has_verbose words }) (read (without_verbose words))

-- those of `convert`
abbrev pub options_of_convert : List (List ℕ) → Option AskedOptions
options_of_convert words = asked_by options words

-- those of `inspect`, which tells what a conversion with them needs: all but those of the label and the identifier, which it never needs
abbrev pub options_of_inspect : List (List ℕ) → Option AskedOptions
options_of_inspect words = asked_by (λ ws. options_beside naming ws) words
