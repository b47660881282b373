use Rattle.convert_options.proofs.Imports.{◌≡◌, ◌∙◌, Bool, List, ℕ, [], ◌∷◌, sym, ap, map, string_bytes, refl, inl, inr, None, Some, has_verbose, without_verbose, plain}
use Rattle.convert_options.proofs.Asking.{asked_none, asked_some, left, left_end, left_none, left_step, left_twice, no_words, told, told_end, told_step}
use Rattle.convert_options.proofs.OneByOne.{after, first_word, rest_of, sized}
use Rattle.convert_options.proofs.asked.read_beside.Goals as goal

pub returns-in_err-setting-clause-read : goal.returns-in_err-setting-clause-read
returns-in_err-setting-clause-read c =
    let first = first_word c.as_str-text.result.now c.word-item.result c.loop-rest.rest.now c.in-len1-up.len_at_least c.word-item.is c.as_str-text.ensures.value in
    let here = ap (λ (ws : List (List ℕ)). rest_of c.loop-rest.given c.loop-rest.options (left c.loop-rest.verbose ws)) first ∙ c.loop-rest.invariant.same in
    let none = left_none c.loop-rest.given c.loop-rest.options c.as_str-text.result.now (map string_bytes (after c.loop-rest.rest.now)) c.loop-rest.verbose (sym c.is_first_verbose.ensures ∙ c.if-is_first_verbose.false) (sym c.in_err-setting.ensures.first) in
    c.from_residual.ensures ∙ asked_none c.args.given (map string_bytes c.args.words.now) (sym here ∙ none)

pub returns-then-has-clause-read : goal.returns-then-has-clause-read
returns-then-has-clause-read c =
    let first = first_word c.as_str-text.result.now c.word-item.result c.loop-rest.rest.now c.in-len1-up.len_at_least c.word-item.is c.as_str-text.ensures.value in
    let here = ap (λ (ws : List (List ℕ)). rest_of c.loop-rest.given c.loop-rest.options (left c.loop-rest.verbose ws)) first ∙ c.loop-rest.invariant.same in
    let twice = left_twice c.loop-rest.given c.loop-rest.options c.as_str-text.result.now (map string_bytes (after c.loop-rest.rest.now)) c.loop-rest.verbose (sym c.is_first_verbose.ensures ∙ c.if-is_first_verbose.false) c.in_ok-setting.setting (map string_bytes c.in_ok-setting.behind.now) (sym c.in_ok-setting.ensures.first) (sym c.has.ensures ∙ c.if-has.true) in
    asked_none c.args.given (map string_bytes c.args.words.now) (sym here ∙ twice)

pub loop-rest-preserved : goal.loop-rest-preserved
loop-rest-preserved c =
    let first = first_word c.as_str-text.result.now c.word-item.result c.loop-rest.rest.now c.in-len1-up.len_at_least c.word-item.is c.as_str-text.ensures.value in
    let here = ap (λ (ws : List (List ℕ)). rest_of c.loop-rest.given c.loop-rest.options (left c.loop-rest.verbose ws)) first ∙ c.loop-rest.invariant.same in
    let other = sym c.is_first_verbose.ensures ∙ c.if-is_first_verbose.false in
    record {
      same =
          rw (c.add.ensures, c.apply.ensures)
          (sym (left_step c.loop-rest.given c.loop-rest.options c.as_str-text.result.now (map string_bytes (after c.loop-rest.rest.now)) c.loop-rest.verbose other c.in_ok-setting.setting (map string_bytes c.in_ok-setting.behind.now) (sym c.in_ok-setting.ensures.first) (sym c.has.ensures ∙ c.if-has.false)) ∙ here);
      told =
          sym (told_step c.as_str-text.result.now (map string_bytes (after c.loop-rest.rest.now)) c.loop-rest.verbose other c.in_ok-setting.setting (map string_bytes c.in_ok-setting.behind.now) (sym c.in_ok-setting.ensures.first))
          ∙ (ap (λ (ws : List (List ℕ)). told c.loop-rest.verbose ws) first ∙ c.loop-rest.invariant.told);
      size = rw c.apply.ensures (sized c.loop-rest.options c.in_ok-setting.setting c.loop-rest.invariant.size c.in_ok-setting.ensures.size);
    }

pub returns-clause-read : goal.returns-clause-read
returns-clause-read c =
    let none = no_words c.loop-rest.rest.now c.in_default.len_below in
    asked_some c.args.given (map string_bytes c.args.words.now) c.loop-rest.options c.loop-rest.verbose
    (sym c.loop-rest.invariant.same ∙ (ap (λ (ws : List (List ℕ)). rest_of c.loop-rest.given c.loop-rest.options (left c.loop-rest.verbose ws)) none ∙ left_end c.loop-rest.given c.loop-rest.options c.loop-rest.verbose))
    (sym (told_end c.loop-rest.verbose) ∙ (sym (ap (λ (ws : List (List ℕ)). told c.loop-rest.verbose ws) none) ∙ c.loop-rest.invariant.told))
