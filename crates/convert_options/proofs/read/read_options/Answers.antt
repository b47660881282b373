use Rattle.convert_options.proofs.Imports.{◌≡◌, ◌∙◌, sym, map, string_bytes, refl, inl, inr, None, options}
use Rattle.convert_options.proofs.OneByOne.{after, by_word, rest_all, rest_none, rest_step, rest_twice, sized}
use Rattle.convert_options.proofs.read.read_options.Goals as goal

pub loop-rest-init : goal.loop-rest-init
loop-rest-init c = record {
  same = rw (c.none-given.ensures, c.plain-options.ensures) (rest_all (map string_bytes c.args.words.now));
  size = rw c.plain-options.ensures (inr (inr (inl refl)));
}

pub returns-in_err-setting-clause-read : goal.returns-in_err-setting-clause-read
returns-in_err-setting-clause-read c =
    let here = by_word c.loop-rest.given c.loop-rest.options c.as_str.result.now c.word-item.result c.loop-rest.rest.now _ c.loop-rest.invariant.same c.in-len1-up.len_at_least c.word-item.is c.as_str.ensures.value in
    let none : None ≡ options (map string_bytes c.args.words.now) =
    sym (rest_none c.loop-rest.given c.loop-rest.options c.as_str.result.now (map string_bytes (after c.loop-rest.rest.now)) (sym c.in_err-setting.ensures.first)) ∙ here in
    c.from_residual.ensures ∙ none

pub returns-then-has-clause-read : goal.returns-then-has-clause-read
returns-then-has-clause-read c =
    let here = by_word c.loop-rest.given c.loop-rest.options c.as_str.result.now c.word-item.result c.loop-rest.rest.now _ c.loop-rest.invariant.same c.in-len1-up.len_at_least c.word-item.is c.as_str.ensures.value in
    sym (rest_twice c.loop-rest.given c.loop-rest.options c.as_str.result.now (map string_bytes (after c.loop-rest.rest.now)) c.in_ok-setting.setting (map string_bytes c.in_ok-setting.behind.now) (sym c.in_ok-setting.ensures.first) (sym c.has.ensures ∙ c.if-has.true)) ∙ here

pub loop-rest-preserved : goal.loop-rest-preserved
loop-rest-preserved c =
    let here = by_word c.loop-rest.given c.loop-rest.options c.as_str.result.now c.word-item.result c.loop-rest.rest.now _ c.loop-rest.invariant.same c.in-len1-up.len_at_least c.word-item.is c.as_str.ensures.value in
    record {
      same =
          rw (c.add.ensures, c.apply.ensures)
          (sym (rest_step c.loop-rest.given c.loop-rest.options c.as_str.result.now (map string_bytes (after c.loop-rest.rest.now)) c.in_ok-setting.setting (map string_bytes c.in_ok-setting.behind.now) (sym c.in_ok-setting.ensures.first) (sym c.has.ensures ∙ c.if-has.false)) ∙ here);
      size = rw c.apply.ensures (sized c.loop-rest.options c.in_ok-setting.setting c.loop-rest.invariant.size c.in_ok-setting.ensures.size);
    }
