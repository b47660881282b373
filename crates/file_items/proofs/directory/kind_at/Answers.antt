use Rattle.file_items.proofs.Imports.{◌≡◌, Option, sym, ap, subst, ◌∙◌, get_or, Contains, unwrap_or, Contains-get_or, slice_get_within, unwrap_or-slice_get, Kind, File, keys, ObjectKey, ObjectStat, kind_by, no_stat}
use Rattle.file_items.proofs.directory.kind_at.Goals as goal

pub returns : goal.returns
returns c image accepted opened key there =
    let all = keys c.args.volume.now.named in
    let is : get_or all c.args.place key ≡ key = sym (unwrap_or-slice_get all c.args.place key) ∙ ap (λ (o : Option ObjectKey). unwrap_or o key) there in
    let among : Contains all key = subst (λ (k : ObjectKey). Contains all k) is (Contains-get_or all c.args.place key (slice_get_within all c.args.place key there)) in
    let stat_is = sym (opened.stats key among) ∙ c.stat.ensures key there in
    (c.unwrap_or.ensures ∙ ap (λ (o : Option Kind). unwrap_or o File) c.kind_of_mode.ensures) ∙ sym (ap (λ (o : Option ObjectStat). kind_by (unwrap_or o no_stat)) stat_is)
