use Rattle.reiser_volume_names.proofs.Imports.{Bool, sym, ap, ◌∙◌, arith, if◌then◌else◌}
use Rattle.reiser_volume_names.proofs.Numbering.{keys_before}
use Rattle.reiser_volume_names.proofs.extended.count_before.Goals as goal

pub overflow_sub-result : goal.overflow_sub-result
overflow_sub-result c =
    let place = keys_before c.args.named.now.keys c.args.dir c.unwrap-place.result c.requires.sorted (sym c.unwrap-place.ensures ∙ c.get_index_of.ensures.index) in
    let one = c.one_if.ensures ∙ ap (λ (b : Bool). if b then 1 else 0) c.is_root_before.ensures in
    omega (arith, place, one)

pub returns-clause-count : goal.returns-clause-count
returns-clause-count c =
    let place = keys_before c.args.named.now.keys c.args.dir c.unwrap-place.result c.requires.sorted (sym c.unwrap-place.ensures ∙ c.get_index_of.ensures.index) in
    let one = c.one_if.ensures ∙ ap (λ (b : Bool). if b then 1 else 0) c.is_root_before.ensures in
    omega (arith, place, one)
