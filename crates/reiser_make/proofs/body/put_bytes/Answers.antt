use Rattle.reiser_make.proofs.Imports.{◌+◌, ◌++◌, ◌∷◌, [], ℕ, List, map, ap, sym, ◌∙◌, refl, arith, range_with_len, take_more_set, map-range_with_len_more, file_byte}
use Rattle.reiser_make.proofs.body.put_bytes.Goals as goal

pub loop-at-preserved : goal.loop-at-preserved
loop-at-preserved c =
    let f : ℕ → ℕ = file_byte c.args.i c.args.sparse in
    let before : List ℕ = map f (range_with_len c.args.from c.loop-at.at) in
    take_more_set c.loop-at.into c.loop-at.at c.file_byte.result (omega (arith, c.loop-at-test.true, c.loop-at.auto.into))
    ∙ ap (λ z. z ++ c.file_byte.result ∷ []) c.loop-at.invariant
    ∙ ap (λ y. before ++ y ∷ []) c.file_byte.ensures
    ∙ sym (map-range_with_len_more f c.args.from c.loop-at.at (c.args.from + c.loop-at.at) refl)
