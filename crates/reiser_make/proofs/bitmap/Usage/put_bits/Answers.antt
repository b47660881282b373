use Rattle.reiser_make.proofs.Imports.{◌+◌, ◌*◌, ◌++◌, ◌∷◌, [], ℕ, List, map, ap, sym, ◌∙◌, arith, range_with_len, take_more_set, map-range_with_len_more, byte_of, is_marked, marks}
use Rattle.reiser_make.proofs.bitmap.Usage.put_bits.Goals as goal

pub loop-j-preserved : goal.loop-j-preserved
unfolding marks
loop-j-preserved c =
    let f : ℕ → ℕ = λ j. byte_of (is_marked c.args.self.now.needed c.args.self.now.blocks) (c.args.first + 8 * j) in
    let before : List ℕ = map f (range_with_len 0 c.loop-j.j) in
    take_more_set c.loop-j.into c.loop-j.j c.byte_of.result (omega (arith, c.loop-j-test.true, c.loop-j.auto.into))
    ∙ ap (λ z. z ++ c.byte_of.result ∷ []) c.loop-j.invariant
    ∙ ap (λ y. before ++ y ∷ []) c.byte_of.ensures
    ∙ sym (map-range_with_len_more f 0 c.loop-j.j c.loop-j.j (omega arith))
