use Rattle.btr_tree_writer_tests.proofs.Imports.{◌≡◌, ◌+◌, ◌*◌, ◌++◌, ◌∷◌, [], ◌∙◌, ◌≤◌, All, List, ℕ, map, ap, sym, subst, arith, range_with_len, map-range_with_len_more, AreSlots, slot_in_a_row, slots_in_a_row, slots_within}
use Rattle.btr_tree_writer_tests.proofs.building.slots_in_a_row.Goals as goal

pub loop-k-preserved : goal.loop-k-preserved
loop-k-preserved c = record {
  within = omega (arith, c.loop-k-test.true);
  row = c.in_ok-add.ensures.ok ∙ (ap (λ s. s ++ slot_in_a_row c.loop-k.k ∷ []) c.loop-k.invariant.row ∙ sym (map-range_with_len_more slot_in_a_row 0 c.loop-k.k c.loop-k.k (omega arith)));
}

pub returns-clause-slots : goal.returns-clause-slots
returns-clause-slots c =
    let end : c.loop-k.k ≡ c.args.count = omega (arith, c.loop-k.invariant.within, c.loop-k-test.false) in
    let all = c.loop-k.invariant.row ∙ ap (λ (n : ℕ). map slot_in_a_row (range_with_len 0 n)) end in
    subst (AreSlots 4096) (sym all) (slots_in_a_row c.args.count c.requires.few)

pub returns-clause-within : goal.returns-clause-within
returns-clause-within c =
    let end : c.loop-k.k ≡ c.args.count = omega (arith, c.loop-k.invariant.within, c.loop-k-test.false) in
    let all = c.loop-k.invariant.row ∙ ap (λ (n : ℕ). map slot_in_a_row (range_with_len 0 n)) end in
    subst (λ (slots : List ℕ). All (λ a. a + 4096 ≤ 4096 * (c.args.count + 16)) slots) (sym all) (slots_within c.args.count (c.args.count + 16) (omega arith))
