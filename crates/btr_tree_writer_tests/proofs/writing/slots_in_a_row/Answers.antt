use Rattle.btr_tree_writer_tests.proofs.Imports.{◌≡◌, ◌+◌, ◌*◌, ◌<◌, ◌++◌, ◌∷◌, [], ◌∙◌, ◌≤◌, All, List, ℕ, length, map, ap, sym, subst, arith, range_with_len, get_or-map-range_with_len, length-map-range_with_len, map-range_with_len_more, AreSlots, slot_in_a_row, slots_in_a_row, slots_within}
use Rattle.std.specs.List.{AllPairs}
use Rattle.btr_tree_writer_tests.proofs.writing.slots_in_a_row.Goals as goal

slots_rise : (n : ℕ) → AllPairs (λ a b. a < b) (map slot_in_a_row (range_with_len 0 n))
slots_rise n = λ i j d low within.
    let all : j < n = omega (arith, within, length-map-range_with_len slot_in_a_row 0 n) in
    let first = get_or-map-range_with_len slot_in_a_row 0 n i i d (omega (arith, low, all)) (omega arith) in
    let second = get_or-map-range_with_len slot_in_a_row 0 n j j d all (omega arith) in
    omega (arith, low, first, second)

pub loop-k-preserved : goal.loop-k-preserved
loop-k-preserved c = record {
  within = omega (arith, c.loop-k-test.true);
  row = c.in_ok-add.ensures.ok ∙ (ap (λ s. s ++ slot_in_a_row c.loop-k.k ∷ []) c.loop-k.invariant.row ∙ sym (map-range_with_len_more slot_in_a_row 0 c.loop-k.k c.loop-k.k (omega arith)));
}

pub returns-clause-slots : goal.returns-clause-slots
returns-clause-slots c =
    let end : c.loop-k.k ≡ c.args.count = omega (arith, c.loop-k.invariant.within, c.loop-k-test.false) in
    let all = c.loop-k.invariant.row ∙ ap (λ (n : ℕ). map slot_in_a_row (range_with_len 0 n)) end in
    subst (AreSlots 4096) (sym all) (slots_in_a_row c.args.count (omega (arith, c.requires.few)))

pub returns-clause-within : goal.returns-clause-within
returns-clause-within c =
    let end : c.loop-k.k ≡ c.args.count = omega (arith, c.loop-k.invariant.within, c.loop-k-test.false) in
    let all = c.loop-k.invariant.row ∙ ap (λ (n : ℕ). map slot_in_a_row (range_with_len 0 n)) end in
    subst (λ (slots : List ℕ). All (λ a. a + 4096 ≤ 4096 * (c.args.count + 16)) slots) (sym all) (slots_within c.args.count (c.args.count + 16) (omega arith))

pub returns-clause-ascending : goal.returns-clause-ascending
returns-clause-ascending c = subst (λ (slots : List ℕ). AllPairs (λ a b. a < b) slots) (sym c.loop-k.invariant.row) (slots_rise c.loop-k.k)

pub returns-clause-count : goal.returns-clause-count
returns-clause-count c = omega (arith, c.loop-k.invariant.within, c.loop-k-test.false, ap (λ (slots : List ℕ). length slots) c.loop-k.invariant.row, length-map-range_with_len slot_in_a_row 0 c.loop-k.k)
