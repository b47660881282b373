use Rattle.number_runs.proofs.Imports.{◌≡◌, ap, arith, length, sym, take, ◌∙◌, rules, All-permutation, IsNonDecreasingBy-from_sort_by_key, list_any-IsPermutation, HasNumbers, first_of, is_among, is_in}
use Rattle.number_runs.proofs.Joining.{front_of}
use Rattle.number_runs.proofs.join.join.Goals as goal

pub join_neighbours-kept-requires-clause-ascending : goal.join_neighbours-kept-requires-clause-ascending
join_neighbours-kept-requires-clause-ascending c = rw c.deref_mut.ensures.value (IsNonDecreasingBy-from_sort_by_key first_of _ c.sort_unstable_by_key.ensures.sorted (λ a r q k. search rules))

pub join_neighbours-kept-requires-clause-some : goal.join_neighbours-kept-requires-clause-some
join_neighbours-kept-requires-clause-some c = rw c.deref_mut.ensures.value (All-permutation HasNumbers _ _ c.sort_unstable_by_key.ensures.permutation c.requires)

pub returns-clause-same : goal.returns-clause-same
returns-clause-same c = λ n.
    let e : c.truncate.new.self.items ≡ take c.join_neighbours-kept.result c.join_neighbours-kept.new.runs =
    c.truncate.ensures.items
    ∙ front_of c.join_neighbours-kept.result c.sort_unstable_by_key.new.self.len c.join_neighbours-kept.new.runs c.sort_unstable_by_key.new.self.items (omega (arith, ap length c.deref_mut.ensures.value)) (omega (arith, c.deref_mut.ensures.len)) in
    ap (λ l. is_among l n) e
    ∙ (c.join_neighbours-kept.ensures.same n ∙ (ap (λ l. is_among l n) c.deref_mut.ensures.value ∙ sym (list_any-IsPermutation (λ r. is_in r n) c.args.runs.now.items c.sort_unstable_by_key.new.self.items c.sort_unstable_by_key.ensures.permutation)))
