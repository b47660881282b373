use Rattle.extent_pieces.proofs.Imports.{◌≡◌, ℕ, List, length, rules, arith, subst, IsPermutation, IsNonDecreasingBy-from_sort_by_key, Piece, blocks_of_units}
use Rattle.extent_pieces.proofs.Placing.{Places, length-blocks, places_all}
use Rattle.extent_pieces.proofs.pieces.Pieces.place.Goals as goal

pub returns-clause-placed : goal.returns-clause-placed
returns-clause-placed c =
    let kept : ℕ = c.args.self.now.kept in
    let blocks : List ℕ = blocks_of_units c.args.plan.now.data_ in
    let old : List Piece = c.args.self.now.items.items in
    let new : List Piece = c.loop-i.self.items.items in
    let end : c.loop-i.i ≡ length old = omega (arith, c.loop-i-test.false, c.len-i-end.ensures, c.loop-i.auto.i-end, c.loop-i.auto.i, c.requires.kept) in
    let done : Places kept blocks old new (length old) = subst (Places kept blocks old new) end c.loop-i.invariant.placed in
    let all = places_all kept blocks old new c.requires.kept (omega (arith, length-blocks c.args.plan.now.data_, c.requires.room)) done in
    record {
      same = subst (λ (xs : List Piece). IsPermutation xs c.sort_unstable_by_key.new.self.items) all c.sort_unstable_by_key.ensures.permutation;
      ascending = IsNonDecreasingBy-from_sort_by_key (λ p. p.place) c.sort_unstable_by_key.new.self.items c.sort_unstable_by_key.ensures.sorted (λ a r q k. search rules);
    }
