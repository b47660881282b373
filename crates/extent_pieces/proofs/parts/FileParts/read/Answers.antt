use Rattle.extent_pieces.proofs.Imports.{List, subst, rules, IsPermutation, IsNonDecreasingBy-from_sort_by_key, OwnedRun}
use Rattle.extent_pieces.proofs.parts.FileParts.read.Goals as goal

pub returns-clause-parts : goal.returns-clause-parts
returns-clause-parts g c = λ tells image is accepted opened.
    let gathered = c.in_ok-parts.ensures.parts tells image is accepted opened in
    record {
      owned_are = subst (λ (xs : List OwnedRun). IsPermutation xs c.sort_unstable_by_key.new.self.items) gathered.owned_are c.sort_unstable_by_key.ensures.permutation;
      ascending = IsNonDecreasingBy-from_sort_by_key (λ r. r.first) c.sort_unstable_by_key.new.self.items c.sort_unstable_by_key.ensures.sorted (λ a r q k. search rules);
      counted = record { tails_are = gathered.counted.tails_are; inlines_are = gathered.counted.inlines_are; bytes_are = gathered.counted.bytes_are };
    }
