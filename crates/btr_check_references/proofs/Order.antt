-- The order of references.
use Rattle.btr_check_references.proofs.Imports.{◌≡◌, ◌≢◌, nat_eq, nat_cmp, true, false, Ordering, Less, Equal, Greater, is_eq, is_lt, refl, sym, ap, ◌∙◌, arith, true≢false, nat_tests, Made, is_same, order_of, ranks_of}
use Rattle.std.specs.Cmp.{IsTotalOrder, unsigned_ties}
use Rattle.std.specs.Cmp.Lexicographic.{lists_ties, pointwise}
use Rattle.std.specs.Ordering.{ordering_reverse}
use Rattle.std.proofs.lemmas.Cmp.{nat_list_cmp_total, on_total}

pub order_total : IsTotalOrder order_of
unfolding order_of
order_total = on_total ranks_of nat_list_cmp_total

same_ranks : (a b : Made) → pointwise nat_eq (ranks_of a) (ranks_of b) ≡ is_same a b
same_ranks a b = grind (arith, nat_tests)

-- those that are the same are those that the order does not tell apart
pub same_order : (a b : Made) → is_same a b ≡ is_eq (order_of a b)
unfolding order_of
same_order a b = sym (same_ranks a b) ∙ lists_ties nat_cmp unsigned_ties (ranks_of a) (ranks_of b)

pub same_from_order : (a b : Made) → order_of a b ≡ Equal → is_same a b ≡ true
same_from_order a b is = same_order a b ∙ ap is_eq is

-- one that does not come behind another, and is not the same, comes before it
pub before : (a b : Made) → order_of a b ≢ Greater → is_same a b ≡ false → order_of a b ≡ Less
before a b not_behind other = by (order_of a b) refl
  where
    by : (o : Ordering) → order_of a b ≡ o → o ≡ Less
    by Less is = refl
    by Equal is = absurd (true≢false (sym (same_from_order a b is) ∙ other))
    by Greater is = absurd (not_behind is)

-- of two that are in order the second does not come before the first
pub not_behind : (a b : Made) → is_lt (order_of b a) ≡ false → order_of a b ≢ Greater
not_behind a b not_lt is = true≢false (sym (ap is_lt (order_total.antisymm b a ∙ ap ordering_reverse is)) ∙ not_lt)
