-- The spots under an object, where they stand together.
use Rattle.btr_item_list.proofs.Imports.{◌≡◌, ℕ, List, nat_eq, is_eq, arith, IsNonDecreasingBy, nat_cmp, ordering_index, nat_tests, searchable_from_sorted, Spot, AscendByObject}
use Rattle.std.proofs.lemmas.Cmp.{nat_cmp_total}

pub same_cmp : (a b : ℕ) → nat_eq a b ≡ is_eq (nat_cmp a b)
same_cmp a b = grind (arith, nat_tests)

pub rises : (spots : List Spot) (place : ℕ) → AscendByObject spots → IsNonDecreasingBy (λ (spot : Spot). ordering_index (nat_cmp spot.of place)) spots
rises spots place ascend = searchable_from_sorted nat_cmp_total (λ (spot : Spot). spot.of) spots place ascend
