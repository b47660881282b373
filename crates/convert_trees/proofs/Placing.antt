-- The slots of whole units.
use Rattle.convert_trees.proofs.Imports.{ℕ, zero, suc, ◌+◌, ◌*◌, ◌/◌, ◌^◌, ◌<◌, ◌≤◌, List, [], ◌∷◌, length, get_or, arith, All, AllPairs, IsNodeSize, node_places, ArePlaces}
use Rattle.unit_plan.proofs.Placing.{places_serve}

-- ascending numbers are no more than their bound
rises : (xs : List ℕ) → AllPairs (λ a b. a < b) xs → (i : ℕ) → i < length xs → i ≤ get_or xs i 0
rises xs pairs zero h = omega arith
rises xs pairs (suc i) h = omega (arith, rises xs pairs i (omega (arith, h)), pairs i (suc i) 0 (omega arith) h)

few_of : (xs : List ℕ) (b : ℕ) → AllPairs (λ a b. a < b) xs → All (λ a. a < b) xs → length xs ≤ b
few_of [] b pairs all = omega arith
few_of (x ∷ xs) b pairs all = omega (arith, rises (x ∷ xs) pairs (length xs) (omega arith), all (length xs) 0 (omega arith))

module _ (nodesize blocks : ℕ) (units : List ℕ) (size : IsNodeSize nodesize) (small : blocks ≤ 2 ^ 29) (ascend : AllPairs (λ u v. u < v) units) (within : All (λ u. 256 * u + 256 ≤ blocks) units) where
  pub served : ArePlaces nodesize (blocks / 256) (node_places nodesize units)
  served = places_serve nodesize (blocks / 256) units size (omega (arith, small)) ascend (λ i d inside. omega (arith, within i d inside))

  pub small_units : All (λ u. u < 2 ^ 43) units
  small_units = λ i d inside. omega (arith, within i d inside, small)

  pub slots_inside : All (λ a. a + nodesize ≤ 4096 * blocks) (node_places nodesize units)
  slots_inside = λ i d inside. omega (arith, served.inside i d inside)

  pub few_slots : length (node_places nodesize units) < 2 ^ 43
  few_slots = omega (arith, small, few_of (node_places nodesize units) (4096 * blocks + 1) served.ascending (λ i d inside. omega (arith, slots_inside i d inside)))
