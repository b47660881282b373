-- Where the nodes of a plan's units lie, in bytes.
use Rattle.std.specs.Prelude.{◌≡◌, ℕ, ◌+◌, ◌*◌, ◌^◌, ◌≤◌, ◌<◌, List, length, map, All, AllPairs}
use Rattle.std.specs.List.{flat_map, range_with_len}
use Rattle.btr_tree.specs.btr_node.NodeSize.{IsNodeSize}
use Rattle.btr_tree.specs.Building.{AreSlots}
use Rattle.unit_plan.specs.Needed.{nodes_in_unit}

-- the nodes that fill a unit
abbrev pub places_in : ℕ → ℕ → List ℕ
places_in nodesize u = map (λ k. 2 ^ 20 * u + nodesize * k) (range_with_len 0 (nodes_in_unit nodesize))

unfoldable pub node_places : ℕ → List ℕ → List ℕ
node_places nodesize units = flat_map (places_in nodesize) units

-- they lie within these units, and ascend
pub record ArePlaces (nodesize n : ℕ) (places : List ℕ) : Type 0 where
  pub slots : AreSlots nodesize places
  pub ascending : AllPairs (λ a b. a < b) places
  pub inside : All (λ a. a + nodesize ≤ 2 ^ 20 * n) places

-- the nodes of ascending units serve a tree that is written, each in its own place, and there is room for the needed ones
abbrev pub PlacesServe : Type 0
PlacesServe =
    (nodesize n : ℕ) (units : List ℕ) → IsNodeSize nodesize → n < 2 ^ 43 → AllPairs (λ u v. u < v) units → All (λ u. u < n) units
    → ArePlaces nodesize n (node_places nodesize units)
