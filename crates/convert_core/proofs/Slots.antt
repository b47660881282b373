-- The blocks of nodes lie in the units of their slots.
use Rattle.convert_core.proofs.Imports.{◌≡◌, ℕ, ◌+◌, ◌*◌, ◌/◌, ◌^◌, ◌<◌, List, sym, subst, ⊎_elim, arith, Contains, range_with_len, from_flat_map, from_map, IsNodeSize, IsInNode, IsInSlots, range_contains, nodes_in_unit, node_places, places_in}

-- the blocks of each node of a unit lie in the unit
abbrev StayInUnit : ℕ → Type 0
StayInUnit n = (u k b : ℕ) → k < nodes_in_unit n → IsInNode n (2 ^ 20 * u + n * k) b → b / 256 ≡ u

stay_in_unit : (n : ℕ) → IsNodeSize n → StayInUnit n
stay_in_unit n size =
    ⊎_elim (λ (e : n ≡ 4096). subst StayInUnit (sym e) (λ u k b few at. let low = at.0 in let high = at.1 in omega (arith, few, low, high)))
    (λ rest. ⊎_elim (λ (e : n ≡ 8192). subst StayInUnit (sym e) (λ u k b few at. let low = at.0 in let high = at.1 in omega (arith, few, low, high)))
    (λ rest'. ⊎_elim (λ (e : n ≡ 16384). subst StayInUnit (sym e) (λ u k b few at. let low = at.0 in let high = at.1 in omega (arith, few, low, high)))
    (λ rest''. ⊎_elim (λ (e : n ≡ 32768). subst StayInUnit (sym e) (λ u k b few at. let low = at.0 in let high = at.1 in omega (arith, few, low, high)))
    (λ (e : n ≡ 65536). subst StayInUnit (sym e) (λ u k b few at. let low = at.0 in let high = at.1 in omega (arith, few, low, high))) rest'') rest') rest) size

-- a block of a node at one of the slots of units lies in one of the units
pub slot_unit : (nodesize : ℕ) (units : List ℕ) (b : ℕ) → IsNodeSize nodesize → IsInSlots nodesize (node_places nodesize units) b → Contains units (b / 256)
unfolding node_places
slot_unit nodesize units b size at =
    let a : ℕ = at.1 in
    let among : Contains (node_places nodesize units) a = (at.0, at.2, at.3) in
    let unit = from_flat_map (places_in nodesize) units a among in
    let node = from_map (λ (k : ℕ). 2 ^ 20 * unit.0 + nodesize * k) (range_with_len 0 (nodes_in_unit nodesize)) a unit.2 in
    let few : node.0 < nodes_in_unit nodesize = let within = (range_contains 0 (nodes_in_unit nodesize) node.0 node.1).1 in omega (arith, within) in
    let there : IsInNode nodesize (2 ^ 20 * unit.0 + nodesize * node.0) b = subst (λ (x : ℕ). IsInNode nodesize x b) (sym node.2) at.4 in
    subst (Contains units) (sym (stay_in_unit nodesize size unit.0 node.0 b few there)) unit.1
