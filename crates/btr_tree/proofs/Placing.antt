-- Nodes that lie at their offsets stand at their slots, by each map of addresses that gives the slots these offsets.
use Rattle.btr_tree.proofs.Imports.{◌≡◌, ℕ, zero, suc, ◌+◌, ◌*◌, ◌/◌, ◌%◌, ◌^◌, ◌<◌, ◌≤◌, eqb, true, ◌&&◌, Bool, List, ◌++◌, length, Some, refl, sym, ◌∙◌, ap, arith, All, is_some, and_from, eq-eqb, Image, IsNodeSize, MapRange, identity, place, are_mapped, is_mapped, block_of_place, blocks_at, node_at, AreSlots, StandAt, StandBy, slot, MapsSlots}
use Rattle.btr_tree.proofs.Maps.{identity_gives}
use Rattle.btr_tree.proofs.OnDisk.{IsPlaced, placed}

module _ (image : Image) (ranges : List MapRange) where
  -- n blocks from an address on lie as far behind an offset
  abbrev pub Lie : ℕ → ℕ → ℕ → Type 0
  Lie n a at = (k : ℕ) → k < n → place ranges (a + 4096 * k) ≡ Some (at + 4096 * k)

  pub first_lies : (n a at : ℕ) → Lie (suc n) a at → place ranges a ≡ Some at
  first_lies n a at lie =
      ap (place ranges) (let e : a ≡ a + 4096 * 0 = omega arith in e) ∙ (lie 0 (omega arith) ∙ ap Some (let e : at + 4096 * 0 ≡ at = omega arith in e))

  pub rest_lies : (n a at : ℕ) → Lie (suc n) a at → Lie n (a + 4096) (at + 4096)
  rest_lies n a at lie = λ k h.
      ap (place ranges) (let e : a + 4096 + 4096 * k ≡ a + 4096 * suc k = omega arith in e)
      ∙ (lie (suc k) (omega arith) ∙ ap Some (let e : at + 4096 * suc k ≡ at + 4096 + 4096 * k = omega arith in e))

  blocks_lie : (n a at : ℕ) → Lie n a at → at + 4096 * n ≤ 2 ^ 64 → blocks_at image ranges n a ≡ blocks_at image identity n at
  blocks_lie zero a at lie fits = refl
  blocks_lie (suc n) a at lie fits =
      ap (λ p. block_of_place image p ++ blocks_at image ranges n (a + 4096)) (first_lies n a at lie ∙ sym (identity_gives at (omega arith)))
      ∙ ap (λ bytes. block_of_place image (place identity at) ++ bytes) (blocks_lie n (a + 4096) (at + 4096) (rest_lies n a at lie) (omega arith))

  all_mapped : (n a at : ℕ) → Lie n a at → are_mapped ranges n a ≡ true
  all_mapped zero a at lie = refl
  all_mapped (suc n) a at lie =
      and_from (is_some (place ranges a)) (are_mapped ranges n (a + 4096)) (ap is_some (first_lies n a at lie)) (all_mapped n (a + 4096) (at + 4096) (rest_lies n a at lie))

  pub stand_by : (n : ℕ) (slots offsets : List ℕ) (nodes : List (List ℕ)) → IsNodeSize n → AreSlots n offsets → MapsSlots ranges n slots offsets → length nodes ≤ length slots
      → StandAt image n offsets nodes → StandBy image ranges n slots nodes
  unfolding is_mapped node_at
  stand_by n slots offsets nodes size right maps few stand = record {
    mapped = λ i h.
        let inside : i < length slots = omega (arith, h, few) in
        and_from (eqb (slot slots i % 4096) 0) (are_mapped ranges (n / 4096) (slot slots i)) (eq-eqb (slot slots i % 4096) 0 (maps.whole i 0 inside)) (all_mapped (n / 4096) (slot slots i) (slot offsets i) (maps.places i inside));
    nodes_are = λ i h.
        let inside : i < length slots = omega (arith, h, few) in
        let inside' : i < length offsets = omega (arith, inside, maps.as_many) in
        let there : IsPlaced n (slot offsets i) = placed n (slot offsets i) size (right.aligned i 0 inside') (right.small i 0 inside') in
        blocks_lie (n / 4096) (slot slots i) (slot offsets i) (maps.places i inside) there.within ∙ stand i h;
  }

-- The map that gives each address itself gives slots that are their own offsets.
pub maps_itself : (n : ℕ) (slots : List ℕ) → IsNodeSize n → AreSlots n slots → MapsSlots identity n slots slots
maps_itself n slots size right = record {
  as_many = refl;
  whole = λ i d h. (placed n _ size (right.aligned i d h) (right.small i d h)).whole;
  places = λ i h k low.
      let there : IsPlaced n (slot slots i) = placed n (slot slots i) size (right.aligned i 0 h) (right.small i 0 h) in
      let fits : slot slots i + 4096 * (n / 4096) ≤ 2 ^ 64 = there.within in
      identity_gives (slot slots i + 4096 * k) (omega (arith, low, fits));
}
