-- A tree by two maps that agree on its nodes.
use Rattle.btr_tree.proofs.Imports.{◌≡◌, ℕ, zero, suc, ◌+◌, ◌-◌, ◌*◌, ◌/◌, ◌%◌, ◌^◌, ◌<◌, leb, ltb, eqb, Bool, true, ◌&&◌, List, ◌++◌, None, Some, Option, refl, sym, ◌∙◌, ap, arith, is_some, and_from, le-leb, lt-ltb, Image, Form, NodePointer, MapRange, place, holds, identity, are_mapped, is_mapped, block_of_place, blocks_at, node_at, GivesItself, MapsAgree}
use Rattle.btr_tree.proofs.Alike.{events_alike, items_alike}
use Rattle.btr_tree.proofs.WholesAlike.{whole_alike}

-- an address by the map that gives each address itself
pub identity_gives : (a : ℕ) → a < 2 ^ 64 → place identity a ≡ Some a
identity_gives a small =
    let inside : holds (record { logical = 0; length = 2 ^ 64; physical = 0; mirror = None }) a ≡ true = and_from (leb 0 a) (ltb a (0 + 2 ^ 64)) (le-leb 0 a (omega arith)) (lt-ltb a (0 + 2 ^ 64) (omega arith)) in
    let at : 0 + (a - 0) ≡ a = omega arith in rw inside (ap Some at)

module _ (image : Image) (ranges : List MapRange) where
  abbrev Same : ℕ → ℕ → Type 0
  Same n a = (j : ℕ) → j < n → place ranges (a + 4096 * j) ≡ place identity (a + 4096 * j)

  here : (n a : ℕ) → Same (suc n) a → place ranges a ≡ place identity a
  here n a same = let at : a ≡ a + 4096 * 0 = omega arith in ap (place ranges) at ∙ (same 0 (omega arith) ∙ ap (place identity) (sym at))

  further : (n a : ℕ) → Same (suc n) a → Same n (a + 4096)
  further n a same = λ j h. let at : a + 4096 + 4096 * j ≡ a + 4096 * suc j = omega arith in ap (place ranges) at ∙ (same (suc j) (omega arith) ∙ ap (place identity) (sym at))

  mapped_same : (n a : ℕ) → Same n a → are_mapped ranges n a ≡ are_mapped identity n a
  mapped_same zero a same = refl
  mapped_same (suc n) a same =
      ap (λ (o : Option ℕ). is_some o && are_mapped ranges n (a + 4096)) (here n a same)
      ∙ ap (λ (b : Bool). is_some (place identity a) && b) (mapped_same n (a + 4096) (further n a same))

  blocks_same : (n a : ℕ) → Same n a → blocks_at image ranges n a ≡ blocks_at image identity n a
  blocks_same zero a same = refl
  blocks_same (suc n) a same =
      ap (λ (o : Option ℕ). block_of_place image o ++ blocks_at image ranges n (a + 4096)) (here n a same)
      ∙ ap (λ bytes. block_of_place image (place identity a) ++ bytes) (blocks_same n (a + 4096) (further n a same))

  module _ (form : Form) where
    abbrev P : NodePointer → Type 0
    P p = GivesItself ranges form.nodesize p.address

    same_places : (p : NodePointer) → P p → Same (form.nodesize / 4096) p.address
    same_places p gives = λ j h. (gives j h).1 ∙ sym (identity_gives (p.address + 4096 * j) (gives j h).0)

    node_same : (p : NodePointer) → P p → node_at image ranges form.nodesize p.address ≡ node_at image identity form.nodesize p.address
    unfolding node_at
    node_same p gives = blocks_same (form.nodesize / 4096) p.address (same_places p gives)

    is_same : (p : NodePointer) → P p → is_mapped ranges form.nodesize p.address ≡ is_mapped identity form.nodesize p.address
    unfolding is_mapped
    is_same p gives = ap (λ (b : Bool). eqb (p.address % 4096) 0 && b) (mapped_same (form.nodesize / 4096) p.address (same_places p gives))

pub agree : MapsAgree
agree = λ image ranges form root owner all. record {
  events = events_alike image identity image ranges form (P image ranges form) (node_same image ranges form) (is_same image ranges form) root owner all;
  items = items_alike image identity image ranges form (P image ranges form) (node_same image ranges form) (is_same image ranges form) root owner all;
  whole = λ read chunk_tree are whole.
      whole_alike image identity image ranges form (P image ranges form) (node_same image ranges form) (is_same image ranges form) root owner chunk_tree read all are whole;
}
