-- Items that come one after the other.
use Rattle.std.specs.Prelude.{◌≡◌, ℕ, Bool, true, false, List, [], ◌∷◌, length}
use Rattle.btr_tree.specs.outside.History.{Image, block_at}
use Rattle.btr_tree.specs.btr_node.Leaf.{Item}
use Rattle.btr_tree.specs.Writing.{IsInSlots}

-- the next item came, or there is none more
abbrev pub ComesTo : {S : Type 0} → (S → Item → Type 0) → Bool → List Item → S → List Item → Type 0
ComesTo stands true before new after = (item : Item) × stands new item × (before ≡ item ∷ after)
ComesTo stands false before new after = (before ≡ []) × (after ≡ [])

-- the other disk has as many blocks, and the same where they are needed
pub record SameWhere (needs : ℕ → Type 0) (image other : Image) : Type 0 where
  pub as_many : length other ≡ length image
  pub blocks : (b : ℕ) → needs b → block_at other b ≡ block_at image b

-- no block that is needed is one of a node at the slots
abbrev pub LieApart : (ℕ → Type 0) → ℕ → List ℕ → Type 0
LieApart needs nodesize slots = (b : ℕ) → needs b → ¬ IsInSlots nodesize slots b
