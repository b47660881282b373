-- Leaves that are found by their numbers.
use Rattle.reiser_make.proofs.Imports.{◌≡◌, ◌≤◌, ◌<◌, ℕ, zero, suc, ◌+◌, List, [], ◌∷◌, length, take, drop, get_or, refl, sym, ap, ◌∙◌, arith, length-drop, get_or-drop, ItemHead, IsToldLeaf, first_head, leaf_at, first_leaf, node_place, used_by, child, DiskChild, leaves, leaves_of, bytes_taken, Shape, items_behind, IsPacked, SampleItem, ItemPlace, Packed}
use Rattle.reiser_make.proofs.Packing.{drop_one_more}

-- where something is left, its first element is the one of that number
first_left : {X : Type 0} (all : List X) (m : ℕ) (x : X) (more : List X) (d : X) → drop m all ≡ x ∷ more → get_or all m d ≡ x
first_left all m x more d is =
    ap (λ k. get_or all k d) (let same : m ≡ m + 0 = omega arith in same) ∙ sym (get_or-drop m all 0 d) ∙ ap (λ z. get_or z 0 d) is

-- a leaf's first item is the first of what it is taken from
first_taken : (all : List SampleItem) (n : ℕ) → 1 ≤ n → first_head (take n all) ≡ first_head all
first_taken [] zero some = refl
first_taken [] (suc n) some = refl
first_taken (item ∷ all) zero some = absurd (omega arith)
first_taken (item ∷ all) (suc n) some = refl

module _ (s : Shape) (m : ℕ) (at : ItemPlace) (stands : leaves_of (items_behind s at) ≡ drop m (leaves s)) where
  pub none_left : items_behind s at ≡ [] → m < length (leaves s) → ⊥
  none_left none there =
      let size : length (drop m (leaves s)) ≡ 0 = ap length (sym stands ∙ ap leaves_of none) in
      omega (arith, size, length-drop m (leaves s), there)

  module _ (leaf : Packed) (packed : IsPacked s at leaf) where
    abbrev mine : List SampleItem
    mine = take leaf.count (items_behind s at)

    rest : drop m (leaves s) ≡ mine ∷ leaves_of (items_behind s leaf.end)
    rest = sym stands ∙ packed.is.1

    pub stands_more : leaves_of (items_behind s leaf.end) ≡ drop (m + 1) (leaves s)
    stands_more = sym (drop_one_more (leaves s) m mine (leaves_of (items_behind s leaf.end)) rest)

    pub leaf_is : leaf_at s m ≡ mine
    leaf_is = first_left (leaves s) m mine (leaves_of (items_behind s leaf.end)) [] rest

    pub found_leaf : IsToldLeaf s m (record { first = leaf.first; used = leaf.used })
    found_leaf = record {
      first = packed.is.0.first ∙ sym (first_taken (items_behind s at) leaf.count packed.is.0.some) ∙ sym (ap first_head leaf_is);
      used = packed.is.0.used ∙ sym (ap bytes_taken leaf_is);
      fits = packed.room.fits;
      offset = packed.room.offset;
    }

abbrev child_as : ItemHead → ℕ → ℕ → DiskChild
child_as head block size = record { head = head; block = block; size = size }

-- a node as its parent names it, by its parts
pub child_is : (s : Shape) (level m count leaf : ℕ) (head : ItemHead) (block size : ℕ) → count ≡ length (leaves s) → leaf ≡ first_leaf count level m
    → head ≡ first_head (leaf_at s leaf) → block ≡ node_place s level m → size ≡ used_by s level m → record { head = head; block = block; size = size } ≡ child s level m
unfolding child
child_is s level m count leaf head block size counted is-leaf is-head is-block is-size =
    ap (λ h. child_as h block size) (is-head ∙ ap (λ k. first_head (leaf_at s k)) (is-leaf ∙ ap (λ n. first_leaf n level m) counted))
    ∙ ap (λ b. child_as (first_head (leaf_at s (first_leaf (length (leaves s)) level m))) b size) is-block
    ∙ ap (child_as (first_head (leaf_at s (first_leaf (length (leaves s)) level m))) (node_place s level m)) is-size
