-- A tree on another disk that has the same blocks where its nodes lie.
use Rattle.btr_tree_writer.proofs.Imports.{◌≡◌, ℕ, zero, suc, ◌+◌, ◌-◌, ◌/◌, ◌^◌, ◌<◌, Bool, true, false, List, [], ◌∷◌, ◌++◌, if◌then◌else◌, length, take, drop, get_or, Some, None, refl, sym, ◌∙◌, ap, subst, arith, length-drop, All, sum, IsPermutation, length-take, get_or-take, get_or-drop, get_or_default, All-nil, All-append, All-map, sum_by-cons, Image, block_at, Form, place, holds, identity, block_of_place, blocks_at, node_at, TreeEvent, nodes_in, walk_events, tree_items, pointer_to, packed_leaves, tree_levels, level_pointers, pointers_to, lengths_of, TreesStandByNodes, pointer_of_root, TreeStandsBy, TreesStandByOffsets, Lie, first_lies, rest_lies, Root, Item, IsInSlots, MapRange}
use Rattle.std.proofs.lemmas.List.Sorted.{All-permutation, IsPermutation-sym}
use Rattle.btr_tree.specs.btr_reader_walk.declared.tree.NodePointer.{NodePointer}
use Rattle.btr_tree.proofs.Alike.{events_alike, items_alike}
use Rattle.btr_tree.proofs.WholesAlike.{whole_alike}

module _ (image other : Image) where
  -- the blocks of a node of n blocks are the same
  abbrev Same : ℕ → ℕ → Type 0
  Same n a = (j : ℕ) → j < n → block_at other (a / 4096 + j) ≡ block_at image (a / 4096 + j)

  tested : (t : Bool) (x : ℕ) → block_at other (x / 4096) ≡ block_at image (x / 4096)
      → block_of_place other (if t then Some x else None) ≡ block_of_place image (if t then Some x else None)
  tested true x same = same
  tested false x same = refl

  placed : (x : ℕ) → block_at other (x / 4096) ≡ block_at image (x / 4096) → block_of_place other (place identity x) ≡ block_of_place image (place identity x)
  placed x same =
      let at : x ≡ 0 + (x - 0) = omega arith in
      tested (holds (record { logical = 0; length = 2 ^ 64; physical = 0; mirror = None }) x) (0 + (x - 0)) (subst (λ (y : ℕ). block_at other (y / 4096) ≡ block_at image (y / 4096)) at same)

  here : (n a : ℕ) → Same (suc n) a → block_at other (a / 4096) ≡ block_at image (a / 4096)
  here n a same =
      let at : a / 4096 + 0 ≡ a / 4096 = omega arith in
      subst (λ (b : ℕ). block_at other b ≡ block_at image b) at (same 0 (omega arith))

  further : (n a : ℕ) → Same (suc n) a → Same n (a + 4096)
  further n a same = λ j h.
      let at : a / 4096 + suc j ≡ (a + 4096) / 4096 + j = omega arith in
      subst (λ (b : ℕ). block_at other b ≡ block_at image b) at (same (suc j) (omega (arith, h)))

  blocks_same : (n a : ℕ) → Same n a → blocks_at other identity n a ≡ blocks_at image identity n a
  blocks_same zero a same = refl
  blocks_same (suc n) a same =
      ap (λ (b : List ℕ). b ++ blocks_at other identity n (a + 4096)) (placed a (here n a same))
      ∙ ap (λ (bytes : List ℕ). block_of_place image (place identity a) ++ bytes) (blocks_same n (a + 4096) (further n a same))

  -- and so where a map of addresses gives the node at an offset, and the blocks there are the same
  blocks_there : (ranges : List MapRange) (n a at : ℕ) → Lie image ranges n a at → Same n at → blocks_at other ranges n a ≡ blocks_at image ranges n a
  blocks_there ranges zero a at lie same = refl
  blocks_there ranges (suc n) a at lie same =
      let first = first_lies image ranges n a at lie in
      ap (λ (b : List ℕ). b ++ blocks_at other ranges n (a + 4096)) (ap (block_of_place other) first ∙ (here n at same ∙ sym (ap (block_of_place image) first)))
      ∙ ap (λ (bytes : List ℕ). block_of_place image (place ranges a) ++ bytes) (blocks_there ranges n (a + 4096) (at + 4096) (rest_lies image ranges n a at lie) (further n at same))

  -- the node at an address is the same by a map
  abbrev SameNode : List MapRange → ℕ → ℕ → Type 0
  SameNode ranges nodesize a = node_at other ranges nodesize a ≡ node_at image ranges nodesize a

-- what holds of the first slots holds of the addresses of nodes at them
level_all : (Q : ℕ → Type 0) (generation level skip : ℕ) (slots sizes : List ℕ) → ((i d : ℕ) → i < skip + sum sizes → i < length slots → Q (get_or slots i d))
    → All (λ p. Q p.address) (level_pointers generation level skip slots sizes)
level_all Q generation level skip slots [] each = All-nil (λ (p : NodePointer). Q p.address)
level_all Q generation level skip slots (n ∷ sizes) each =
    let total = sum_by-cons (λ (x : ℕ). x) n sizes in
    All-append (λ (p : NodePointer). Q p.address) (pointers_to generation level skip n slots) (level_pointers generation (suc level) (skip + n) slots sizes)
    (All-map (λ (p : NodePointer). Q p.address) (pointer_to generation level) (take n (drop skip slots))
    (λ k d inside.
    let early : k < n = omega (arith, inside, length-take n (drop skip slots)) in
    subst Q (sym (get_or-take n (drop skip slots) k d early ∙ get_or-drop skip slots k d))
    (each (skip + k) d (omega (arith, early, total)) (omega (arith, inside, length-take n (drop skip slots), length-drop skip slots)))))
    (level_all Q generation (suc level) (skip + n) slots sizes (λ i d low within. each i d (omega (arith, low, total)) within))

-- where the nodes at the first slots are the same
stands_alike : (image other : Image) (ranges : List MapRange) (form : Form) (generation owner : ℕ) (slots : List ℕ) (items : List Item) (root : Root)
    → ((i d : ℕ) → i < root.nodes → i < length slots → SameNode image other ranges form.nodesize (get_or slots i d))
    → TreeStandsBy image ranges form generation owner slots items root → TreeStandsBy other ranges form generation owner slots items root
stands_alike image other ranges form generation owner slots items root same stands =
    let sizes : List ℕ = tree_levels form.nodesize (length (packed_leaves form.nodesize (lengths_of items))) in
    let p : NodePointer = pointer_of_root generation root in
    let old : List TreeEvent = walk_events image ranges form p owner in
    let P : NodePointer → Type 0 = λ q. SameNode image other ranges form.nodesize q.address in
    let met = level_all (SameNode image other ranges form.nodesize) generation 0 0 slots sizes (λ i d low within. same i d (omega (arith, low, stands.count)) within) in
    let all = All-permutation P (level_pointers generation 0 0 slots sizes) (nodes_in old) (IsPermutation-sym (nodes_in old) (level_pointers generation 0 0 slots sizes) stands.nodes_are) met in
    let events : walk_events other ranges form p owner ≡ old = events_alike image ranges other ranges form P (λ q is. is) (λ q is. refl) p owner all in
    let items-same : tree_items other ranges form p owner ≡ tree_items image ranges form p owner = items_alike image ranges other ranges form P (λ q is. is) (λ q is. refl) p owner all in
    record {
      items_are = items-same ∙ stands.items_are;
      nodes_are = subst (λ (es : List TreeEvent). IsPermutation (nodes_in es) (level_pointers generation 0 0 slots sizes)) (sym events) stands.nodes_are;
      count = stands.count;
      few = stands.few;
      whole = (
        stands.whole.0,
        whole_alike image ranges other ranges form P (λ q is. is) (λ q is. refl) p owner stands.whole.0 items all stands.items_are stands.whole.1,
      );
    }

-- a block of a node at one of the first offsets is one of theirs
first_blocks : (nodesize n i d : ℕ) (offsets : List ℕ) → i < n → i < length offsets → (j : ℕ) → j < nodesize / 4096 → IsInSlots nodesize (take n offsets) (get_or offsets i d / 4096 + j)
first_blocks nodesize n i d offsets early within j h =
    let a : ℕ = get_or offsets i d in (
      i,
      a,
      omega (arith, early, within, length-take n offsets),
      get_or-take n offsets i a early ∙ get_or_default offsets i a d within,
      (omega arith, omega (arith, h)),
    )

pub by_nodes : TreesStandByNodes
unfolding node_at
by_nodes = λ image other form owner slots items root same stands.
    stands_alike image other identity form 1 owner slots items root
    (λ i d early within. blocks_same image other (form.nodesize / 4096) (get_or slots i d) (λ j h. same (get_or slots i d / 4096 + j) (first_blocks form.nodesize root.nodes i d slots early within j h))) stands

pub by_offsets : TreesStandByOffsets
unfolding node_at
by_offsets = λ image other ranges form generation owner slots offsets items root maps same stands.
    stands_alike image other ranges form generation owner slots items root
    (λ i d early within.
    let inside : i < length offsets = omega (arith, within, maps.as_many) in
    subst (SameNode image other ranges form.nodesize) (get_or_default slots i 0 d within)
    (blocks_there image other ranges (form.nodesize / 4096) (get_or slots i 0) (get_or offsets i 0) (maps.places i within)
    (λ j h. same (get_or offsets i 0 / 4096 + j) (first_blocks form.nodesize root.nodes i 0 offsets early inside j h)))) stands
