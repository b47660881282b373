-- A tree that stands is read by each map that gives the addresses of its slots themselves. Its root lies at a slot.
use Rattle.convert_core_laws.proofs.Imports.{◌≡◌, ◌≤◌, ◌<◌, ℕ, zero, suc, ◌+◌, ◌^◌, Bool, List, [], ◌∷◌, length, map, take, drop, Some, refl, sym, ap, subst, ◌∙◌, ⊎_elim, arith, All, div_ceil, sum, cases_lt, length_push, All-append, All-drop, All-head, All-map, All-nil, All-take, All-permutation, IsPermutation-sym, pow-suc, Image, BtrRefusal, Item, IsNodeSize, pointer_to, tree_nodes, GivesItself, IsSameBy, capacity, fan_out, packed_leaves, level_sizes, packed_from, tree_levels, weight, level_pointers, lengths_of, pointers_to, Root, agree, node_events, nodes_in, walk_events, may_be_bare, identity, bare_item, leaf_items, tree_refusals, when_sound, Form, MapRange, NodePointer, TreeStands, pointer_to_root}
use Rattle.convert_core.proofs.btr_tree.Groups.{ends_in}
use Rattle.convert_core.proofs.btr_tree.Sizes.{IsSmaller, sizes-more, sizes-none, sizes-one, smaller, sum-more, sum-one}

-- what holds of the slots holds of the addresses of nodes at them
level_all : (Q : ℕ → Type 0) (generation level skip : ℕ) (slots sizes : List ℕ) → All Q slots → All (λ p. Q p.address) (level_pointers generation level skip slots sizes)
level_all Q generation level skip slots [] all = All-nil (λ (p : NodePointer). Q p.address)
level_all Q generation level skip slots (n ∷ sizes) all =
    All-append (λ (p : NodePointer). Q p.address) (pointers_to generation level skip n slots) (level_pointers generation (suc level) (skip + n) slots sizes)
    (All-map (λ (p : NodePointer). Q p.address) (pointer_to generation level) (take n (drop skip slots)) (All-take Q n (drop skip slots) (All-drop Q skip slots all)))
    (level_all Q generation (suc level) (skip + n) slots sizes all)

-- the nodes of one level
one_level : (top generation level skip n : ℕ) (slots : List ℕ) → level ≤ top → All (λ p. p.level ≤ top) (pointers_to generation level skip n slots)
one_level top generation level skip n slots low =
    All-map (λ (p : NodePointer). p.level ≤ top) (pointer_to generation level) (take n (drop skip slots)) (λ k d h. low)

-- a tree with few leaves is not high
levels_low : (d e generation level skip fan n : ℕ) (slots : List ℕ) → 121 ≤ fan → 1 ≤ n → n ≤ 121 ^ d → All (λ p. p.level ≤ level + d) (level_pointers generation level skip slots (level_sizes e fan n))
levels_low d zero generation level skip fan n slots wide some few =
    subst (λ (sizes : List ℕ). All (λ (p : NodePointer). p.level ≤ level + d) (level_pointers generation level skip slots sizes)) (sym (sizes-none fan n)) (All-nil (λ (p : NodePointer). p.level ≤ level + d))
levels_low zero (suc e) generation level skip fan n slots wide some few =
    subst (λ (sizes : List ℕ). All (λ (p : NodePointer). p.level ≤ level + 0) (level_pointers generation level skip slots sizes)) (sym (sizes-one e fan n (omega (arith, few))))
    (All-append (λ (p : NodePointer). p.level ≤ level + 0) (pointers_to generation level skip n slots) [] (one_level (level + 0) generation level skip n slots (omega arith)) (All-nil (λ (p : NodePointer). p.level ≤ level + 0)))
levels_low (suc d) (suc e) generation level skip fan n slots wide some few =
    ⊎_elim
    (λ (more : 1 < n).
    let less : IsSmaller n (div_ceil n fan) = smaller n fan wide some in
    let fewer : div_ceil n fan ≤ 121 ^ d = omega (arith, less.few, few, pow-suc 121 d) in
    let rest : All (λ p. p.level ≤ suc level + d) (level_pointers generation (suc level) (skip + n) slots (level_sizes e fan (div_ceil n fan))) =
    levels_low d e generation (suc level) (skip + n) fan (div_ceil n fan) slots wide less.some fewer in
    let same : suc level + d ≡ level + suc d = omega arith in
    subst (λ (sizes : List ℕ). All (λ (p : NodePointer). p.level ≤ level + suc d) (level_pointers generation level skip slots sizes)) (sym (sizes-more e fan n more))
    (All-append (λ (p : NodePointer). p.level ≤ level + suc d) (pointers_to generation level skip n slots) (level_pointers generation (suc level) (skip + n) slots (level_sizes e fan (div_ceil n fan)))
    (one_level (level + suc d) generation level skip n slots (omega arith))
    (subst (λ (top : ℕ). All (λ (p : NodePointer). p.level ≤ top) (level_pointers generation (suc level) (skip + n) slots (level_sizes e fan (div_ceil n fan)))) same rest)))
    (λ (one : n ≤ 1).
    subst (λ (sizes : List ℕ). All (λ (p : NodePointer). p.level ≤ level + suc d) (level_pointers generation level skip slots sizes)) (sym (sizes-one e fan n one))
    (All-append (λ (p : NodePointer). p.level ≤ level + suc d) (pointers_to generation level skip n slots) [] (one_level (level + suc d) generation level skip n slots (omega arith)) (All-nil (λ (p : NodePointer). p.level ≤ level + suc d))))
    (cases_lt 1 n)

-- a tree has a leaf, and no more leaves than nodes
some_groups : (room : ℕ) (begun es : List ℕ) → 1 ≤ length (packed_from weight room begun es)
some_groups room begun es = let found = ends_in weight room begun es in omega (arith, ap length found.2, length_push found.0 found.1)

leaves_within : (d fan n : ℕ) → n ≤ sum (level_sizes (suc d) fan n)
leaves_within d fan n =
    ⊎_elim (λ (more : 1 < n). omega (arith, sum-more d fan n more)) (λ (one : n ≤ 1). omega (arith, sum-one d fan n one)) (cases_lt 1 n)

wide : (n : ℕ) → IsNodeSize n → 121 ≤ fan_out n
wide n size =
    ⊎_elim (λ (e : n ≡ 4096). omega arith) (λ rest. ⊎_elim (λ (e : n ≡ 8192). omega arith) (λ rest'. ⊎_elim (λ (e : n ≡ 16384). omega arith) (λ rest''. ⊎_elim (λ (e : n ≡ 32768). omega arith) (λ (e : n ≡ 65536). omega arith) rest'') rest') rest) size

-- a walk meets the root first
first_node : (image : Image) (ranges : List MapRange) (form : Form) (owner : ℕ) (bare : Bool) (level address generation : ℕ)
    → (rest : List NodePointer) × (nodes_in (node_events image ranges form owner bare level address generation) ≡ pointer_to generation level address ∷ rest)
unfolding node_events
first_node image ranges form owner bare zero address generation = (_, refl)
first_node image ranges form owner bare (suc level) address generation = (_, refl)

-- a tree is read with its items
pub record IsRead (image : Image) (ranges : List MapRange) (form : Form) (root : NodePointer) (owner : ℕ) (items : List Item) : Type 0 where
  pub sound : tree_refusals image ranges form root owner ≡ []
  pub items_are : map bare_item (leaf_items image ranges form root owner) ≡ items

some_items : (xs ys : List Item) → Some xs ≡ Some ys → xs ≡ ys
some_items xs ys is = cc

sound_is : (damages : List BtrRefusal) (xs ys : List Item) → when_sound damages xs ≡ Some ys → (damages ≡ []) × (xs ≡ ys)
sound_is [] xs ys is = (refl, some_items xs ys is)
sound_is (r ∷ rs) xs ys is = absurd (cc is)

module _ (image : Image) (form : Form) (owner : ℕ) (slots : List ℕ) (items : List Item) (root : Root) (stands : TreeStands image form owner slots items root) where
  abbrev sizes : List ℕ
  sizes = tree_levels form.nodesize (length (packed_leaves form.nodesize (lengths_of items)))

  abbrev met : List NodePointer
  met = nodes_in (walk_events image identity form (pointer_to_root root) owner)

  -- what holds of the nodes by their levels holds of the nodes that are met
  all_met : (P : NodePointer → Type 0) → All P (level_pointers 1 0 0 slots sizes) → All P met
  all_met P all = All-permutation P (level_pointers 1 0 0 slots sizes) met (IsPermutation-sym met (level_pointers 1 0 0 slots sizes) stands.nodes_are) all

  root_has : (P : NodePointer → Type 0) → All P met → P (pointer_to_root root)
  root_has P all =
      let first = first_node image identity form owner (may_be_bare (pointer_to_root root)) root.level root.address 1 in
      All-head P (pointer_to_root root) first.0 (subst (All P) first.1 all)

  pub root_at : (Q : ℕ → Type 0) → All Q slots → Q root.address
  root_at Q all = root_has (λ (p : NodePointer). Q p.address) (all_met (λ (p : NodePointer). Q p.address) (level_all Q 1 0 0 slots sizes all))

  pub read_by : (ranges : List MapRange) → All (GivesItself ranges form.nodesize) slots → IsRead image ranges form (pointer_to_root root) owner items
  read_by ranges all =
      let same : IsSameBy image ranges identity form (pointer_to_root root) owner =
      agree image ranges form (pointer_to_root root) owner
      (all_met (λ (p : NodePointer). GivesItself ranges form.nodesize p.address) (level_all (GivesItself ranges form.nodesize) 1 0 0 slots sizes all)) in
      let is = sound_is (tree_refusals image ranges form (pointer_to_root root) owner) (map bare_item (leaf_items image ranges form (pointer_to_root root) owner)) items (same.items ∙ stands.items_are) in
      record { sound = is.0; items_are = is.1 }

  -- with less than 2^40 slots the root's level is at most 6
  pub root_low : IsNodeSize form.nodesize → length slots ≤ 2 ^ 40 → root.level ≤ 6
  root_low size few =
      let leaf : ℕ = length (packed_leaves form.nodesize (lengths_of items)) in
      let some : 1 ≤ leaf = some_groups (capacity form.nodesize) [] (lengths_of items) in
      let most : leaf ≤ tree_nodes form.nodesize (lengths_of items) = leaves_within 255 (fan_out form.nodesize) leaf in
      let low : leaf ≤ 121 ^ 6 = omega (arith, most, few, stands.count, stands.few) in
      root_has (λ (p : NodePointer). p.level ≤ 6) (all_met (λ (p : NodePointer). p.level ≤ 6) (levels_low 6 256 1 0 0 (fan_out form.nodesize) leaf slots (wide form.nodesize size) some low))
