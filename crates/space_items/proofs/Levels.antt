-- The nodes of a tree, one level after the other.
use Rattle.space_items.proofs.Imports.{◌≡◌, ⊎_elim, ℕ, zero, suc, ◌+◌, ◌-◌, ◌<◌, ◌≤◌, List, [], ◌∷◌, ◌++◌, length, map, get_or, take, drop, refl, sym, ◌∙◌, ap, ap₂, subst, arith, append_assoc, append-nil, sum, div_ceil, All, cases_lt, drop_more, drop_all, drop-drop, map-append, length_push, All-cons, All-nil, sum_by-cons, IsNodeSize, Tally, Counted, capacity, fan_out, packed_leaves, weight, tree_levels, level_sizes, level_pointers, NodePointer, nodes_at, TreeNode}
use Rattle.btr_tree.proofs.Climbing.{wide_fan}
use Rattle.btr_tree.proofs.Groups.{ends_in}
use Rattle.btr_tree.proofs.Sizes.{sizes-one, sizes-more, sizes-none, smaller}

-- no level that is listed is empty
pub full_levels : (d fan n : ℕ) → 121 ≤ fan → 1 ≤ n → All (λ m. 1 ≤ m) (level_sizes d fan n)
full_levels zero fan n wide some = subst (All (λ m. 1 ≤ m)) (sym (sizes-none fan n)) (All-nil (λ (m : ℕ). 1 ≤ m))
full_levels (suc d) fan n wide some =
    ⊎_elim
    (λ (more : 1 < n). subst (All (λ m. 1 ≤ m)) (sym (sizes-more d fan n more)) (All-cons (λ m. 1 ≤ m) n (level_sizes d fan (div_ceil n fan)) some (full_levels d fan (div_ceil n fan) wide (smaller n fan wide some).some)))
    (λ (one : n ≤ 1). subst (All (λ m. 1 ≤ m)) (sym (sizes-one d fan n one)) (All-cons (λ m. 1 ≤ m) n [] some (All-nil (λ (m : ℕ). 1 ≤ m))))
    (cases_lt 1 n)

-- nor are there too many of them
pub few_levels : (d fan n : ℕ) → length (level_sizes d fan n) ≤ d
few_levels zero fan n = omega (arith, ap length (sizes-none fan n))
few_levels (suc d) fan n =
    ⊎_elim
    (λ (more : 1 < n). omega (arith, ap length (sizes-more d fan n more), few_levels d fan (div_ceil n fan)))
    (λ (one : n ≤ 1). omega (arith, ap length (sizes-one d fan n one)))
    (cases_lt 1 n)

-- a tree has a leaf
pub some_leaf : (nodesize : ℕ) (lengths : List ℕ) → 1 ≤ length (packed_leaves nodesize lengths)
some_leaf nodesize lengths =
    let ends = ends_in weight (capacity nodesize) [] lengths in
    omega (arith, ap length ends.2, length_push ends.0 ends.1)

-- the levels of a tree whose items were counted
pub tree_full : (tally : Tally) (lengths : List ℕ) → IsNodeSize tally.nodesize → Counted tally lengths → All (λ n. 1 ≤ n) (tree_levels tally.nodesize tally.leaves)
tree_full tally lengths size counted = full_levels 256 (fan_out tally.nodesize) tally.leaves (wide_fan tally.nodesize size) (omega (arith, some_leaf tally.nodesize lengths, counted.count))

abbrev pub node_of : ℕ → NodePointer → TreeNode
node_of owner p = record { address = p.address; level = p.level; owner = owner }

-- the nodes of the levels from one on, which take the slots from one on
abbrev pub upper : ℕ → List ℕ → ℕ → ℕ → List ℕ → List TreeNode
upper owner slots level skip sizes = map (node_of owner) (level_pointers 1 level skip slots sizes)

pub map-map : {A B C : Type 0} (f : B → C) (g : A → B) (xs : List A) → map f (map g xs) ≡ map (λ x. f (g x)) xs
map-map f g [] = refl
map-map f g (x ∷ xs) = ap (λ zs. f (g x) ∷ zs) (map-map f g xs)

-- Nodes of the levels below one were added; `at` is the next slot.
pub record IsAdding (owner first : ℕ) (slots sizes : List ℕ) (old nodes : List TreeNode) (level at : ℕ) : Type 0 where
  pub low : first ≤ at
  pub enough : at + sum (drop level sizes) ≤ length slots
  pub rest : nodes ++ upper owner (drop first slots) level (at - first) (drop level sizes) ≡ old ++ upper owner (drop first slots) 0 0 sizes

module _ (owner first : ℕ) (slots sizes : List ℕ) (old : List TreeNode) where
  module _ (nodes : List TreeNode) (level at : ℕ) (so_far : IsAdding owner first slots sizes old nodes level at) where
    pub adding_ends : length sizes ≤ level → nodes ≡ old ++ upper owner (drop first slots) 0 0 sizes
    adding_ends past =
        let none : drop level sizes ≡ [] = drop_all level sizes past in
        sym (append-nil nodes) ∙ (ap (λ ns. nodes ++ upper owner (drop first slots) level (at - first) ns) (sym none) ∙ so_far.rest)

    pub adding_stops : All (λ n. 1 ≤ n) sizes → get_or sizes level 0 ≡ 0 → nodes ≡ old ++ upper owner (drop first slots) 0 0 sizes
    adding_stops full zeroth =
        ⊎_elim
        (λ (more : level < length sizes). let some : 1 ≤ get_or sizes level 0 = full level 0 more in absurd (omega (arith, some, zeroth)))
        (λ (past : length sizes ≤ level). adding_ends past)
        (cases_lt level (length sizes))

    module _ (more : level < length sizes) where
      abbrev n : ℕ
      n = get_or sizes level 0

      left : drop level sizes ≡ n ∷ drop (level + 1) sizes
      left = drop_more sizes level 0 more

      total : sum (drop level sizes) ≡ n + sum (drop (level + 1) sizes)
      total = ap sum left ∙ sum_by-cons (λ x. x) n (drop (level + 1) sizes)

      pub has_room : at + n ≤ length slots
      has_room = omega (arith, so_far.enough, total)

      here : take n (drop (at - first) (drop first slots)) ≡ take n (drop at slots)
      here = let there : first + (at - first) ≡ at = omega (arith, so_far.low) in ap (λ xs. take n xs) (drop-drop (at - first) first slots ∙ ap (λ (k : ℕ). drop k slots) there)

      own : upper owner (drop first slots) level (at - first) (drop level sizes) ≡ nodes_at owner level (take n (drop at slots)) ++ upper owner (drop first slots) (level + 1) (at + n - first) (drop (level + 1) sizes)
      own =
          let step : suc level ≡ level + 1 = omega arith in
          let on : at - first + n ≡ at + n - first = omega (arith, so_far.low) in
          ap (λ ns. upper owner (drop first slots) level (at - first) ns) left
          ∙ (map-append (node_of owner) (map (λ a. record { address = a; level = level; generation = 1 }) (take n (drop (at - first) (drop first slots)))) (level_pointers 1 (suc level) (at - first + n) (drop first slots) (drop (level + 1) sizes))
          ∙ (ap (λ ms. ms ++ upper owner (drop first slots) (suc level) (at - first + n) (drop (level + 1) sizes)) (map-map (node_of owner) (λ a. record { address = a; level = level; generation = 1 }) (take n (drop (at - first) (drop first slots))) ∙ ap (nodes_at owner level) here)
          ∙ ap₂ (λ (k l : ℕ). nodes_at owner level (take n (drop at slots)) ++ upper owner (drop first slots) k l (drop (level + 1) sizes)) step on))

      pub adding_goes_on : IsAdding owner first slots sizes old (nodes ++ nodes_at owner level (take n (drop at slots))) (level + 1) (at + n)
      adding_goes_on = record {
        low = omega (arith, so_far.low);
        enough = omega (arith, so_far.enough, total);
        rest = append_assoc nodes (nodes_at owner level (take n (drop at slots))) (upper owner (drop first slots) (level + 1) (at + n - first) (drop (level + 1) sizes)) ∙ (ap (λ ms. nodes ++ ms) (sym own) ∙ so_far.rest);
      }
