-- The trees of the list one by one, and what holds of all trees that have a root item.
use Rattle.convert_core_laws.proofs.Imports.{◌≡◌, ◌∙◌, ℕ, ◌+◌, ◌-◌, ◌≤◌, List, [], ◌∷◌, ◌++◌, take, drop, map, inl, inr, sym, ap, ap₂, arith, take-add, drop-drop, map-append, All-cons, All-contains, All-nil, All, Contains, all_map, addresses, tree_at, StandsAt, all-with_all, behind_least, each_stands, every_tree, in-with_all, lengths_of, Making, slots, StandBehind, nodes_behind, slot_behind, NamedTree, TreeRoots, TreesStand, form, named, named_extents, named_in, named_trees, placed_in, placed_trees, root_from, PlacedTree, nodes_of_tree, TreeNode, new_trees, tree_number, NewTree, Item, Form, in_map, contains_head, Image, Super, MapRange, ReadsTree, ReadsTrees}
use Rattle.convert_core.specs.convert_steps.Standing.{items_of}

-- nodes behind others
pub behind : (n i j : ℕ) (list : List ℕ) (xs ys : List TreeNode) → addresses xs ≡ take i (drop n list) → addresses ys ≡ take j (drop (n + i) list) → addresses (xs ++ ys) ≡ take (i + j) (drop n list)
behind n i j list xs ys at also =
    map-append (λ (t : TreeNode). t.address) xs ys
    ∙ (ap₂ (λ (ps qs : List ℕ). ps ++ qs) at (also ∙ ap (take j) (sym (drop-drop i n list)))
    ∙ sym (take-add i j (drop n list)))

-- the nodes of trees one behind the other lie at the slots in their order
pub row_places : (image : Image) (form : Form) (list : List ℕ) (items : NewTree → List Item) (n : ℕ) (placed : List PlacedTree) → StandBehind image form list items n placed
    → addresses (nodes_behind form.nodesize list items n placed) ≡ take (slot_behind n placed - n) (drop n list)
row_places image form list items n [] stand = ap (λ (k : ℕ). take k (drop n list)) (none n)
  where
    none : (k : ℕ) → 0 ≡ k - k
    none k = omega arith
row_places image form list items n (p ∷ placed) stand =
    let rest = row_places image form list items (n + p.root.nodes) placed stand.1 in
    let least = behind_least (n + p.root.nodes) placed in
    let own : addresses (nodes_of_tree (tree_number p.tree) form.nodesize (lengths_of (items p.tree)) (drop n list)) ≡ take p.root.nodes (drop n list) =
    tree_at (tree_number p.tree) form.nodesize (lengths_of (items p.tree)) (drop n list) ∙ ap (λ (k : ℕ). take k (drop n list)) (sym stand.0.count) in
    behind n p.root.nodes (slot_behind (n + p.root.nodes) placed - (n + p.root.nodes)) list
    (nodes_of_tree (tree_number p.tree) form.nodesize (lengths_of (items p.tree)) (drop n list)) (nodes_behind form.nodesize list items (n + p.root.nodes) placed) own rest
    ∙ ap (λ (k : ℕ). take k (drop n list)) (sum p.root.nodes (slot_behind (n + p.root.nodes) placed) n least)
  where
    sum : (a end k : ℕ) → k + a ≤ end → a + (end - (k + a)) ≡ end - k
    sum a end k low = omega (arith, low)

-- ---- all trees that have a root item

module _ (image other : Image) (m : Making) (r : TreeRoots) (nodes : List TreeNode) where
  -- what holds of the extent tree and of each of the list holds of all
  pub every_named : (P : NamedTree → Type 0) → P (named_extents m r nodes) → ((t : NewTree) → P (named_in image other m r t)) → All P (named_trees image other m r nodes)
  every_named P extents each =
      all-with_all (λ (t : NamedTree). t.number) P (named_extents m r nodes ∷ []) (map (named image other m) (placed_trees r))
      (All-cons P (named_extents m r nodes) [] extents (All-nil P))
      (all_map P (named image other m) (placed_trees r) (λ p h. All-contains (λ (q : PlacedTree). P (named image other m q)) (placed_trees r) p (all_map (λ (q : PlacedTree). P (named image other m q)) (placed_in r) new_trees (λ t l. each t)) h))

  pub extents_named : Contains (named_trees image other m r nodes) (named_extents m r nodes)
  extents_named =
      in-with_all (λ (t : NamedTree). t.number) (named_extents m r nodes) (named_extents m r nodes ∷ []) (map (named image other m) (placed_trees r)) (inl (contains_head (named_extents m r nodes) []))

  pub is_named : (t : NewTree) → Contains (named_trees image other m r nodes) (named_in image other m r t)
  is_named t =
      in-with_all (λ (u : NamedTree). u.number) (named_in image other m r t) (named_extents m r nodes ∷ []) (map (named image other m) (placed_trees r))
      (inr (in_map (named image other m) (placed_trees r) (placed_in r t) (in_map (placed_in r) new_trees t (every_tree t))))

  module _ (new : Image) (stand : TreesStand image other new m r nodes) where
    -- each tree of the list stands at the slots from a number on
    pub tree_stands : (t : NewTree) → StandsAt (slots m) (items_of image other m) new (form m) (root_from r) (placed_in r t)
    tree_stands t =
        All-contains (StandsAt (slots m) (items_of image other m) new (form m) (root_from r)) (placed_trees r) (placed_in r t)
        (each_stands (slots m) (items_of image other m) new (form m) 0 (placed_trees r) stand.row) (in_map (placed_in r) new_trees t (every_tree t))

-- a tree of the list is read
pub tree_read : (image other : Image) (s : Super) (ranges : List MapRange) (m : Making) (r : TreeRoots) (nodes : List TreeNode) → ReadsTrees image other s ranges m r nodes → (t : NewTree)
    → ReadsTree other s ranges (tree_number t) (r.tree t) (items_of image other m t)
tree_read image other s ranges m r nodes reads t =
    All-contains (λ (x : NamedTree). ReadsTree other s ranges x.number x.root x.items) (named_trees image other m r nodes) (named_in image other m r t) reads.each (is_named image other m r nodes t)
