-- Each node that the extent tree tells of is one that a walk meets, and the other way round.
use Rattle.convert_core_laws.proofs.Imports.{◌≡◌, ◌≢◌, ◌≤◌, ℕ, suc, ◌+◌, ◌-◌, eqb, Bool, cond, List, [], ◌∷◌, ◌++◌, length, map, take, drop, refl, sym, ap, ap₂, subst, ◌∙◌, ⊎_elim, arith, All, Contains, flat_map, sum_by, cases_eq, eq-eqb, ne_eqb, drop-take, take-take, All-append, All-contains, All-map, All-head, All-nil, All-tail, Contains-permutation, IsPermutation-sym, sum_by-cons, ROOT_TREE, Image, Ids, Recount, TreeOn, all_trees, Super, pointer_to, packed_leaves, tree_levels, level_pointers, lengths_of, NodePointer, Making, chunk_slots, slots, TreesStand, extents_from, nodes_from, nodes_of_others, root_from, root_tree_items, TreeRoots, named, named_extents, named_trees, placed_in, placed_trees, form, IsNewVolume, super_for, two_cases, in_flat_map, all_from_contains, contains_cases, contains_head, contains_tail, nodes_of_tree, TreeNode, all-merge, node_cmp, Options, recount_for, named_on, all_map, StandBehind, nodes_behind, PlacedTree, new_trees, tree_number}
use Rattle.std.proofs.Common.{sum}
use Rattle.convert_core.specs.convert_steps.Standing.{items_of}
use Rattle.convert_core_laws.proofs.soundness.Nodes.{AreAt, at_list, chunk_at, extents_at, later_give, packed_at, root_at}
use Rattle.convert_core_laws.proofs.soundness.Apart.{once}
use Rattle.convert_core_laws.proofs.soundness.Row.{chunked, extended, nodes_sum, row}
use Rattle.convert_core_laws.proofs.reading.Named.{extents_named, is_named}
use Rattle.convert_core_laws.proofs.soundness.Among.{rooted_there}

-- the nodes at the first slots of a list do not depend on the others
pub taken_pointers : (generation level skip c : ℕ) (list sizes : List ℕ) → skip + sum sizes ≤ c → level_pointers generation level skip (take c list) sizes ≡ level_pointers generation level skip list sizes
taken_pointers generation level skip c list [] few = refl
taken_pointers generation level skip c list (n ∷ sizes) few =
    let total : sum (n ∷ sizes) ≡ n + sum sizes = sum_by-cons (λ x. x) n sizes in
    let parts : skip + (c - skip) ≡ c = omega (arith, few) in
    let cut : drop skip (take c list) ≡ take (c - skip) (drop skip list) = ap (λ (k : ℕ). drop skip (take k list)) (sym parts) ∙ drop-take skip (c - skip) list in
    let here : take n (drop skip (take c list)) ≡ take n (drop skip list) = ap (take n) cut ∙ take-take n (c - skip) (drop skip list) (omega (arith, few, total)) in
    ap₂ (λ (ps qs : List NodePointer). ps ++ qs) (ap (map (pointer_to generation level)) here) (taken_pointers generation (suc level) (skip + n) c list sizes (omega (arith, few, total)))

-- how often an address is there
abbrev hits : ℕ → ℕ → ℕ
hits x a = cond (eqb a x) 1 0

part_of_sum : {X : Type 0} (f : X → ℕ) (xs : List X) (x : X) → Contains xs x → f x ≤ sum_by f xs
part_of_sum f [] x h = absurd (omega (arith, h.1))
part_of_sum {X} f (y ∷ ys) x h =
    let whole = sum_by-cons f y ys in
    ⊎_elim (λ (same : y ≡ x). let is : f y ≡ f x = ap f same in omega (arith, whole, is)) (λ (later : Contains ys x). let rest = part_of_sum f ys x later in omega (arith, whole, rest)) (contains_cases x y ys h)

-- an address that is there is that of a node
hit_there : (a : ℕ) (ts : List TreeNode) → 1 ≤ sum_by (λ t. hits a t.address) ts → (x : TreeNode) × Contains ts x × (x.address ≡ a)
hit_there a [] some = absurd (omega (arith, some))
hit_there a (t ∷ ts) some =
    ⊎_elim (λ (same : t.address ≡ a). (t, contains_head t ts, same))
    (λ (apart : t.address ≢ a).
    let whole = sum_by-cons (λ (u : TreeNode). hits a u.address) t ts in
    let none : hits a t.address ≡ 0 = ap (λ (b : Bool). cond b 1 0) (ne_eqb t.address a apart) in
    let rest = hit_there a ts (omega (arith, some, whole, none)) in
    (rest.0, contains_tail rest.0 t ts rest.1, rest.2))
    (cases_eq t.address a)

module _ (o : Options) (ids : Ids) (now : ℕ) (image other : Image) (m : Making) (r : TreeRoots) (nodes : List TreeNode) (v : IsNewVolume o ids now image other m r nodes) where
  abbrev stand : TreesStand image other other m r nodes
  stand = v.new.stands.trees

  abbrev s : Super
  s = super_for m r nodes

  abbrev k : Recount
  k = recount_for image other m r nodes

  abbrev n : ℕ
  n = m.options.nodesize

  -- a walk of a tree meets the node, and the tree is its owner
  pub record IsMet (x : TreeNode) : Type 0 where
    pub tree : TreeOn
    pub there : Contains (all_trees k) tree
    pub pointer : NodePointer
    pub met : Contains tree.nodes pointer
    pub is : x ≡ record { address = pointer.address; level = pointer.level; owner = tree.number }

  tree_told : (list : List ℕ) (t : TreeOn) → Contains (all_trees k) t → AreAt o ids now image other m r nodes v list t → All IsMet (nodes_of_tree t.number n (lengths_of t.items) list)
  tree_told list t there are =
      All-map IsMet (λ (p : NodePointer). record { address = p.address; level = p.level; owner = t.number }) (packed_at n list t.items)
      (all_from_contains (λ (p : NodePointer). IsMet (record { address = p.address; level = p.level; owner = t.number })) (packed_at n list t.items)
      (λ p h. record { tree = t; there = there; pointer = p; met = Contains-permutation (packed_at n list t.items) t.nodes p (IsPermutation-sym t.nodes (packed_at n list t.items) are) h; is = refl }))

  -- the root tree's nodes lie at the first of the slots behind the others
  root_told : All IsMet (nodes_from m ROOT_TREE (root_from r) (root_tree_items m r))
  root_told =
      let list : List ℕ = drop (root_from r) (slots m) in
      let few : 0 + sum (tree_levels n (length (packed_leaves n (lengths_of (root_tree_items m r))))) ≤ r.root.nodes = (let count = stand.root.count in omega (arith, count)) in
      let same : packed_at n (take r.root.nodes list) (root_tree_items m r) ≡ packed_at n list (root_tree_items m r) =
      taken_pointers 1 0 0 r.root.nodes list (tree_levels n (length (packed_leaves n (lengths_of (root_tree_items m r))))) few in
      subst (All IsMet) (ap (map (λ (p : NodePointer). record { address = p.address; level = p.level; owner = ROOT_TREE })) same)
      (tree_told (take r.root.nodes list) k.root_tree (1, omega arith, refl) (root_at o ids now image other m r nodes v))

  -- those of the trees that are written first
  first_told : (k : ℕ) (placed : List PlacedTree) → StandBehind other (form m) (slots m) (items_of image other m) k placed → All (λ p. Contains (named_trees image other m r nodes) (named image other m p)) placed
      → All IsMet (nodes_behind n (slots m) (items_of image other m) k placed)
  first_told k [] stands there = All-nil IsMet
  first_told k (p ∷ placed) stands there =
      let t : TreeOn = named_on other s (named image other m p) in
      let among = All-head (λ (q : PlacedTree). Contains (named_trees image other m r nodes) (named image other m q)) p placed there in
      All-append IsMet (nodes_of_tree (tree_number p.tree) n (lengths_of (items_of image other m p.tree)) (drop k (slots m))) (nodes_behind n (slots m) (items_of image other m) (k + p.root.nodes) placed)
      (tree_told (drop k (slots m)) t (rooted_there image other m r nodes (named image other m p) among)
      (at_list o ids now image other m r nodes v (drop k (slots m)) (tree_number p.tree) (items_of image other m p.tree) p.root stands.0 (later_give o ids now image other m r nodes v k)))
      (first_told (k + p.root.nodes) placed stands.1 (All-tail (λ (q : PlacedTree). Contains (named_trees image other m r nodes) (named image other m q)) p placed there))

  row_told : All IsMet (row o ids now image other m r nodes v)
  row_told =
      All-append IsMet (nodes_behind n (slots m) (items_of image other m) 0 (placed_trees r)) (nodes_from m ROOT_TREE (root_from r) (root_tree_items m r))
      (first_told 0 (placed_trees r) stand.row (all_map (λ (p : PlacedTree). Contains (named_trees image other m r nodes) (named image other m p)) (placed_in r) new_trees (λ t h. is_named image other m r nodes t))) root_told

  -- each node that is told is met
  pub all_told : All IsMet nodes
  all_told =
      let extents : TreeOn = named_on other s (named_extents m r nodes) in
      subst (All IsMet) (sym stand.nodes_are.is)
      (all-merge node_cmp IsMet (nodes_of_others image other m r) (extended o ids now image other m r nodes v)
      (all-merge node_cmp IsMet (row o ids now image other m r nodes v) (chunked o ids now image other m r nodes v) row_told (tree_told (chunk_slots m) k.chunk_tree (0, omega arith, refl) (chunk_at o ids now image other m r nodes v)))
      (tree_told (drop (extents_from r) (slots m)) extents (rooted_there image other m r nodes (named_extents m r nodes) (extents_named image other m r nodes)) (extents_at o ids now image other m r nodes v)))

  -- ---- each node that is met is told

  abbrev met : List NodePointer
  met = flat_map (λ (t : TreeOn). t.nodes) (all_trees k)

  -- the item of a node that is met
  pub record IsTold (p : NodePointer) : Type 0 where
    pub node : TreeNode
    pub there : Contains nodes node
    pub address_is : node.address ≡ p.address
    pub level_is : node.level ≡ p.level

  pub all_met : (t : TreeOn) (p : NodePointer) → Contains (all_trees k) t → Contains t.nodes p → IsTold p
  all_met t p h l =
      let a : ℕ = p.address in
      let among : Contains met p = in_flat_map (λ (x : TreeOn). x.nodes) (all_trees k) t p h l in
      let one : hits a p.address ≤ sum_by (λ (q : NodePointer). hits a q.address) met = part_of_sum (λ (q : NodePointer). hits a q.address) met p among in
      let hit : hits a p.address ≡ 1 = ap (λ (b : Bool). cond b 1 0) (eq-eqb a a refl) in
      let same = nodes_sum o ids now image other m r nodes v (hits a) in
      let at = hit_there a nodes (omega (arith, one, hit, same)) in
      by at.0 at.1 at.2 (All-contains IsMet nodes at.0 all_told at.1) among
    where
      same_place : (p q : NodePointer) → Contains met p → Contains met q → p.address ≡ q.address → p ≡ q
      same_place p q x y same =
          ⊎_elim (λ (e : p ≡ q). e) (λ either. ⊎_elim (λ (apart : p.address ≢ q.address). absurd (apart same)) (λ (apart : q.address ≢ p.address). absurd (apart (sym same))) either)
          (two_cases (λ (u w : NodePointer). u.address ≢ w.address) met p q (once o ids now image other m r nodes v) x y)

      by : (x : TreeNode) → Contains nodes x → x.address ≡ p.address → IsMet x → Contains met p → IsTold p
      by x there same is among =
          let beside : Contains met is.pointer = in_flat_map (λ (y : TreeOn). y.nodes) (all_trees k) is.tree is.pointer is.there is.met in
          let place : x.address ≡ is.pointer.address = ap (λ (y : TreeNode). y.address) is.is in
          let level : x.level ≡ is.pointer.level = ap (λ (y : TreeNode). y.level) is.is in
          let pointer : is.pointer ≡ p = same_place is.pointer p beside among (sym place ∙ same) in
          record { node = x; there = there; address_is = same; level_is = level ∙ ap (λ (q : NodePointer). q.level) pointer }
