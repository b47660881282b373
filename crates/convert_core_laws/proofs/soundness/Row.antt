-- The nodes that the extent tree tells of are those of all trees, each once.
use Rattle.convert_core_laws.proofs.Imports.{◌≡◌, ◌≢◌, ◌⊎◌, ◌≤◌, ◌<◌, ℕ, zero, suc, ◌+◌, ◌-◌, ◌/◌, ◌^◌, inl, inr, List, [], ◌∷◌, ◌++◌, length, take, drop, get_or, refl, sym, ap, subst, ◌∙◌, ⊎_elim, arith, map, ap₂, All, AllPairs, Contains, flat_map, sum_by, nat_cmp, Ordering, Less, Equal, Greater, cases_lt, All-contains, All-contains_itself, All-drop, All-take, sum_by-IsPermutation, sum_by-append, sum_by-cons, CHUNK_TREE, EXTENT_TREE, ROOT_TREE, Image, Ids, Recount, TreeOn, all_trees, Super, tree_nodes, lengths_of, NodePointer, IsMaking, Making, chunk_slots, new_ids, slots, TreesStand, extents_from, nodes_from, nodes_of_others, root_from, root_tree_items, TreeRoots, NamedTree, named, named_extents, named_trees, placed_trees, form, sound, slot_unit, IsNewVolume, super_for, all_at, pairs_head, pairs_tail, sum_mapped, contains_cases, contains_head, contains_tail, used_of, chunk_items, extent_items, merged_nodes, nodes_of_tree, TreeNode, addresses, tree_at, all-merge, merge, merge-greater, merge-less, nat_greater, nat_less, node_cmp, used_few, places_serve, Options, in_map, recount_for, named_on, sum-with_all, StandBehind, nodes_behind, PlacedTree, tree_number}
use Rattle.convert_core.specs.convert_steps.Standing.{items_of}
use Rattle.convert_core_laws.proofs.soundness.Nodes.{AreAt, at_list, chunk_at, extents_at, later_give, packed_at, root_at}
use Rattle.convert_core_laws.proofs.soundness.Unreserved.{fit_size, slot_holds}
use Rattle.convert_core_laws.proofs.reading.Named.{behind, row_places}

-- ---- lists

by_order : {P : Type 0} (k : Ordering) → (k ≡ Less → P) → (k ≡ Equal → P) → (k ≡ Greater → P) → P
by_order Less a b c = a refl
by_order Equal a b c = b refl
by_order Greater a b c = c refl

-- a sum over a merged list, where no element of one list is equal to one of the other
module _ {X : Type 0} (cmp : X → X → Ordering) (f : X → ℕ) where
  abbrev Apart : List X → List X → Type 0
  Apart xs ys = (x y : X) → Contains xs x → Contains ys y → cmp x y ≡ Equal → ⊥

  sum_at : (x : X) (xs : List X) → ((ys : List X) → Apart xs ys → sum_by f (merge cmp xs ys) ≡ sum_by f xs + sum_by f ys) → (ys : List X) → Apart (x ∷ xs) ys → sum_by f (merge cmp (x ∷ xs) ys) ≡ sum_by f (x ∷ xs) + sum_by f ys
  sum_at x xs on [] apart = omega arith
  sum_at x xs on (y ∷ ys) apart =
      by_order (cmp x y)
      (λ e. omega (arith, ap (sum_by f) (merge-less cmp x xs y ys e), sum_by-cons f x (merge cmp xs (y ∷ ys)), on (y ∷ ys) (λ a b h k. apart a b (contains_tail a x xs h) k), sum_by-cons f x xs))
      (λ e. absurd (apart x y (contains_head x xs) (contains_head y ys) e))
      (λ e. omega (arith, ap (sum_by f) (merge-greater cmp x xs y ys e), sum_by-cons f y (merge cmp (x ∷ xs) ys), sum_at x xs on ys (λ a b h k. apart a b h (contains_tail b y ys k)), sum_by-cons f y ys))

  pub sum_merged : (xs ys : List X) → Apart xs ys → sum_by f (merge cmp xs ys) ≡ sum_by f xs + sum_by f ys
  sum_merged [] ys apart = omega arith
  sum_merged (x ∷ xs) ys apart = sum_at x xs (λ zs far. sum_merged xs zs far) ys apart

not_less : Less ≡ Equal → ⊥
not_less e = cc e

not_greater : Greater ≡ Equal → ⊥
not_greater e = cc e

-- different numbers are not equal by their order
pub differ : (a b : ℕ) → a ≢ b → nat_cmp a b ≡ Equal → ⊥
differ a b apart e =
    ⊎_elim (λ (less : a < b). not_less (sym (nat_less a b less) ∙ e))
    (λ (rest : b ≤ a). ⊎_elim (λ (more : b < a). not_greater (sym (nat_greater a b more) ∙ e)) (λ (end : a ≤ b). apart (omega (arith, rest, end))) (cases_lt b a))
    (cases_lt a b)

-- of an ascending list the first elements are below the others
pub parted : (n : ℕ) (xs : List ℕ) (a b : ℕ) → AllPairs (λ x y. x < y) xs → Contains (take n xs) a → Contains (drop n xs) b → a < b
parted zero xs a b up h k = absurd (omega (arith, h.1))
parted (suc n) [] a b up h k = absurd (omega (arith, h.1))
parted (suc n) (x ∷ xs) a b up h k =
    ⊎_elim
    (λ (same : x ≡ a).
    let later : Contains xs b = All-contains (Contains xs) (drop n xs) b (All-drop (Contains xs) n xs (All-contains_itself xs)) k in
    subst (λ (y : ℕ). y < b) same (all_at (λ (y : ℕ). x < y) xs b (pairs_head (λ (y z : ℕ). y < z) x xs up) later))
    (λ (later : Contains (take n xs) a). parted n xs a b (pairs_tail (λ (y z : ℕ). y < z) x xs up) later k)
    (contains_cases a x (take n xs) h)

module _ (o : Options) (ids : Ids) (now : ℕ) (image other : Image) (m : Making) (r : TreeRoots) (nodes : List TreeNode) (v : IsNewVolume o ids now image other m r nodes) where
  abbrev making : IsMaking image m
  making = v.new.conversion.making

  abbrev stand : TreesStand image other other m r nodes
  stand = v.new.stands.trees

  abbrev s : Super
  s = super_for m r nodes

  abbrev k : Recount
  k = recount_for image other m r nodes

  abbrev n : ℕ
  n = m.options.nodesize

  -- ---- slots ascend, and those of the chunk tree are no others

  pub slots_ascend : AllPairs (λ a b. a < b) (slots m)
  slots_ascend =
      let plan = (sound m.volume image m.options m.plan m.pieces making.has_pieces).metadata in
      (places_serve n (length (used_of image) / 256) m.plan.metadata (fit_size o ids now image other m r nodes v) few plan.ascending inside).ascending
    where
      few : length (used_of image) / 256 < 2 ^ 43
      few = let small = used_few image m making in omega (arith, small)

      inside : All (λ u. u < length (used_of image) / 256) m.plan.metadata
      inside = λ i d h. let free = (sound m.volume image m.options m.plan m.pieces making.has_pieces).metadata.free i d h in let end = free.inside in omega (arith, end)

  pub slots_apart : (a : ℕ) → Contains (chunk_slots m) a → Contains (slots m) a → ⊥
  slots_apart a h l =
      let size = fit_size o ids now image other m r nodes v in
      let some : a < a + n = some_size in
      let one : Contains m.plan.system (a / 4096 / 256) = slot_unit n m.plan.system (a / 4096) size (slot_holds n size m.plan.system a a h (omega arith) some) in
      let two : Contains m.plan.metadata (a / 4096 / 256) = slot_unit n m.plan.metadata (a / 4096) size (slot_holds n size m.plan.metadata a a l (omega arith) some) in
      (sound m.volume image m.options m.plan m.pieces making.has_pieces).system_metadata (a / 4096 / 256) one two
    where
      some_size : a < a + n
      some_size =
          ⊎_elim (λ (e : n ≡ 4096). omega (arith, e)) (λ rest. ⊎_elim (λ (e : n ≡ 8192). omega (arith, e)) (λ rest'. ⊎_elim (λ (e : n ≡ 16384). omega (arith, e)) (λ rest''. ⊎_elim (λ (e : n ≡ 32768). omega (arith, e)) (λ (e : n ≡ 65536). omega (arith, e)) rest'') rest') rest)
          (fit_size o ids now image other m r nodes v)

  -- ---- the row of the trees

  abbrev first : List TreeNode
  first = nodes_behind n (slots m) (items_of image other m) 0 (placed_trees r)

  abbrev rooted : List TreeNode
  rooted = nodes_from m ROOT_TREE (root_from r) (root_tree_items m r)

  abbrev pub chunked : List TreeNode
  chunked = nodes_of_tree CHUNK_TREE n (lengths_of (chunk_items (new_ids m) m.volume.sup.blocks m.chunks)) (chunk_slots m)

  abbrev pub extended : List TreeNode
  extended = nodes_from m EXTENT_TREE (extents_from r) (extent_items m.chunks m.pieces nodes n)

  abbrev pub row : List TreeNode
  row = first ++ rooted

  pub row_ends : addresses row ≡ take (extents_from r) (slots m)
  row_ends =
      let last : addresses rooted ≡ take r.root.nodes (drop (root_from r) (slots m)) =
      tree_at ROOT_TREE n (lengths_of (root_tree_items m r)) (drop (root_from r) (slots m)) ∙ ap (λ (c : ℕ). take c (drop (root_from r) (slots m))) (sym stand.root.count) in
      let before : addresses first ≡ take (root_from r) (slots m) =
      row_places other (form m) (slots m) (items_of image other m) 0 (placed_trees r) stand.row ∙ ap (λ (c : ℕ). take c (slots m)) (whole (root_from r)) in
      behind 0 (root_from r) r.root.nodes (slots m) first rooted before (subst (λ (c : ℕ). addresses rooted ≡ take r.root.nodes (drop c (slots m))) (none (root_from r)) last)
    where
      whole : (c : ℕ) → c - 0 ≡ c
      whole c = omega arith

      none : (c : ℕ) → c ≡ 0 + c
      none c = omega arith

  -- where the node of a list lies
  in_row : (t : TreeNode) → Contains row t → Contains (take (extents_from r) (slots m)) t.address
  in_row t h = subst (λ (l : List ℕ). Contains l t.address) row_ends (in_map (λ (x : TreeNode). x.address) row t h)

  in_chunked : (t : TreeNode) → Contains chunked t → Contains (chunk_slots m) t.address
  in_chunked t h =
      let all : Contains (take (tree_nodes n (lengths_of (chunk_items (new_ids m) m.volume.sup.blocks m.chunks))) (chunk_slots m)) t.address =
      subst (λ (l : List ℕ). Contains l t.address) (tree_at CHUNK_TREE n (lengths_of (chunk_items (new_ids m) m.volume.sup.blocks m.chunks)) (chunk_slots m)) (in_map (λ (x : TreeNode). x.address) chunked t h) in
      within (chunk_slots m) (tree_nodes n (lengths_of (chunk_items (new_ids m) m.volume.sup.blocks m.chunks))) t.address all
    where
      within : (list : List ℕ) (c a : ℕ) → Contains (take c list) a → Contains list a
      within list c a k = All-contains (Contains list) (take c list) a (All-take (Contains list) c list (All-contains_itself list)) k

  in_extended : (t : TreeNode) → Contains extended t → Contains (drop (extents_from r) (slots m)) t.address
  in_extended t h =
      let list : List ℕ = drop (extents_from r) (slots m) in
      let c : ℕ = tree_nodes n (lengths_of (extent_items m.chunks m.pieces nodes n)) in
      let all : Contains (take c list) t.address = subst (λ (l : List ℕ). Contains l t.address) (tree_at EXTENT_TREE n (lengths_of (extent_items m.chunks m.pieces nodes n)) list) (in_map (λ (x : TreeNode). x.address) extended t h) in
      All-contains (Contains list) (take c list) t.address (All-take (Contains list) c list (All-contains_itself list)) all

  taken_slot : (c a : ℕ) → Contains (take c (slots m)) a → Contains (slots m) a
  taken_slot c a h = All-contains (Contains (slots m)) (take c (slots m)) a (All-take (Contains (slots m)) c (slots m) (All-contains_itself (slots m))) h

  left_slot : (c a : ℕ) → Contains (drop c (slots m)) a → Contains (slots m) a
  left_slot c a h = All-contains (Contains (slots m)) (drop c (slots m)) a (All-drop (Contains (slots m)) c (slots m) (All-contains_itself (slots m))) h

  -- ---- sums over all nodes

  module _ (f : ℕ → ℕ) where
    abbrev at : TreeNode → ℕ
    at t = f t.address

    abbrev met_at : NodePointer → ℕ
    met_at p = f p.address

    first_merge : sum_by at (merged_nodes row chunked) ≡ sum_by at row + sum_by at chunked
    first_merge =
        sum_merged node_cmp at row chunked
        (λ x y h l. differ x.address y.address (λ e. slots_apart y.address (in_chunked y l) (subst (λ (a : ℕ). Contains (slots m) a) e (taken_slot (extents_from r) x.address (in_row x h)))))

    abbrev InFirst : TreeNode → Type 0
    InFirst t = Contains (take (extents_from r) (slots m)) t.address ⊎ Contains (chunk_slots m) t.address

    first_lies : All InFirst (merged_nodes row chunked)
    first_lies = all-merge node_cmp InFirst row chunked (λ i d h. inl (in_row (get_or row i d) (All-contains_itself row i d h))) (λ i d h. inr (in_chunked (get_or chunked i d) (All-contains_itself chunked i d h)))

    second_merge : sum_by at (merged_nodes (nodes_of_others image other m r) extended) ≡ sum_by at (nodes_of_others image other m r) + sum_by at extended
    second_merge =
        sum_merged node_cmp at (nodes_of_others image other m r) extended
        (λ x y h l. differ x.address y.address (λ e. apart x y (All-contains InFirst (nodes_of_others image other m r) x first_lies h) (in_extended y l) e))
      where
        apart : (x y : TreeNode) → InFirst x → Contains (drop (extents_from r) (slots m)) y.address → x.address ≡ y.address → ⊥
        apart x y first l e =
            ⊎_elim (λ low. let less = parted (extents_from r) (slots m) x.address y.address slots_ascend low l in omega (arith, less, e))
            (λ chunk. slots_apart x.address chunk (subst (λ (a : ℕ). Contains (slots m) a) (sym e) (left_slot (extents_from r) y.address l))) first

    -- the nodes of a tree
    tree_sum : (owner : ℕ) (list : List ℕ) (t : TreeOn) → AreAt o ids now image other m r nodes v list t → sum_by met_at t.nodes ≡ sum_by at (nodes_of_tree owner n (lengths_of t.items) list)
    tree_sum owner list t are =
        sym (sum_by-IsPermutation met_at t.nodes (packed_at n list t.items) are)
        ∙ sym (sum_mapped (λ (p : NodePointer). record { address = p.address; level = p.level; owner = owner }) at (packed_at n list t.items))

    told_sum : sum_by at nodes ≡ sum_by at first + sum_by at rooted + sum_by at chunked + sum_by at extended
    told_sum =
        let all = ap (sum_by at) stand.nodes_are.is in
        let one = first_merge in
        let two = second_merge in
        let parts = sum_by-append at first rooted in
        omega (arith, all, one, two, parts)

    -- the root tree's slots end with its nodes
    root_sum : sum_by met_at k.root_tree.nodes ≡ sum_by at rooted
    root_sum =
        let list : List ℕ = drop (root_from r) (slots m) in
        let first = tree_sum ROOT_TREE (take r.root.nodes list) k.root_tree (root_at o ids now image other m r nodes v) in
        let here = sym (sum_mapped (λ (t : TreeNode). t.address) f (nodes_of_tree ROOT_TREE n (lengths_of (root_tree_items m r)) (take r.root.nodes list))) in
        let there = sum_mapped (λ (t : TreeNode). t.address) f (nodes_of_tree ROOT_TREE n (lengths_of (root_tree_items m r)) list) in
        let one = tree_at ROOT_TREE n (lengths_of (root_tree_items m r)) (take r.root.nodes list) in
        let two = tree_at ROOT_TREE n (lengths_of (root_tree_items m r)) list in
        let count : tree_nodes n (lengths_of (root_tree_items m r)) ≡ r.root.nodes = sym stand.root.count in
        let same : take (tree_nodes n (lengths_of (root_tree_items m r))) (take r.root.nodes list) ≡ take (tree_nodes n (lengths_of (root_tree_items m r))) list =
        subst (λ (c : ℕ). take c (take r.root.nodes list) ≡ take c list) (sym count) (take_twice r.root.nodes list) in
        first ∙ (here ∙ (ap (sum_by f) (one ∙ (same ∙ sym two)) ∙ there))
      where
        take_twice : (c : ℕ) (xs : List ℕ) → take c (take c xs) ≡ take c xs
        take_twice zero xs = refl
        take_twice (suc c) [] = refl
        take_twice (suc c) (x ∷ xs) = ap (λ (l : List ℕ). x ∷ l) (take_twice c xs)

    -- one tree more
    one_more : (t : TreeOn) (ts : List TreeOn) → sum_by met_at (flat_map (λ (u : TreeOn). u.nodes) (t ∷ ts)) ≡ sum_by met_at t.nodes + sum_by met_at (flat_map (λ (u : TreeOn). u.nodes) ts)
    one_more t ts = sum_by-append met_at t.nodes (flat_map (λ (u : TreeOn). u.nodes) ts)

    -- how many those of one are
    abbrev weight : NamedTree → ℕ
    weight t = sum_by met_at (named_on other s t).nodes

    by_trees : (ts : List NamedTree) → sum_by met_at (flat_map (λ (u : TreeOn). u.nodes) (map (named_on other s) ts)) ≡ sum_by weight ts
    by_trees [] = refl
    by_trees (t ∷ ts) = one_more (named_on other s t) (map (named_on other s) ts) ∙ (ap (λ (c : ℕ). weight t + c) (by_trees ts) ∙ sym (sum_by-cons weight t ts))

    -- those of the trees that are written first
    by_row : (k : ℕ) (placed : List PlacedTree) → StandBehind other (form m) (slots m) (items_of image other m) k placed
        → sum_by weight (map (named image other m) placed) ≡ sum_by at (nodes_behind n (slots m) (items_of image other m) k placed)
    by_row k [] stands = refl
    by_row k (p ∷ placed) stands =
        let t : TreeOn = named_on other s (named image other m p) in
        let list : List ℕ = drop k (slots m) in
        let own = tree_sum (tree_number p.tree) list t (at_list o ids now image other m r nodes v list (tree_number p.tree) (items_of image other m p.tree) p.root stands.0 (later_give o ids now image other m r nodes v k)) in
        sum_by-cons weight (named image other m p) (map (named image other m) placed)
        ∙ (ap₂ (λ (c d : ℕ). c + d) own (by_row (k + p.root.nodes) placed stands.1)
        ∙ sym (sum_by-append at (nodes_of_tree (tree_number p.tree) n (lengths_of (items_of image other m p.tree)) list) (nodes_behind n (slots m) (items_of image other m) (k + p.root.nodes) placed)))

    -- A sum over the nodes that a walk of all trees meets is that over the nodes that are told.
    pub nodes_sum : sum_by met_at (flat_map (λ (t : TreeOn). t.nodes) (all_trees k)) ≡ sum_by at nodes
    nodes_sum =
        let extents : TreeOn = named_on other s (named_extents m r nodes) in
        let all = one_more k.chunk_tree (k.root_tree ∷ k.others) in
        let more = one_more k.root_tree k.others in
        let others : sum_by met_at (flat_map (λ (t : TreeOn). t.nodes) k.others) ≡ sum_by at extended + sum_by at first =
        by_trees (named_trees image other m r nodes)
        ∙ (sum-with_all (λ (t : NamedTree). t.number) weight (named_extents m r nodes ∷ []) (map (named image other m) (placed_trees r))
        ∙ ap₂ (λ (c d : ℕ). c + d) (one_weight (named_extents m r nodes) ∙ tree_sum EXTENT_TREE (drop (extents_from r) (slots m)) extents (extents_at o ids now image other m r nodes v)) (by_row 0 (placed_trees r) stand.row)) in
        let chunk = tree_sum CHUNK_TREE (chunk_slots m) k.chunk_tree (chunk_at o ids now image other m r nodes v) in
        sum_up _ _ _ _ _ _ _ _ _ _ all more others chunk root_sum told_sum
      where
        one_weight : (t : NamedTree) → sum_by weight (t ∷ []) ≡ weight t
        one_weight t = sum_by-cons weight t [] ∙ none (weight t)
          where
            none : (c : ℕ) → c + 0 ≡ c
            none c = omega arith

        sum_up : (all chunk more root others first rooted extended chunked told : ℕ) → all ≡ chunk + more → more ≡ root + others → others ≡ extended + first → chunk ≡ chunked → root ≡ rooted
            → told ≡ first + rooted + chunked + extended → all ≡ told
        sum_up all chunk more root others first rooted extended chunked told a b c d e f = omega (arith, a, b, c, d, e, f)
