-- The numbers of a converted volume fit their fields.
use Rattle.convert_core_laws.proofs.Imports.{◌≡◌, ◌≤◌, ◌<◌, ℕ, suc, ◌+◌, ◌-◌, ◌*◌, ◌^◌, Bool, List, [], ◌∷◌, ◌++◌, length, take, drop, refl, sym, ap, subst, ◌∙◌, ⊎_elim, arith, length-append, length-drop, AllPairs, flat_map, range_with_len, sum, length-map, length-take, length-range_with_len, sum_by-cons, sum_by-le, mul-le, nat_cmp, CHUNK_TREE, EXTENT_TREE, ROOT_TREE, Image, IsNodeSize, Item, tree_nodes, packed_leaves, tree_levels, level_pointers, lengths_of, pointers_to, pointer_to, Root, IsMaking, Making, chunk_slots, new_ids, slots, HasPieces, TreesStand, extents_from, form, nodes_from, nodes_of_others, root_from, root_tree_items, used_bytes, TreeRoots, placed_trees, sound, are_pieces, free_units, is_free_unit, unit_count, used_of, chunk_items, bytes_of_nodes, bytes_of_pieces, extent_items, merged_nodes, nodes_of_tree, TreeNode, length-merge, chunks_of, used_few, TreeStands, IsSoundPlan, need, nodes_in_unit, node_places, places_in, PlannedChunk, nodes_behind}
use Rattle.std.proofs.Common.{sum_by}
use Rattle.convert_core.specs.convert_steps.Standing.{items_of}
use Rattle.convert_core.proofs.extent_pieces.Bounding.{filter_few}
use Rattle.convert_core.proofs.space_items.Counting.{apart_counted, node_place, piece_bytes, piece_place, pieces_fit}
use Rattle.convert_core_laws.proofs.reading.Named.{row_places}

-- ---- the slots of units

places_many : (nodesize u : ℕ) → length (places_in nodesize u) ≡ nodes_in_unit nodesize
places_many nodesize u =
    let numbers : List ℕ = range_with_len 0 (nodes_in_unit nodesize) in
    length-map numbers (λ k. 2 ^ 20 * u + nodesize * k) ∙ length-range_with_len 0 (nodes_in_unit nodesize)

slots_many : (nodesize : ℕ) (units : List ℕ) → length (node_places nodesize units) ≡ length units * nodes_in_unit nodesize
unfolding node_places
slots_many nodesize [] = omega arith
slots_many nodesize (u ∷ units) =
    let both = length-append (places_in nodesize u) (flat_map (places_in nodesize) units) in
    let here = places_many nodesize u in
    let rest = slots_many nodesize units in
    let more = one_more (length units) (nodes_in_unit nodesize) in
    omega (arith, both, here, rest, more)
  where
    one_more : (n k : ℕ) → (n + 1) * k ≡ k + n * k
    one_more n k = grind arith

unit_nodes_few : (n : ℕ) → IsNodeSize n → nodes_in_unit n ≤ 256
unit_nodes_few n size =
    ⊎_elim (λ (e : n ≡ 4096). at 4096 e (omega arith)) (λ rest. ⊎_elim (λ (e : n ≡ 8192). at 8192 e (omega arith)) (λ rest'. ⊎_elim (λ (e : n ≡ 16384). at 16384 e (omega arith)) (λ rest''. ⊎_elim (λ (e : n ≡ 32768). at 32768 e (omega arith)) (λ (e : n ≡ 65536). at 65536 e (omega arith)) rest'') rest') rest) size
  where
    at : (k : ℕ) → n ≡ k → nodes_in_unit k ≤ 256 → nodes_in_unit n ≤ 256
    at k e few = subst (λ (j : ℕ). nodes_in_unit j ≤ 256) (sym e) few

pub size_small : (n : ℕ) → IsNodeSize n → n ≤ 65536
size_small n size =
    ⊎_elim (λ (e : n ≡ 4096). omega arith) (λ rest. ⊎_elim (λ (e : n ≡ 8192). omega arith) (λ rest'. ⊎_elim (λ (e : n ≡ 16384). omega arith) (λ rest''. ⊎_elim (λ (e : n ≡ 32768). omega arith) (λ (e : n ≡ 65536). omega arith) rest'') rest') rest) size

few_slots : (nodesize : ℕ) (units : List ℕ) → IsNodeSize nodesize → length units ≤ 2 ^ 29 → length (node_places nodesize units) ≤ 2 ^ 37
few_slots nodesize units size few =
    let many = slots_many nodesize units in
    let most = mul-le (length units) (nodes_in_unit nodesize) (2 ^ 29) 256 few (unit_nodes_few nodesize size) in
    omega (arith, many, most)

-- no more units are free than there are blocks
free_few : (used : List Bool) → length (free_units used) ≤ length used
unfolding free_units
free_few used =
    let units : List ℕ = range_with_len 0 (unit_count used) in
    let kept = filter_few (is_free_unit used) units in
    let all = length-range_with_len 0 (unit_count used) in
    omega (arith, kept, all)

-- ---- the nodes of a tree

levels_few : (generation level skip : ℕ) (slots sizes : List ℕ) → length (level_pointers generation level skip slots sizes) ≤ sum sizes
levels_few generation level skip slots [] = omega arith
levels_few generation level skip slots (n ∷ sizes) =
    let both = length-append (pointers_to generation level skip n slots) (level_pointers generation (suc level) (skip + n) slots sizes) in
    let here = length-map (take n (drop skip slots)) (pointer_to generation level) in
    let first = length-take n (drop skip slots) in
    let rest = levels_few generation (suc level) (skip + n) slots sizes in
    let all = sum_by-cons (λ (x : ℕ). x) n sizes in
    omega (arith, both, here, first, rest, all)

tree_few : (owner nodesize : ℕ) (lengths slots : List ℕ) → length (nodes_of_tree owner nodesize lengths slots) ≤ tree_nodes nodesize lengths
tree_few owner nodesize lengths slots =
    let sizes : List ℕ = tree_levels nodesize (length (packed_leaves nodesize lengths)) in
    let is = length-map (level_pointers 1 0 0 slots sizes) (λ p. let t : TreeNode = record { address = p.address; level = p.level; owner = owner } in t) in
    let few = levels_few 1 0 0 slots sizes in
    omega (arith, is, few)

module _ (image : Image) (m : Making) (made : IsMaking image m) (size : IsNodeSize m.options.nodesize) where
  abbrev of : HasPieces m.volume image m.options m.plan m.pieces
  of = made.has_pieces

  plan_sound : IsSoundPlan (used_of image) (need of.found.counts m.options) m.plan
  plan_sound = sound m.volume image m.options m.plan m.pieces of

  pub slots_few : length (slots m) ≤ 2 ^ 37
  slots_few =
      let enough = of.plan_.enough.units in
      let many = plan_sound.metadata.many in
      let free = free_few (used_of image) in
      let small = used_few image m made in
      few_slots m.options.nodesize m.plan.metadata size (omega (arith, enough, many, free, small))

  pub chunk_slots_few : length (chunk_slots m) ≤ 2 ^ 37
  chunk_slots_few =
      let enough = of.plan_.enough.units in
      let many = plan_sound.system.many in
      let free = free_few (used_of image) in
      let small = used_few image m made in
      few_slots m.options.nodesize m.plan.system size (omega (arith, enough, many, free, small))

  -- a tree has no more nodes than there are slots
  tree_fits : (other : Image) (owner : ℕ) (list : List ℕ) (items : List Item) (root : Root) → TreeStands other (form m) owner list items root → length list ≤ 2 ^ 37
      → length (nodes_of_tree owner m.options.nodesize (lengths_of items) list) ≤ 2 ^ 37
  tree_fits other owner list items root stands few =
      let most = tree_few owner m.options.nodesize (lengths_of items) list in
      let count = stands.count in
      let fits = stands.few in
      omega (arith, most, count, fits, few)

  later_few : (k : ℕ) → length (drop k (slots m)) ≤ 2 ^ 37
  later_few k = let long = length-drop k (slots m) in let few = slots_few in omega (arith, long, few)

  module _ (other : Image) (r : TreeRoots) (nodes : List TreeNode) (has : TreesStand image other other m r nodes) where
    -- the nodes of the root tree lie at the first slots behind the others
    root_few : length (nodes_from m ROOT_TREE (root_from r) (root_tree_items m r)) ≤ 2 ^ 37
    root_few =
        let most = tree_few 1 m.options.nodesize (lengths_of (root_tree_items m r)) (drop (root_from r) (slots m)) in
        let count = has.root.count in
        let fits = has.root.few in
        let long = length-take r.root.nodes (drop (root_from r) (slots m)) in
        let few = later_few (root_from r) in
        omega (arith, most, count, fits, long, few)

    merge_few : (xs ys : List TreeNode) → length (merged_nodes xs ys) ≤ length xs + length ys
    merge_few xs ys = length-merge (λ (a b : TreeNode). nat_cmp a.address b.address) xs ys

    pub nodes_few : length nodes ≤ 2 ^ 40
    nodes_few =
        let chunk = tree_fits other CHUNK_TREE (chunk_slots m) (chunk_items (new_ids m) m.volume.sup.blocks m.chunks) r.chunk has.chunk chunk_slots_few in
        let extents = tree_fits other EXTENT_TREE (drop (extents_from r) (slots m)) (extent_items m.chunks m.pieces nodes m.options.nodesize) r.extents has.extents (later_few (extents_from r)) in
        let many = length-append first (nodes_from m ROOT_TREE (root_from r) (root_tree_items m r)) in
        let inner = merge_few (first ++ nodes_from m ROOT_TREE (root_from r) (root_tree_items m r)) (nodes_of_tree CHUNK_TREE m.options.nodesize (lengths_of (chunk_items (new_ids m) m.volume.sup.blocks m.chunks)) (chunk_slots m)) in
        let all = merge_few (nodes_of_others image other m r) (nodes_from m EXTENT_TREE (extents_from r) (extent_items m.chunks m.pieces nodes m.options.nodesize)) in
        let is = ap (λ (ns : List TreeNode). length ns) has.nodes_are.is in
        let rooted = root_few in
        omega (arith, many, inner, all, is, chunk, extents, rooted, first_few)
      where
        first : List TreeNode
        first = nodes_behind m.options.nodesize (slots m) (items_of image other m) 0 (placed_trees r)

        -- as many as there are slots, at most
        first_few : length first ≤ 2 ^ 37
        first_few =
            let long = length-map first (λ (t : TreeNode). t.address) in
            let at = ap (λ (xs : List ℕ). length xs) (row_places other (form m) (slots m) (items_of image other m) 0 (placed_trees r) has.row) in
            let few = length-take (root_from r - 0) (slots m) in
            let most = slots_few in
            omega (arith, long, at, few, most)

    sum_both : (f g : PlannedChunk → ℕ) (cs : List PlannedChunk) → sum_by (λ c. f c + g c) cs ≡ sum_by f cs + sum_by g cs
    sum_both f g [] = refl
    sum_both f g (c ∷ cs) =
        let all = sum_by-cons (λ (d : PlannedChunk). f d + g d) c cs in
        let first = sum_by-cons f c cs in
        let second = sum_by-cons g c cs in
        let rest = sum_both f g cs in
        omega (arith, all, first, second, rest)

    -- the bytes of all extents
    pub used_small : used_bytes m nodes < 2 ^ 64
    used_small =
        let both = sum_both (bytes_of_pieces m.pieces) (bytes_of_nodes nodes m.options.nodesize) m.chunks in
        let behind : AllPairs (λ (c d : PlannedChunk). 4096 * (c.start + c.length) ≤ 4096 * d.start) m.chunks = λ i j d order inside. let h = (chunks_of image m made).ascending i j d order inside in omega (arith, h) in
        let of_pieces : sum_by (bytes_of_pieces m.pieces) m.chunks ≤ sum_by piece_bytes m.pieces =
        apart_counted piece_place piece_bytes (λ (c : PlannedChunk). 4096 * c.start) (λ (c : PlannedChunk). 4096 * (c.start + c.length)) m.pieces m.chunks (λ c. omega arith) behind in
        let of_nodes : sum_by (bytes_of_nodes nodes m.options.nodesize) m.chunks ≤ sum_by (λ (t : TreeNode). m.options.nodesize) nodes =
        apart_counted node_place (λ (t : TreeNode). m.options.nodesize) (λ (c : PlannedChunk). 4096 * c.start) (λ (c : PlannedChunk). 4096 * (c.start + c.length)) nodes m.chunks (λ c. omega arith) behind in
        let few = pieces_fit m.pieces (are_pieces m.volume image m.options m.plan m.pieces of) in
        let each = sum_by-le (λ (t : TreeNode). m.options.nodesize) 65536 nodes (λ k d inside. size_small m.options.nodesize size) in
        let count = nodes_few in
        omega (arith, both, of_pieces, of_nodes, few, each, count)
