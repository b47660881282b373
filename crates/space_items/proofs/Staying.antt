-- How many nodes the extent tree has goes by the addresses of nodes alone.
use Rattle.space_items.proofs.Imports.{◌≡◌, ℕ, List, length, map, take, refl, sym, ◌∙◌, ap, map-id, nat_cmp, All, METADATA_ITEM, EXTENT_TREE, METADATA_ITEM_SIZE, make_key, tree_nodes, packed_leaves, tree_levels, lengths_of, PlannedChunk, Piece, extent_items, merged_nodes, nodes_of_tree, OwnNodesStay, nodes_with_own, own_at, own_lengths, TreeNode}
use Rattle.space_items.proofs.Ascending.{addresses, upper_at}
use Rattle.space_items.proofs.Levels.{map-map}
use Rattle.space_items.proofs.Merges.{Across, all-merge, map-merge, map-merge-across, merge}
use Rattle.space_items.proofs.NodeMerge.{node_cmp}
use Rattle.space_items.proofs.Shapes.{Shape, all_map, group_shape, lengths_are, node_shape, piece_shape, shape_cmp, shapes}

-- without the last part of the key
abbrev bare : Shape → Shape
bare s = (make_key s.0.objectid s.0.kind 0, s.1)

module _ (chunks : List PlannedChunk) (pieces : List Piece) where
  abbrev gs : List Shape
  gs = map group_shape chunks

  abbrev ps : List Shape
  ps = map piece_shape pieces

  -- keys of two lists are never of one kind, so their last parts do not matter
  nodes_and_pieces : (nodes : List TreeNode) → Across shape_cmp shape_cmp bare (map node_shape nodes) ps
  nodes_and_pieces nodes = all_map (λ s. All (λ t. shape_cmp s t ≡ shape_cmp (bare s) (bare t)) ps) node_shape (λ n. all_map (λ t. shape_cmp (node_shape n) t ≡ shape_cmp (bare (node_shape n)) (bare t)) piece_shape (λ p. refl) pieces) nodes

  groups_and_others : (nodes : List TreeNode) → Across shape_cmp shape_cmp bare gs (merge shape_cmp (map node_shape nodes) ps)
  groups_and_others nodes =
      all_map (λ s. All (λ t. shape_cmp s t ≡ shape_cmp (bare s) (bare t)) (merge shape_cmp (map node_shape nodes) ps)) group_shape
      (λ c. all-merge shape_cmp (λ t. shape_cmp (group_shape c) t ≡ shape_cmp (bare (group_shape c)) (bare t)) (map node_shape nodes) ps
      (all_map (λ t. shape_cmp (group_shape c) t ≡ shape_cmp (bare (group_shape c)) (bare t)) node_shape (λ n. refl) nodes)
      (all_map (λ t. shape_cmp (group_shape c) t ≡ shape_cmp (bare (group_shape c)) (bare t)) piece_shape (λ p. refl) pieces))
      chunks

  abbrev bare_shapes : List ℕ → List Shape
  bare_shapes places = merge shape_cmp (map bare gs) (merge shape_cmp (map (λ a. (make_key a METADATA_ITEM 0, METADATA_ITEM_SIZE)) places) (map bare ps))

  bare_are : (nodes : List TreeNode) → map bare (shapes chunks pieces nodes) ≡ bare_shapes (addresses nodes)
  bare_are nodes =
      map-merge-across shape_cmp shape_cmp bare gs (merge shape_cmp (map node_shape nodes) ps) (groups_and_others nodes)
      ∙ ap (merge shape_cmp (map bare gs))
      (map-merge-across shape_cmp shape_cmp bare (map node_shape nodes) ps (nodes_and_pieces nodes)
      ∙ ap (λ ns. merge shape_cmp ns (map bare ps)) (map-map bare node_shape nodes ∙ sym (map-map {B = ℕ} (λ (a : ℕ). let s : Shape = (make_key a METADATA_ITEM 0, METADATA_ITEM_SIZE) in s) (λ (n : TreeNode). n.address) nodes)))

  lengths_by : (nodesize : ℕ) (nodes : List TreeNode) → lengths_of (extent_items chunks pieces nodes nodesize) ≡ map (λ s. s.1) (bare_shapes (addresses nodes))
  lengths_by nodesize nodes = lengths_are chunks pieces nodes nodesize ∙ (sym (map-map (λ (s : Shape). s.1) bare (shapes chunks pieces nodes)) ∙ ap (map (λ (s : Shape). s.1)) (bare_are nodes))

  pub same_lengths : (nodesize : ℕ) (xs ys : List TreeNode) → addresses xs ≡ addresses ys → lengths_of (extent_items chunks pieces xs nodesize) ≡ lengths_of (extent_items chunks pieces ys nodesize)
  same_lengths nodesize xs ys same = lengths_by nodesize xs ∙ (ap (λ places. map (λ (s : Shape). s.1) (bare_shapes places)) same ∙ sym (lengths_by nodesize ys))

merged_places : (nodes others : List TreeNode) → addresses (merged_nodes nodes others) ≡ merge nat_cmp (addresses nodes) (addresses others)
merged_places nodes others = map-merge node_cmp nat_cmp (λ (n : TreeNode). n.address) (λ m n. refl) nodes others

pub own_nodes_stay_so : OwnNodesStay
own_nodes_stay_so = λ chunks pieces others slots nodesize x own.
    let lengths : List ℕ = own_lengths chunks pieces others slots nodesize x in
    let all : List TreeNode = nodes_with_own chunks pieces others slots nodesize x in
    let leaves_at : addresses (own_at slots x) ≡ take x slots = map-map (λ (m : TreeNode). m.address) (λ a. record { address = a; level = 0; owner = EXTENT_TREE }) (take x slots) ∙ map-id (take x slots) in
    let tree_at : addresses (nodes_of_tree EXTENT_TREE nodesize lengths slots) ≡ take x slots = upper_at 2 0 0 slots (tree_levels nodesize (length (packed_leaves nodesize lengths))) ∙ ap (λ (n : ℕ). take n slots) own.same in
    let places : addresses all ≡ addresses (merged_nodes others (own_at slots x)) =
    merged_places others (nodes_of_tree EXTENT_TREE nodesize lengths slots) ∙ (ap (merge nat_cmp (addresses others)) (tree_at ∙ sym leaves_at) ∙ sym (merged_places others (own_at slots x))) in
    let same : lengths_of (extent_items chunks pieces all nodesize) ≡ lengths = same_lengths chunks pieces nodesize all (merged_nodes others (own_at slots x)) places in
    record {
      nodes = ap (λ (ls : List ℕ). merged_nodes others (nodes_of_tree EXTENT_TREE nodesize ls slots)) (sym same);
      count = ap (λ (ls : List ℕ). tree_nodes nodesize ls) same ∙ own.same;
    }
