-- Lists that ascend are no longer than their bound.
use Rattle.convert_trees.proofs.Imports.{◌≡◌, ◌∙◌, ℕ, zero, suc, ◌+◌, ◌^◌, ◌<◌, ◌≤◌, List, [], ◌∷◌, length, get_or, sym, ap, subst, arith, All, AllPairs, length-map, length-take, EXTENT_TREE, lengths_of, extent_items, AreNodes, merged_nodes, nodes_of_tree, ArePieces, TreeNode, length-merge, IsSlotRow, Trees, PlannedChunk, Piece}
use Rattle.space_items.proofs.Ascending.{merged_are_nodes}
use Rattle.space_items.proofs.NodeMerge.{node_cmp}

module _ {A : Type 0} (f : A → ℕ) where
  rises : (xs : List A) → AllPairs (λ a b. f a < f b) xs → (d : A) (i : ℕ) → i < length xs → i ≤ f (get_or xs i d)
  rises xs pairs d zero h = omega arith
  rises xs pairs d (suc i) h = omega (arith, rises xs pairs d i (omega (arith, h)), pairs i (suc i) d (omega arith) h)

  pub few_by : (xs : List A) (b : ℕ) → AllPairs (λ a b. f a < f b) xs → All (λ a. f a < b) xs → length xs ≤ b
  few_by [] b pairs all = omega arith
  few_by (x ∷ xs) b pairs all = omega (arith, rises (x ∷ xs) pairs x (length xs) (omega arith), all (length xs) x (omega arith))

pub few_pieces : (pieces : List Piece) → ArePieces pieces → length pieces ≤ 2 ^ 29
few_pieces pieces are =
    few_by (λ (p : Piece). p.place) pieces (2 ^ 29) (λ i j d l h. omega (arith, are.ascending i j d l h, (are.small i d (omega (arith, l, h))).some))
    (λ i d h. let small = are.small i d h in omega (arith, small.some, small.place))

-- the nodes of two lists are no more than both together
pub few_merged : (all nodes others : List TreeNode) → all ≡ merged_nodes nodes others → length all ≤ length nodes + length others
few_merged all nodes others is = omega (arith, ap (λ (xs : List TreeNode). length xs) is, length-merge node_cmp nodes others)

pub merged_fit : (all nodes others : List TreeNode) → all ≡ merged_nodes nodes others → AreNodes nodes → AreNodes others → length nodes + length others < 2 ^ 44 → AreNodes all
merged_fit all nodes others is are also few = subst AreNodes (sym is) (merged_are_nodes nodes others are also few)

-- as many nodes as slots are taken
pub row_few : (t : Trees) → IsSlotRow t → length t.nodes ≡ t.taken
row_few t is = omega (arith, length-map t.nodes (λ (n : TreeNode). n.address), ap (λ (xs : List ℕ). length xs) is.nodes, length-take t.taken t.slots, is.within)

-- of a list that is told
pub same_nodes : (chunks : List PlannedChunk) (pieces : List Piece) (nodesize : ℕ) (given all others old more : List TreeNode) (slots rest : List ℕ) → given ≡ all → others ≡ merged_nodes old more → slots ≡ rest
    → all ≡ merged_nodes others (nodes_of_tree EXTENT_TREE nodesize (lengths_of (extent_items chunks pieces all nodesize)) slots)
    → given ≡ merged_nodes (merged_nodes old more) (nodes_of_tree EXTENT_TREE nodesize (lengths_of (extent_items chunks pieces given nodesize)) rest)
same_nodes chunks pieces nodesize given all others old more slots rest is are at told =
    is ∙ (told
    ∙ (ap (λ (ns : List TreeNode). merged_nodes ns (nodes_of_tree EXTENT_TREE nodesize (lengths_of (extent_items chunks pieces all nodesize)) slots)) are
    ∙ (ap (λ (ss : List ℕ). merged_nodes (merged_nodes old more) (nodes_of_tree EXTENT_TREE nodesize (lengths_of (extent_items chunks pieces all nodesize)) ss)) at
    ∙ ap (λ (ns : List TreeNode). merged_nodes (merged_nodes old more) (nodes_of_tree EXTENT_TREE nodesize (lengths_of (extent_items chunks pieces ns nodesize)) rest)) (sym is))))
