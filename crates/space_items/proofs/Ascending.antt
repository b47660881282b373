-- Nodes that ascend by address.
use Rattle.space_items.proofs.Imports.{◌≡◌, ℕ, suc, ◌+◌, ◌^◌, ◌<◌, List, [], ◌∷◌, ◌++◌, length, map, take, drop, get_or, refl, sym, ◌∙◌, ap, ap₂, subst, arith, map-id, min, AllPairs, Less, ranked, get_or-map, get_or-take, length-map, length-take, map-append, drop-drop, sum_by-cons, EXTENT_TREE, NodePointer, tree_nodes, packed_leaves, tree_levels, level_pointers, AreNodes, merged_nodes, nodes_of_tree, own_at, TreeNode}
use Rattle.std.proofs.Common.{sum}
use Rattle.std.proofs.Math.Seq.{take-add}
use Rattle.space_items.proofs.Describing.{node_total}
use Rattle.space_items.proofs.Levels.{map-map, node_of, upper}
use Rattle.space_items.proofs.Merges.{length-merge, nat_less, rises-merge}
use Rattle.space_items.proofs.NodeMerge.{node_cmp}

abbrev pub addresses : List TreeNode → List ℕ
addresses nodes = map (λ n. n.address) nodes

-- numbers, each below all later ones
abbrev pub Ascend : List ℕ → Type 0
Ascend xs = AllPairs (λ a b. a < b) xs

pub nodes_ascend : (nodes : List TreeNode) → Ascend (addresses nodes) → AllPairs (λ m n. m.address < n.address) nodes
nodes_ascend nodes up = λ i j d l h.
    let less : get_or (addresses nodes) i 0 < get_or (addresses nodes) j 0 = up i j 0 l (omega (arith, h, length-map nodes (λ n. n.address))) in
    omega (arith, less, get_or-map (λ n. n.address) nodes i d 0 (omega (arith, l, h)), get_or-map (λ n. n.address) nodes j d 0 h)

take_ascends : (n : ℕ) (xs : List ℕ) → Ascend xs → Ascend (take n xs)
take_ascends n xs up = λ i j d l h.
    let long : length (take n xs) ≡ min n (length xs) = length-take n xs in
    let less : get_or xs i d < get_or xs j d = up i j d l (omega (arith, h, long)) in
    omega (arith, less, get_or-take n xs i d (omega (arith, l, h, long)), get_or-take n xs j d (omega (arith, h, long)))

pub merged_ascend : (nodes others : List TreeNode) → AllPairs (λ m n. m.address < n.address) nodes → AllPairs (λ m n. m.address < n.address) others → AllPairs (λ m n. m.address < n.address) (merged_nodes nodes others)
merged_ascend nodes others up also = λ i j d l h.
    let rises : node_cmp (get_or (merged_nodes nodes others) i d) (get_or (merged_nodes nodes others) j d) ≡ Less =
    rises-merge node_cmp node_total nodes others (λ i j d l h. nat_less (get_or nodes i d).address (get_or nodes j d).address (up i j d l h)) (λ i j d l h. nat_less (get_or others i d).address (get_or others j d).address (also i j d l h)) i j d l h in
    ranked (get_or (merged_nodes nodes others) i d).address (get_or (merged_nodes nodes others) j d).address Less (sym rises)

-- other nodes at some of the slots among them
module _ (nodes : List TreeNode) (slots : List ℕ) (are : AreNodes nodes) (up : Ascend slots) (few : length nodes + length slots < 2 ^ 44) where
  pub with_others : (n : ℕ) (others : List TreeNode) → addresses others ≡ take n slots → AreNodes (merged_nodes nodes others)
  with_others n others at = record {
    ascending = merged_ascend nodes others are.ascending (nodes_ascend others (subst Ascend (sym at) (take_ascends n slots up)));
    few = omega (arith, few, length-merge node_cmp nodes others, length-map others (λ n. n.address), ap (λ (xs : List ℕ). length xs) at, length-take n slots);
  }

  pub with_leaves : (n : ℕ) → AreNodes (merged_nodes nodes (own_at slots n))
  with_leaves n = with_others n (own_at slots n) (map-map (λ (m : TreeNode). m.address) (λ a. record { address = a; level = 0; owner = EXTENT_TREE }) (take n slots) ∙ map-id (take n slots))

-- the nodes of all levels lie at the slots in their order
pub upper_at : (owner level skip : ℕ) (slots sizes : List ℕ) → addresses (upper owner slots level skip sizes) ≡ take (sum sizes) (drop skip slots)
upper_at owner level skip slots [] = refl
upper_at owner level skip slots (n ∷ sizes) =
    let own : List ℕ = take n (drop skip slots) in
    let total : sum (n ∷ sizes) ≡ n + sum sizes = sum_by-cons (λ x. x) n sizes in
    let place : NodePointer → ℕ = λ (p : NodePointer). p.address in
    let rest : List NodePointer = level_pointers 1 (suc level) (skip + n) slots sizes in
    let first : map place (map (λ a. record { address = a; level = level; generation = 1 }) own) ≡ own = map-map place (λ a. record { address = a; level = level; generation = 1 }) own ∙ map-id own in
    let second : map place rest ≡ take (sum sizes) (drop n (drop skip slots)) = sym (map-map (λ (m : TreeNode). m.address) (node_of owner) rest) ∙ (upper_at owner (suc level) (skip + n) slots sizes ∙ ap (take (sum sizes)) (sym (drop-drop n skip slots))) in
    map-map (λ (m : TreeNode). m.address) (node_of owner) (level_pointers 1 level skip slots (n ∷ sizes))
    ∙ (map-append place (map (λ a. record { address = a; level = level; generation = 1 }) own) rest
    ∙ (ap₂ (λ xs ys. xs ++ ys) first second
    ∙ (sym (take-add n (sum sizes) (drop skip slots)) ∙ ap (λ (k : ℕ). take k (drop skip slots)) (sym total))))

-- those of a whole tree
pub tree_at : (owner nodesize : ℕ) (lengths slots : List ℕ) → addresses (nodes_of_tree owner nodesize lengths slots) ≡ take (tree_nodes nodesize lengths) slots
tree_at owner nodesize lengths slots = upper_at owner 0 0 slots (tree_levels nodesize (length (packed_leaves nodesize lengths)))

-- nodes at the first slots
pub nodes_at_slots : (nodes : List TreeNode) (slots : List ℕ) (n : ℕ) → addresses nodes ≡ take n slots → Ascend slots → length slots < 2 ^ 44 → AreNodes nodes
nodes_at_slots nodes slots n at up few = record {
  ascending = nodes_ascend nodes (subst Ascend (sym at) (take_ascends n slots up));
  few = omega (arith, few, length-map nodes (λ m. m.address), ap (λ (xs : List ℕ). length xs) at, length-take n slots);
}

-- the nodes of two lists
pub merged_are_nodes : (nodes others : List TreeNode) → AreNodes nodes → AreNodes others → length nodes + length others < 2 ^ 44 → AreNodes (merged_nodes nodes others)
merged_are_nodes nodes others are also few = record {
  ascending = merged_ascend nodes others are.ascending also.ascending;
  few = omega (arith, few, length-merge node_cmp nodes others);
}
