-- Two lists of nodes, merged one node after the other.
use Rattle.space_items.proofs.Imports.{◌≡◌, ℕ, ◌+◌, ◌<◌, ◌≤◌, List, [], ◌∷◌, ◌++◌, length, get_or, drop, sym, ◌∙◌, ap, arith, append_assoc, append-nil, drop_more, drop_all, nat_cmp, Ordering, merged_nodes, TreeNode}
use Rattle.space_items.proofs.Merges.{merge-nil, merge-less, merge-equal, merge-greater, nat_less, nat_equal, nat_greater}

-- by the address
abbrev pub node_cmp : TreeNode → TreeNode → Ordering
node_cmp m n = nat_cmp m.address n.address

-- what is merged, and what is still to be
pub record IsMerging (nodes others all : List TreeNode) (i j : ℕ) : Type 0 where
  pub low : i ≤ length nodes
  pub high : j ≤ length others
  pub rest : all ++ merged_nodes (drop i nodes) (drop j others) ≡ merged_nodes nodes others

module _ (nodes others all : List TreeNode) (i j : ℕ) (so_far : IsMerging nodes others all i j) (x y : TreeNode) (low : i < length nodes) (high : j < length others) (at : get_or nodes i x ≡ x) (other : get_or others j y ≡ y) where
  left : drop i nodes ≡ x ∷ drop (i + 1) nodes
  left = drop_more nodes i x low ∙ ap (λ z. z ∷ drop (i + 1) nodes) at

  right : drop j others ≡ y ∷ drop (j + 1) others
  right = drop_more others j y high ∙ ap (λ z. z ∷ drop (j + 1) others) other

  step : (z : TreeNode) (rest : List TreeNode) → merged_nodes (x ∷ drop (i + 1) nodes) (y ∷ drop (j + 1) others) ≡ z ∷ rest → (all ++ z ∷ []) ++ rest ≡ merged_nodes nodes others
  step z rest e = append_assoc all (z ∷ []) rest ∙ (ap (λ zs. all ++ zs) (sym (rw (left, right) e)) ∙ so_far.rest)

  pub both_go_on : x.address ≡ y.address → IsMerging nodes others (all ++ x ∷ []) (i + 1) (j + 1)
  both_go_on same = record {
    low = omega arith;
    high = omega arith;
    rest = step x (merged_nodes (drop (i + 1) nodes) (drop (j + 1) others)) (merge-equal node_cmp x (drop (i + 1) nodes) y (drop (j + 1) others) (nat_equal x.address y.address same));
  }

  pub first_goes_on : x.address < y.address → IsMerging nodes others (all ++ x ∷ []) (i + 1) j
  first_goes_on less = record {
    low = omega arith;
    high = so_far.high;
    rest = step x (merged_nodes (drop (i + 1) nodes) (drop j others)) (merge-less node_cmp x (drop (i + 1) nodes) y (drop (j + 1) others) (nat_less x.address y.address less) ∙ ap (λ zs. x ∷ merged_nodes (drop (i + 1) nodes) zs) (sym right));
  }

  pub second_goes_on : y.address < x.address → IsMerging nodes others (all ++ y ∷ []) i (j + 1)
  second_goes_on less = record {
    low = so_far.low;
    high = omega arith;
    rest = step y (merged_nodes (drop i nodes) (drop (j + 1) others)) (merge-greater node_cmp x (drop (i + 1) nodes) y (drop (j + 1) others) (nat_greater x.address y.address less) ∙ ap (λ zs. y ∷ merged_nodes zs (drop (j + 1) others)) (sym left));
  }

pub first_ends : (nodes others all : List TreeNode) (i j : ℕ) → IsMerging nodes others all i j → length nodes ≤ i → (all ++ drop i nodes) ++ drop j others ≡ merged_nodes nodes others
first_ends nodes others all i j so_far past =
    let none : drop i nodes ≡ [] = drop_all i nodes past in
    append_assoc all (drop i nodes) (drop j others) ∙ (ap (λ zs. all ++ (zs ++ drop j others)) none ∙ (ap (λ zs. all ++ merged_nodes zs (drop j others)) (sym none) ∙ so_far.rest))

pub second_ends : (nodes others all : List TreeNode) (i j : ℕ) → IsMerging nodes others all i j → length others ≤ j → (all ++ drop i nodes) ++ drop j others ≡ merged_nodes nodes others
second_ends nodes others all i j so_far past =
    let none : drop j others ≡ [] = drop_all j others past in
    ap (λ zs. (all ++ drop i nodes) ++ zs) none ∙ (append-nil (all ++ drop i nodes) ∙ (ap (λ zs. all ++ zs) (sym (merge-nil node_cmp (drop i nodes))) ∙ (ap (λ zs. all ++ merged_nodes (drop i nodes) zs) (sym none) ∙ so_far.rest)))
