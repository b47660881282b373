-- How the number of the extent tree's own nodes is found: counted again until it describes itself.
use Rattle.space_items.proofs.Imports.{◌≡◌, ◌≢◌, ⊎_elim, ℕ, zero, suc, ◌+◌, ◌-◌, ◌*◌, ◌<◌, ◌≤◌, List, [], ◌∷◌, ◌++◌, length, take, get_or, sym, ◌∙◌, ap, subst, subst₂, arith, append-nil, cases_lt, nat_cmp_total, on_total, take_more, take_all, map_push, length-map, length-take, IsTotalOrder, EXTENT_TREE, NODE_BYTES, IsNodeSize, Counted, Tally, bytes_of, node_bound, tree_nodes, lengths_of, PlannedChunk, Piece, extent_items, merged_nodes, nodes_at, IsOwnCount, extent_bytes, nodes_with, own_at, own_bound, own_lengths, TreeNode}
use Rattle.space_items.proofs.Merges.{merge, length-merge, IsMore, more_second}
use Rattle.space_items.proofs.NodeMerge.{node_cmp}
use Rattle.space_items.proofs.OwnBound.{bound_holds, bound_up}
use Rattle.space_items.proofs.Shapes.{bytes-le, more_nodes}

pub node_total : IsTotalOrder node_cmp
node_total = on_total (λ (n : TreeNode). n.address) nat_cmp_total

-- A count that was taken so far. No number below it describes itself.
pub record IsCounting (chunks : List PlannedChunk) (pieces : List Piece) (others : List TreeNode) (slots : List ℕ) (nodesize count : ℕ) : Type 0 where
  pub rising : count ≤ nodes_with chunks pieces others slots nodesize count
  pub least : (y : ℕ) → nodes_with chunks pieces others slots nodesize y ≡ y → count ≤ y
  pub bounded : count ≤ own_bound chunks pieces others nodesize

module _ (chunks : List PlannedChunk) (pieces : List Piece) (others : List TreeNode) (slots : List ℕ) (nodesize : ℕ) (size : IsNodeSize nodesize) where
  abbrev count_with : ℕ → ℕ
  count_with x = nodes_with chunks pieces others slots nodesize x

  one_slot_more : (x : ℕ) → x < length slots → count_with x ≤ count_with (x + 1)
  one_slot_more x more =
      let y : TreeNode = record { address = get_or slots x 0; level = 0; owner = EXTENT_TREE } in
      let own : own_at slots (x + 1) ≡ own_at slots x ++ y ∷ [] = ap (nodes_at EXTENT_TREE 0) (take_more slots x 0 more) ∙ map_push (λ a. record { address = a; level = 0; owner = EXTENT_TREE }) (take x slots) (get_or slots x 0) in
      let put : IsMore node_cmp y (merge node_cmp others (own_at slots x ++ [])) (merge node_cmp others (own_at slots x ++ y ∷ [])) = more_second node_cmp node_total y others (own_at slots x) [] tt in
      more_nodes chunks pieces nodesize y (merged_nodes others (own_at slots x)) (merged_nodes others (own_at slots (x + 1))) size
      (subst₂ (λ xs ys. IsMore node_cmp y (merge node_cmp others xs) (merge node_cmp others ys)) (append-nil (own_at slots x)) (sym own) put)

  step : (x : ℕ) → count_with x ≤ count_with (x + 1)
  step x =
      ⊎_elim (λ (more : x < length slots). one_slot_more x more)
      (λ (past : length slots ≤ x).
      let same : take (x + 1) slots ≡ take x slots = take_all (x + 1) slots (omega arith) ∙ sym (take_all x slots past) in
      let counts : count_with (x + 1) ≡ count_with x = ap (λ xs. tree_nodes nodesize (lengths_of (extent_items chunks pieces (merged_nodes others (nodes_at EXTENT_TREE 0 xs)) nodesize))) same in
      omega (arith, counts))
      (cases_lt x (length slots))

  steps : (d x : ℕ) → count_with x ≤ count_with (x + d)
  steps zero x = let e : x ≡ x + 0 = omega arith in subst (λ (y : ℕ). count_with x ≤ count_with y) e (omega arith)
  steps (suc d) x = let e : x + d + 1 ≡ x + suc d = omega arith in subst (λ (y : ℕ). count_with x ≤ count_with y) e (omega (arith, steps d x, step (x + d)))

  pub count_up : (x y : ℕ) → x ≤ y → count_with x ≤ count_with y
  count_up x y h = let e : x + (y - x) ≡ y = omega arith in subst (λ (z : ℕ). count_with x ≤ count_with z) e (steps (y - x) x)

  own_bytes : (x : ℕ) → bytes_of (own_lengths chunks pieces others slots nodesize x) ≤ extent_bytes (length pieces) (length chunks) (length others) + NODE_BYTES * x
  own_bytes x =
      omega (
        arith,
        bytes-le chunks pieces (merged_nodes others (own_at slots x)) nodesize,
        length-merge node_cmp others (own_at slots x),
        length-map {B = TreeNode} (take x slots) (λ a. record { address = a; level = 0; owner = EXTENT_TREE }),
        length-take x slots,
      )

  module _ (count next : ℕ) (so_far : IsCounting chunks pieces others slots nodesize count) (is : next ≡ count_with count) where
    pub counting_goes_on : next ≤ node_bound (bytes_of (own_lengths chunks pieces others slots nodesize count)) nodesize → IsCounting chunks pieces others slots nodesize next
    counting_goes_on low =
        let bytes : ℕ = extent_bytes (length pieces) (length chunks) (length others) in
        record {
          rising = omega (arith, is, count_up count next (omega (arith, so_far.rising, is)));
          least = λ y e. omega (arith, is, e, count_up count y (so_far.least y e));
          bounded = omega (
            arith,
            low,
            bound_up (bytes_of (own_lengths chunks pieces others slots nodesize count)) (bytes + NODE_BYTES * count) nodesize size (own_bytes count),
            bound_holds bytes count nodesize size so_far.bounded,
          );
        }

    pub counting_rises : next ≢ count → count < next
    counting_rises other = omega (arith, so_far.rising, is, other)

    pub counting_ends : next ≡ count → IsOwnCount chunks pieces others slots nodesize count
    counting_ends same = record { same = sym is ∙ same; least = λ y low e. absurd (omega (arith, low, so_far.least y e)) }

-- what the counter tells of the next count
pub record IsNextCount (chunks : List PlannedChunk) (pieces : List Piece) (others : List TreeNode) (slots : List ℕ) (nodesize count next : ℕ) : Type 0 where
  pub is : next ≡ nodes_with chunks pieces others slots nodesize count
  pub low : next ≤ node_bound (bytes_of (own_lengths chunks pieces others slots nodesize count)) nodesize

pub counted_next : (chunks : List PlannedChunk) (pieces : List Piece) (others nodes : List TreeNode) (slots : List ℕ) (nodesize count next : ℕ) (tally : Tally) → nodes ≡ merged_nodes others (own_at slots count) → tally.nodesize ≡ nodesize
    → Counted tally (lengths_of (extent_items chunks pieces nodes nodesize)) → ((lengths : List ℕ) → Counted tally lengths → next ≡ tree_nodes tally.nodesize lengths) → next ≤ node_bound tally.bytes tally.nodesize
    → IsNextCount chunks pieces others slots nodesize count next
counted_next chunks pieces others nodes slots nodesize count next tally same size counted exact low =
    let lengths : List ℕ = own_lengths chunks pieces others slots nodesize count in
    let known : Counted tally lengths = subst (λ ns. Counted tally (lengths_of (extent_items chunks pieces ns nodesize))) same counted in
    record {
      is = exact lengths known ∙ ap (λ (n : ℕ). tree_nodes n lengths) size;
      low = subst₂ (λ (b n : ℕ). next ≤ node_bound b n) known.total size low;
    }
