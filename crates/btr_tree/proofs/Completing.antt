-- A tree is complete.
use Rattle.btr_tree.proofs.Imports.{◌≡◌, ℕ, ◌+◌, ◌≤◌, ◌++◌, ◌∷◌, [], List, length, sym, ◌∙◌, ap, subst, arith, flat_map, length_push, node_bytes, items_in, IsNodeSize, Child, LeavesGiveItems, SubtreesAreTrees, Made, AreSlots, begun_at, with_node, NodeReadsBack, Building, pushed, leaf_closed, IsInHand, IsNextSlot, Standing, tree_nodes, nodes_above, capacity, packed_leaves, tree_levels, IsForest, IsClimbed, IsCompleted, IsRoot, HasNodes, HasWholeNodes, lengths_of, Root}
use Rattle.btr_tree.proofs.Climbing.{extended_then}
use Rattle.btr_tree.proofs.Leaves.{leaf_roots, leaves_first, empty_met, empty_whole, leaf_count, packed_count, packed_same, empty_nodes, empty_root, extended_node}
use Rattle.btr_tree.proofs.Standing.{next_is}

module _ (law : LeavesGiveItems) (b : Building) (child : Child) (so_far : Standing b) (hand : IsInHand b child) (read : NodeReadsBack b.made.draft (node_bytes b.made.draft)) where
  abbrev closed : Building
  closed = leaf_closed b child

  pub closed_made : length closed.made.nodes ≡ length closed.children
  closed_made = (leaf_count law b child so_far hand read).0

  pub closed_forest : IsForest closed.made 0 closed.children
  closed_forest = record { items = pushed b; roots = leaf_roots law b child so_far hand read; order = so_far.order }

  closed_leaves : length closed.children ≡ length (packed_leaves b.made.form.nodesize (lengths_of (pushed b)))
  closed_leaves = sym closed_made ∙ (sym (packed_count law b child so_far hand read) ∙ packed_same (capacity b.made.form.nodesize) (pushed b))

  pub closed_count : nodes_above b.made.form.nodesize (length closed.children) ≡ tree_nodes b.made.form.nodesize (lengths_of (pushed b))
  closed_count =
      ap (nodes_above b.made.form.nodesize)
      (sym closed_made ∙ (sym (packed_count law b child so_far hand read) ∙ packed_same (capacity b.made.form.nodesize) (pushed b)))

  pub completed : (new : Building) (root : Root) → IsClimbed closed.made closed.children new.made root → IsCompleted b new root
  completed new root climbed = record {
    extended = extended_then b.made closed.made new.made (extended_node b.made (node_bytes b.made.draft)) climbed.extended;
    few = climbed.few;
    count = climbed.count ∙ closed_count;
    nodes_are = climbed.nodes_are;
    root_is = climbed.root_is (pushed b) (leaf_roots law b child so_far hand read) so_far.order;
    nodes =
        subst (λ (n : ℕ). HasNodes new.made root.address root.level (tree_levels b.made.form.nodesize n)) closed_leaves
        (climbed.nodes (pushed b) (leaf_roots law b child so_far hand read) (leaves_first law b child so_far hand read));
    whole = climbed.whole (pushed b) (leaf_roots law b child so_far hand read);
  }

pub completed_empty : (give : LeavesGiveItems) (are : SubtreesAreTrees) (b new : Building) (root : Root) (a : ℕ) → b.made.nodes ≡ [] → b.made.draft.items ≡ [] → IsNextSlot b.made a
    → NodeReadsBack (begun_at b.made 0 a).draft (node_bytes (begun_at b.made 0 a).draft)
    → new.made ≡ with_node (begun_at b.made 0 a) (node_bytes (begun_at b.made 0 a).draft)
    → root.address ≡ a → root.level ≡ 0 → root.nodes ≡ length new.made.nodes → IsCompleted b new root
completed_empty give are b new root a none no_items at read is address level nodes =
    let bytes : List ℕ = node_bytes (begun_at b.made 0 a).draft in
    let empty : pushed b ≡ [] = ap (λ ns. flat_map items_in ns ++ b.made.draft.items) none ∙ no_items in
    let one : tree_nodes b.made.form.nodesize (lengths_of (pushed b)) ≡ 1 = ap (λ is. tree_nodes b.made.form.nodesize (lengths_of is)) empty ∙ empty_nodes b.made.form.nodesize in
    let many : length new.made.nodes ≡ length b.made.nodes + 1 = ap (λ (m : Made). length m.nodes) is ∙ length_push b.made.nodes bytes in
    let next = next_is b.made a at in
    record {
      extended = record { more = bytes ∷ []; draft = (begun_at b.made 0 a).draft; is = is };
      few = omega (arith, many, next.1, ap (λ (m : Made). length m.slots) is);
      count = omega (arith, many, one, ap (λ ns. length ns) none);
      nodes_are = nodes;
      root_is =
          subst (λ is. IsRoot new.made root.address root.level is) (sym empty)
          (subst (λ (l : ℕ). IsRoot new.made root.address l []) (sym level)
          (subst (λ (x : ℕ). IsRoot new.made x 0 []) (sym address)
          (subst (λ (m : Made). IsRoot m a 0 []) (sym is) (empty_root give are b.made a at read))));
      nodes =
          subst (λ is. HasNodes new.made root.address root.level (tree_levels b.made.form.nodesize (length (packed_leaves b.made.form.nodesize (lengths_of is))))) (sym empty)
          (subst (λ (l : ℕ). HasNodes new.made root.address l (tree_levels b.made.form.nodesize (length (packed_leaves b.made.form.nodesize [])))) (sym level)
          (subst (λ (x : ℕ). HasNodes new.made x 0 (tree_levels b.made.form.nodesize (length (packed_leaves b.made.form.nodesize [])))) (sym address)
          (subst (λ (m : Made). HasNodes m a 0 (tree_levels b.made.form.nodesize (length (packed_leaves b.made.form.nodesize [])))) (sym is) (empty_met b.made a none at))));
      whole =
          subst (λ (l : ℕ). HasWholeNodes new.made root.address l) (sym level)
          (subst (λ (x : ℕ). HasWholeNodes new.made x 0) (sym address)
          (subst (λ (m : Made). HasWholeNodes m a 0) (sym is) (empty_whole b.made a at read)));
    }
