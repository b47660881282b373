-- The last leaf is made, and the levels above the leaves.
use Rattle.btr_tree.proofs.Imports.{◌≡◌, ℕ, ◌<◌, Bool, List, [], ◌∷◌, ◌++◌, length, Some, None, Result, Ok, Err, sym, ◌∙◌, ap, subst, arith, append_assoc, length-append, MatchOption, IfOk, flat_map, length_push, Image, node_bytes, Item, items_in, Child, LeavesGiveItems, NodeReadsBack, Goes, HasBack, taken, with_written, Building, Standing, Holds, IsIdle, IsInHand, all_made, leaf_closed, tree_nodes, nodes_above, IsForest, HasForest, IsClimbed, IsCompleted, lengths_of, Root}
use Rattle.btr_tree.proofs.Completing.{closed_made, closed_forest, closed_count, completed}
use Rattle.btr_tree.proofs.Leaves.{empty_nodes}

pub if_ok_map : {T E : Type 0} (r : Result T E) (P Q : T → Type 0) → ((x : T) → P x → Q x) → IfOk r P → IfOk r Q
if_ok_map (Ok x) P Q turn h = turn x h
if_ok_map (Err e) P Q turn h = tt

module _ (law : LeavesGiveItems) (b : Building) (child : Child) (some : b.hand ≡ Some child) (read : NodeReadsBack b.made.draft (node_bytes b.made.draft)) where
  in_hand : (front : List (List ℕ)) → Standing (all_made b front) → IsInHand (all_made b front) child
  in_hand front standing = subst (λ h. MatchOption h (IsIdle (all_made b front)) (IsInHand (all_made b front))) some standing.hand

  assoc : (front : List (List ℕ)) → (front ++ b.made.nodes) ++ node_bytes b.made.draft ∷ [] ≡ front ++ (b.made.nodes ++ node_bytes b.made.draft ∷ [])
  assoc front = append_assoc front b.made.nodes (node_bytes b.made.draft ∷ [])

  pub closed_taken : (items : List Item) → Holds b items → taken (leaf_closed b child).made ≡ length (leaf_closed b child).children
  closed_taken items h =
      omega (
        arith,
        closed_made law (all_made b h.front) child h.standing (in_hand h.front h.standing) read,
        h.count,
        length_push (h.front ++ b.made.nodes) (node_bytes b.made.draft),
        length_push b.made.nodes (node_bytes b.made.draft),
        length-append h.front b.made.nodes,
      )

  pub closed_has : (items : List Item) → Holds b items → HasForest (leaf_closed b child).made (leaf_closed b child).children
  closed_has items h = record {
    front = h.front;
    count = h.count;
    forest =
        subst (λ ns. IsForest (record b.made { written = 0; nodes = ns }) 0 (b.children ++ child ∷ [])) (assoc h.front)
        (closed_forest law (all_made b h.front) child h.standing (in_hand h.front h.standing) read);
  }

  pub closed_short : (items : List Item) → Holds b items → length b.made.slots < nodes_above b.made.form.nodesize (length (leaf_closed b child).children)
      → length b.made.slots < tree_nodes b.made.form.nodesize (lengths_of items)
  closed_short items h short =
      subst (λ is. length b.made.slots < tree_nodes b.made.form.nodesize (lengths_of is)) h.pushed_is
      (subst (λ (n : ℕ). length b.made.slots < n) (closed_count law (all_made b h.front) child h.standing (in_hand h.front h.standing) read) short)

  pub completed_goes : (tells : Bool) (first second : Image) (new : Building) (root : Root) → Goes tells first second (leaf_closed b child).made new.made (λ m n. IsClimbed m (leaf_closed b child).children n root)
      → Goes tells first second b.made new.made (λ m n. Standing (record b { made = m }) → IsCompleted (record b { made = m }) (record new { made = n }) root)
  completed_goes tells first second new root climbed = λ front count.
      let r : HasBack tells first second (leaf_closed b child).made new.made (λ m n. IsClimbed m (leaf_closed b child).children n root) front = climbed front count in
      record {
        back = r.back;
        count = r.count;
        stands = r.stands;
        now = λ standing.
            completed law (all_made b front) child standing (in_hand front standing) read (all_made new r.back) root
            (subst (λ ns. IsClimbed (record b.made { written = 0; nodes = ns }) (b.children ++ child ∷ []) (with_written new.made r.back) root) (sym (assoc front)) r.now);
      }

-- no slot is left for the leaf of a tree without items
pub empty_short : (b : Building) (items : List Item) → b.hand ≡ None → Holds b items → length b.made.slots < 1 → length b.made.slots < tree_nodes b.made.form.nodesize (lengths_of items)
empty_short b items none h short =
    let x : Building = all_made b h.front in
    let idle : IsIdle x = subst (λ h. MatchOption h (IsIdle x) (IsInHand x)) none h.standing.hand in
    let empty : items ≡ [] = sym h.pushed_is ∙ (ap (λ ns. flat_map items_in ns ++ x.made.draft.items) idle.no_nodes ∙ idle.no_items) in
    let one : tree_nodes b.made.form.nodesize (lengths_of items) ≡ 1 = ap (λ is. tree_nodes b.made.form.nodesize (lengths_of is)) empty ∙ empty_nodes b.made.form.nodesize in
    omega (arith, one, short)
