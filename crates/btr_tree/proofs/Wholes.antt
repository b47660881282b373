-- Nodes of a tree that are exactly those of their drafts.
use Rattle.btr_tree.proofs.Imports.{◌≡◌, ◌≤◌, ◌<◌, ℕ, zero, suc, Bool, List, [], ◌∷◌, ◌++◌, length, map, take, drop, get_or, refl, sym, ◌∙◌, ap, subst, arith, take-append-drop, All-nil, All-cons, All-head, All-tail, All-append, ITEM_SIZE, KEY_PTR_SIZE, Image, MapRange, nritems, behind_head, child_layout, children_in, item_layout, item_of, heads_in, items_in, records_in, Child, node_at, NodePointer, Made, slot, expected_at, pointer_to, first_key, child_of, children_of, AreWhole, nodes_below, IsExact, IsWhole, HasFirstKey, first_key_in}
use Rattle.std.specs.List.{All}
use Rattle.btr_tree.proofs.Meeting.{leaf_met, below_append, below_one}

pub all_first : {X : Type 0} (P : X → Type 0) (xs ys : List X) → All P (xs ++ ys) → All P xs
all_first P [] ys all = All-nil P
all_first P (x ∷ xs) ys all = All-cons P x xs (All-head P x (xs ++ ys) all) (all_first P xs ys (All-tail P x (xs ++ ys) all))

pub all_second : {X : Type 0} (P : X → Type 0) (xs ys : List X) → All P (xs ++ ys) → All P ys
all_second P [] ys all = all
all_second P (x ∷ xs) ys all = all_second P xs ys (All-tail P x (xs ++ ys) all)

-- the first key is that of the first child
pub first_child : (bytes : List ℕ) (d : Child) → 1 ≤ length (children_in bytes) → first_key_in bytes ≡ (get_or (children_in bytes) 0 d).key
unfolding children_in child_layout
first_child bytes d some = by_count (nritems bytes) some
  where
    by_count : (n : ℕ) → 1 ≤ length (records_in KEY_PTR_SIZE child_layout n (behind_head bytes)) → first_key_in bytes ≡ (get_or (records_in KEY_PTR_SIZE child_layout n (behind_head bytes)) 0 d).key
    by_count zero some = absurd (omega arith)
    by_count (suc n) some = refl

-- or of the first item
pub first_item : (bytes : List ℕ) → 1 ≤ length (items_in bytes) → first_key_in bytes ≡ first_key (items_in bytes)
unfolding items_in heads_in item_layout
first_item bytes some = by_count (nritems bytes) some
  where
    by_count : (n : ℕ) → 1 ≤ length (map (item_of (behind_head bytes)) (records_in ITEM_SIZE item_layout n (behind_head bytes)))
        → first_key_in bytes ≡ first_key (map (item_of (behind_head bytes)) (records_in ITEM_SIZE item_layout n (behind_head bytes)))
    by_count zero some = absurd (omega arith)
    by_count (suc n) some = refl

module _ (image : Image) (ranges : List MapRange) (m : Made) (bare : Bool) (level : ℕ) where
  abbrev pub Node : NodePointer → Type 0
  Node = IsWhole image ranges m.form m.owner m.chunk_tree

  abbrev pub First : Child → Type 0
  First = HasFirstKey image ranges m.form.nodesize

  pub whole_none : AreWhole image ranges m bare level []
  whole_none = record { nodes = All-nil Node; firsts = All-nil First }

  pub whole_append : (xs ys : List Child) → AreWhole image ranges m bare level xs → AreWhole image ranges m bare level ys → AreWhole image ranges m bare level (xs ++ ys)
  whole_append xs ys first second = record {
    nodes = subst (All Node) (sym (below_append image ranges m bare level xs ys)) (All-append Node (nodes_below image ranges m bare level xs) (nodes_below image ranges m bare level ys) first.nodes second.nodes);
    firsts = All-append First xs ys first.firsts second.firsts;
  }

  whole_first : (xs ys : List Child) → AreWhole image ranges m bare level (xs ++ ys) → AreWhole image ranges m bare level xs
  whole_first xs ys all = record {
    nodes = all_first Node (nodes_below image ranges m bare level xs) (nodes_below image ranges m bare level ys) (subst (All Node) (below_append image ranges m bare level xs ys) all.nodes);
    firsts = all_first First xs ys all.firsts;
  }

  whole_second : (xs ys : List Child) → AreWhole image ranges m bare level (xs ++ ys) → AreWhole image ranges m bare level ys
  whole_second xs ys all = record {
    nodes = all_second Node (nodes_below image ranges m bare level xs) (nodes_below image ranges m bare level ys) (subst (All Node) (below_append image ranges m bare level xs ys) all.nodes);
    firsts = all_second First xs ys all.firsts;
  }

  -- a part of some children
  pub whole_part : (s n : ℕ) (children : List Child) → AreWhole image ranges m bare level children → AreWhole image ranges m bare level (take n (drop s children))
  whole_part s n children all =
      let rest : List Child = drop s children in
      whole_first (take n rest) (drop n rest)
      (subst (AreWhole image ranges m bare level) (sym (take-append-drop n rest))
      (whole_second (take s children) rest (subst (AreWhole image ranges m bare level) (sym (take-append-drop s children)) all)))

-- the leaves are
pub leaves_whole : (image : Image) (ranges : List MapRange) (m : Made) (bare : Bool) (slots : List ℕ) (nodes : List (List ℕ)) → length nodes ≤ length slots
    → ((i : ℕ) → i < length nodes → node_at image ranges m.form.nodesize (slot slots i) ≡ get_or nodes i [])
    → ((i : ℕ) → i < length nodes → IsExact m.form.nodesize (expected_at m 0 (slot slots i)) m.chunk_tree (get_or nodes i []))
    → All (λ items. 1 ≤ length items) (map items_in nodes) → AreWhole image ranges m bare 0 (children_of m.generation slots (map items_in nodes))
leaves_whole image ranges m bare [] [] few stand exact full = whole_none image ranges m bare 0
leaves_whole image ranges m bare [] (n ∷ nodes) few stand exact full = absurd (omega arith)
leaves_whole image ranges m bare (a ∷ slots) [] few stand exact full = whole_none image ranges m bare 0
leaves_whole image ranges m bare (a ∷ slots) (n ∷ nodes) few stand exact full =
    let p : NodePointer = pointer_to m.generation 0 a in
    let c : Child = child_of m.generation a (items_in n) in
    let node : node_at image ranges m.form.nodesize a ≡ n = stand 0 (omega arith) in
    let many : 1 ≤ length (items_in n) = All-head (λ items. 1 ≤ length items) (items_in n) (map items_in nodes) full in
    let here : IsWhole image ranges m.form m.owner m.chunk_tree p = record {
      exact = subst (IsExact m.form.nodesize (expected_at m 0 a) m.chunk_tree) (sym node) (exact 0 (omega arith));
      firsts = λ h. absurd (omega (arith, h));
    } in
    let met : nodes_below image ranges m bare 0 (c ∷ []) ≡ p ∷ [] = below_one image ranges m bare 0 c ∙ leaf_met image ranges m.form m.owner bare m.generation a in
    let one : AreWhole image ranges m bare 0 (c ∷ []) = record {
      nodes = subst (All (Node image ranges m bare 0)) (sym met) (All-cons (Node image ranges m bare 0) p [] here (All-nil (Node image ranges m bare 0)));
      firsts = All-cons (First image ranges m bare 0) c [] (sym (ap first_key_in node ∙ first_item n many)) (All-nil (First image ranges m bare 0));
    } in
    whole_append image ranges m bare 0 (c ∷ []) (children_of m.generation slots (map items_in nodes)) one
    (leaves_whole image ranges m bare slots nodes (omega arith) (λ i h. stand (suc i) (omega arith)) (λ i h. exact (suc i) (omega arith)) (All-tail (λ items. 1 ≤ length items) (items_in n) (map items_in nodes) full))
