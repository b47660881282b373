-- References that are counted over all nodes are those of each tree, where trees share no nodes.
use Rattle.btr_check_rules.proofs.Imports.{◌≡◌, ◌≢◌, ℕ, zero, suc, ◌==◌, ◌||◌, Bool, true, false, List, [], ◌∷◌, ◌++◌, length, map, if◌then◌else◌, refl, sym, ◌∙◌, ap, ap₂, subst, arith, append_assoc, All, AllPairs, Contains, eqb, flat_map, list_any, append-nil, map-append, All-head, All-tail, All-contains, IsPermutation, eqb-true, false_from_ne_true, true≢false, flat_map-append, if_inner, if_leaf, Child, Image, NodePointer, IsPermutation-append, IsPermutation-append_comm, IsPermutation-append_left, IsPermutation-append_right, IsPermutation-cons, IsPermutation-map, IsPermutation-refl, IsPermutation-sym, IsPermutation-trans, at_head, in_tail, head_in, Item, TreeBlock, DataRef, node_bytes, IsOwnNode, IsOwnTree, child_addresses, leaf_of, DataUse, Recount, TreeOn, all_trees, data_uses, node_addresses, nodes_met, once, uses_in, uses_of, Made, child_ref, is_full_node, refs_from, refs_made, root_ref, use_ref}
unfoldable use Rattle.btr_reader.specs.btr_node.Inner.{children_in}
unfoldable use Rattle.btr_reader.specs.btr_node.Leaf.{items_in}
use Rattle.btr_check_rules.proofs.Distinct.{AreDistinct, pairs_head, pairs_tail}

-- what stands once stays
none_same : (n : ℕ) (ns : List ℕ) → All (λ m. n ≢ m) ns → list_any (λ m. m == n) ns ≡ false
none_same n [] all = refl
none_same n (m ∷ ns) all = by (m == n) refl (none_same n ns (All-tail (λ k. n ≢ k) m ns all))
  where
    by : (b : Bool) → (m == n) ≡ b → list_any (λ k. k == n) ns ≡ false → list_any (λ k. k == n) (m ∷ ns) ≡ false
    by true is rest = absurd (All-head (λ k. n ≢ k) m ns all (sym (eqb-true m n is)))
    by false is rest = ap (λ (b : Bool). b || list_any (λ k. k == n) ns) is ∙ rest

pub once_is : (ns : List ℕ) → AreDistinct ns → once ns ≡ ns
once_is [] apart = refl
once_is (n ∷ ns) apart =
    ap (λ (b : Bool). if b then once ns else n ∷ once ns) (none_same n ns (pairs_head (λ (a b : ℕ). a ≢ b) n ns apart))
    ∙ ap (λ (l : List ℕ). n ∷ l) (once_is ns (pairs_tail (λ (a b : ℕ). a ≢ b) n ns apart))

-- two parts in the middle change places
middle_swap : {X : Type 0} (a b c d : List X) → IsPermutation ((a ++ b) ++ (c ++ d)) ((a ++ c) ++ (b ++ d))
middle_swap {X} a b c d =
    let one : (a ++ b) ++ (c ++ d) ≡ a ++ ((b ++ c) ++ d) = append_assoc a b (c ++ d) ∙ ap (λ (l : List X). a ++ l) (sym (append_assoc b c d)) in
    let two : a ++ ((c ++ b) ++ d) ≡ (a ++ c) ++ (b ++ d) = ap (λ (l : List X). a ++ l) (append_assoc c b d) ∙ sym (append_assoc a c (b ++ d)) in
    subst (λ (l : List X). IsPermutation l ((a ++ c) ++ (b ++ d))) (sym one)
    (subst (IsPermutation (a ++ ((b ++ c) ++ d))) two (IsPermutation-append_right a ((b ++ c) ++ d) ((c ++ b) ++ d) (IsPermutation-append_left d (b ++ c) (c ++ b) (IsPermutation-append_comm b c))))

module _ (image : Image) (r : Recount) where
  -- the reference of a tree to one of its nodes, and that of a file extent to its data
  abbrev pub node_made : ℕ → ℕ → Made
  node_made number address = record { start = address; length = r.super.nodesize; ref = TreeBlock number }

  abbrev pub use_made : DataUse → Made
  use_made u = record { start = u.start; length = u.length; ref = DataRef u.tree u.inode u.offset 1 }

  abbrev pub nodes_made : TreeOn → List Made
  nodes_made t = map (node_made t.number) (node_addresses t)

  -- what each tree refers to
  abbrev pub made_by_trees : List Made
  made_by_trees = flat_map nodes_made (all_trees r) ++ map use_made (data_uses r)

  module _ (plain : (address : ℕ) → is_full_node r address ≡ false) where
    abbrev from : ℕ → List Made
    from address = refs_from r address (node_bytes image r address)

    -- by level, owner and form of a node
    abbrev made_at : ℕ → ℕ → ℕ → Bool → List Made
    made_at address level number full =
        if level == 0 then map (use_ref full address) (uses_of number (items_in (node_bytes image r address)))
        else map (child_ref r.super.nodesize full number address) (children_in (node_bytes image r address))

    children_made : (number : ℕ) (address : ℕ) (cs : List Child) → map (child_ref r.super.nodesize false number address) cs ≡ map (node_made number) (map (λ c. c.address) cs)
    children_made number address [] = refl
    children_made number address (c ∷ cs) = ap (λ (l : List Made). node_made number c.address ∷ l) (children_made number address cs)

    at_level : (number address level : ℕ)
        → made_at address level number false
        ≡ map (node_made number) (if_inner level (map (λ c. c.address) (children_in (node_bytes image r address)))) ++ map use_made (uses_of number (if_leaf level (items_in (node_bytes image r address))))
    at_level number address zero = refl
    at_level number address (suc level) =
        ap (λ (b : Bool). if b then map (use_ref false address) (uses_of number (items_in (node_bytes image r address))) else map (child_ref r.super.nodesize false number address) (children_in (node_bytes image r address)))
        (false_from_ne_true (suc level == 0) (λ t. let e = eqb-true (suc level) 0 t in omega (arith, e)))
        ∙ (children_made number address (children_in (node_bytes image r address)) ∙ sym (append-nil (map (node_made number) (map (λ c. c.address) (children_in (node_bytes image r address))))))

    one_made : (number : ℕ) (p : NodePointer) → IsOwnNode image r number p → from p.address ≡ map (node_made number) (child_addresses image r p) ++ map use_made (uses_of number (leaf_of image r p))
    one_made number p own =
        ap (λ (l : ℕ). made_at p.address l (head_in (node_bytes image r p.address)).owner (is_full_node r p.address)) own.level
        ∙ (ap (λ (n : ℕ). made_at p.address p.level n (is_full_node r p.address)) own.owner
        ∙ (ap (made_at p.address p.level number) (plain p.address) ∙ at_level number p.address p.level))

    -- the nodes of a tree
    abbrev address_of : NodePointer → ℕ
    address_of p = p.address

    walk_made : (number : ℕ) (ps : List NodePointer) → All (IsOwnNode image r number) ps
        → IsPermutation (flat_map from (map address_of ps)) (map (node_made number) (flat_map (child_addresses image r) ps) ++ map use_made (uses_of number (flat_map (leaf_of image r) ps)))
    walk_made number [] all = IsPermutation-refl []
    walk_made number (p ∷ ps) all =
        let kids : List ℕ = child_addresses image r p in
        let others : List ℕ = flat_map (child_addresses image r) ps in
        let own : List DataUse = uses_of number (leaf_of image r p) in
        let theirs : List DataUse = uses_of number (flat_map (leaf_of image r) ps) in
        let rest = walk_made number ps (All-tail (IsOwnNode image r number) p ps all) in
        let first = one_made number p (All-head (IsOwnNode image r number) p ps all) in
        let front : List Made = map (node_made number) kids ++ map use_made own in
        let both : IsPermutation (front ++ flat_map from (map address_of ps)) ((map (node_made number) kids ++ map (node_made number) others) ++ (map use_made own ++ map use_made theirs)) =
        IsPermutation-trans (front ++ flat_map from (map address_of ps)) (front ++ (map (node_made number) others ++ map use_made theirs)) ((map (node_made number) kids ++ map (node_made number) others) ++ (map use_made own ++ map use_made theirs))
        (IsPermutation-append_right front (flat_map from (map address_of ps)) (map (node_made number) others ++ map use_made theirs) rest)
        (middle_swap (map (node_made number) kids) (map use_made own) (map (node_made number) others) (map use_made theirs)) in
        let uses : map use_made own ++ map use_made theirs ≡ map use_made (uses_of number (leaf_of image r p ++ flat_map (leaf_of image r) ps)) =
        sym (map-append use_made own theirs) ∙ ap (map use_made) (uses_both number (leaf_of image r p) (flat_map (leaf_of image r) ps)) in
        let nodes : map (node_made number) kids ++ map (node_made number) others ≡ map (node_made number) (kids ++ others) = sym (map-append (node_made number) kids others) in
        subst (λ (l : List Made). IsPermutation (l ++ flat_map from (map address_of ps)) (map (node_made number) (kids ++ others) ++ map use_made (uses_of number (leaf_of image r p ++ flat_map (leaf_of image r) ps)))) (sym first)
        (subst (IsPermutation (front ++ flat_map from (map address_of ps))) (ap₂ (λ (a b : List Made). a ++ b) nodes uses) both)
      where
        uses_both : (tree : ℕ) (xs ys : List Item) → uses_of tree xs ++ uses_of tree ys ≡ uses_of tree (xs ++ ys)
        uses_both tree xs ys = sym (flat_map-append _ xs ys)

    -- a tree, with the reference to its root
    tree_made : (t : TreeOn) → IsOwnTree image r t → IsPermutation (root_ref r t ∷ flat_map from (node_addresses t)) (nodes_made t ++ map use_made (uses_in t))
    tree_made t own =
        let kids : List ℕ = flat_map (child_addresses image r) t.nodes in
        let uses : List Made = map use_made (uses_of t.number (flat_map (leaf_of image r) t.nodes)) in
        let below : IsPermutation (root_ref r t ∷ flat_map from (node_addresses t)) (root_ref r t ∷ (map (node_made t.number) kids ++ uses)) =
        IsPermutation-cons (root_ref r t) (flat_map from (node_addresses t)) (map (node_made t.number) kids ++ uses) (walk_made t.number t.nodes own.nodes) in
        let told : IsPermutation (map (node_made t.number) (t.root.address ∷ kids)) (nodes_made t) =
        IsPermutation-sym (nodes_made t) (map (node_made t.number) (t.root.address ∷ kids)) (IsPermutation-map (node_made t.number) (node_addresses t) (t.root.address ∷ kids) own.pointers) in
        subst (λ (xs : List Item). IsPermutation (root_ref r t ∷ flat_map from (node_addresses t)) (nodes_made t ++ map use_made (uses_of t.number xs))) (sym own.items)
        (IsPermutation-trans (root_ref r t ∷ flat_map from (node_addresses t)) (root_ref r t ∷ (map (node_made t.number) kids ++ uses)) (nodes_made t ++ uses) below
        (IsPermutation-append_left uses (map (node_made t.number) (t.root.address ∷ kids)) (nodes_made t) told))

    trees_made : (ts : List TreeOn) → All (IsOwnTree image r) ts
        → IsPermutation (map (root_ref r) ts ++ flat_map from (flat_map node_addresses ts)) (flat_map nodes_made ts ++ map use_made (flat_map uses_in ts))
    trees_made [] all = IsPermutation-refl []
    trees_made (t ∷ ts) all =
        let roots : List Made = map (root_ref r) ts in
        let here : List Made = flat_map from (node_addresses t) in
        let later : List Made = flat_map from (flat_map node_addresses ts) in
        let nodes : List Made = flat_map nodes_made ts in
        let own : List Made = map use_made (uses_in t) in
        let uses : List Made = map use_made (flat_map uses_in ts) in
        let one : IsPermutation ((root_ref r t ∷ roots) ++ (here ++ later)) ((root_ref r t ∷ here) ++ (roots ++ later)) = middle_swap (root_ref r t ∷ []) roots here later in
        let two : IsPermutation ((root_ref r t ∷ here) ++ (roots ++ later)) ((nodes_made t ++ own) ++ (nodes ++ uses)) =
        IsPermutation-append (root_ref r t ∷ here) (nodes_made t ++ own) (roots ++ later) (nodes ++ uses) (tree_made t (All-head (IsOwnTree image r) t ts all)) (trees_made ts (All-tail (IsOwnTree image r) t ts all)) in
        let three : IsPermutation ((nodes_made t ++ own) ++ (nodes ++ uses)) ((nodes_made t ++ nodes) ++ (own ++ uses)) = middle_swap (nodes_made t) own nodes uses in
        subst (λ (l : List Made). IsPermutation ((root_ref r t ∷ roots) ++ l) ((nodes_made t ++ nodes) ++ map use_made (uses_in t ++ flat_map uses_in ts))) (sym (flat_map-append from (node_addresses t) (flat_map node_addresses ts)))
        (subst (λ (l : List Made). IsPermutation ((root_ref r t ∷ roots) ++ (here ++ later)) ((nodes_made t ++ nodes) ++ l)) (sym (map-append use_made (uses_in t) (flat_map uses_in ts)))
        (IsPermutation-trans ((root_ref r t ∷ roots) ++ (here ++ later)) ((root_ref r t ∷ here) ++ (roots ++ later)) ((nodes_made t ++ nodes) ++ (own ++ uses)) one
        (IsPermutation-trans ((root_ref r t ∷ here) ++ (roots ++ later)) ((nodes_made t ++ own) ++ (nodes ++ uses)) ((nodes_made t ++ nodes) ++ (own ++ uses)) two three)))

    pub all_made : AreDistinct (flat_map node_addresses (all_trees r)) → All (IsOwnTree image r) (all_trees r) → IsPermutation (refs_made image r) made_by_trees
    all_made apart all =
        subst (λ (l : List ℕ). IsPermutation (map (root_ref r) (all_trees r) ++ flat_map from l) made_by_trees) (sym (once_is (flat_map node_addresses (all_trees r)) apart)) (trees_made (all_trees r) all)
