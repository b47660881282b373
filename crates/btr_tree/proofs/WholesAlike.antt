-- A tree that was written whole, on another disk or by another map that have the same nodes.
use Rattle.btr_tree.proofs.Imports.{◌≡◌, ◌≤◌, ℕ, zero, suc, Bool, List, [], ◌∷◌, ◌++◌, length, map, Some, refl, sym, ◌∙◌, ap, subst, arith, flat_map, All-nil, All-cons, All-head, All-tail, All-append, Image, BtrRefusal, BtrRule, Item, items_in, children_in, Child, Form, NodePointer, MapRange, is_mapped, node_at, want, node_damages, TreeEvent, leaf_events, unless_damaged, node_events, nodes_in, walk_events, may_be_bare, tree_items, tree_refusals, pointer_damages, at_address, when_sound, bare_item, leaf_items, nodes_in-append, leaf_nodes, to, IsExact, IsWhole, IsWholeTree, HasFirstKeys, first_key_in}
use Rattle.std.specs.List.{All}
use Rattle.btr_tree.proofs.Alike.{events_alike}
use Rattle.btr_tree.proofs.Wholes.{all_first, all_second}

-- what holds at each child's nodes holds at those of all
each_child : (P Q R : NodePointer → Type 0) (f : Child → List TreeEvent) → ((c : Child) → All P (nodes_in (f c)) → All Q (nodes_in (f c)) → All R (nodes_in (f c)))
    → (children : List Child) → All P (nodes_in (flat_map f children)) → All Q (nodes_in (flat_map f children)) → All R (nodes_in (flat_map f children))
each_child P Q R f each [] all sound = All-nil R
each_child P Q R f each (c ∷ cs) all sound =
    let parts : All P (nodes_in (f c) ++ nodes_in (flat_map f cs)) = subst (All P) (nodes_in-append (f c) (flat_map f cs)) all in
    let parts' : All Q (nodes_in (f c) ++ nodes_in (flat_map f cs)) = subst (All Q) (nodes_in-append (f c) (flat_map f cs)) sound in
    subst (All R) (sym (nodes_in-append (f c) (flat_map f cs)))
    (All-append R (nodes_in (f c)) (nodes_in (flat_map f cs))
    (each c (all_first P (nodes_in (f c)) (nodes_in (flat_map f cs)) parts) (all_first Q (nodes_in (f c)) (nodes_in (flat_map f cs)) parts'))
    (each_child P Q R f each cs (all_second P (nodes_in (f c)) (nodes_in (flat_map f cs)) parts) (all_second Q (nodes_in (f c)) (nodes_in (flat_map f cs)) parts')))

module _ (image : Image) (ranges : List MapRange) (other : Image) (others : List MapRange) (form : Form) (P : NodePointer → Type 0) (node_same : (p : NodePointer) → P p → node_at other others form.nodesize p.address ≡ node_at image ranges form.nodesize p.address) (mapped_same : (p : NodePointer) → P p → is_mapped others form.nodesize p.address ≡ is_mapped ranges form.nodesize p.address) where
  abbrev IsSameAt : Child → Type 0
  IsSameAt c = node_at other others form.nodesize c.address ≡ node_at image ranges form.nodesize c.address

  -- the children of a node have the same bytes there
  abbrev HasSameChildren : NodePointer → Type 0
  HasSameChildren p = 1 ≤ p.level → All IsSameAt (children_in (node_at image ranges form.nodesize p.address))

  module _ (owner : ℕ) (bare : Bool) where
    abbrev IsUndamaged : NodePointer → Type 0
    IsUndamaged p = node_damages image ranges form owner bare p ≡ []

    own : (level a g : ℕ) → All P (nodes_in (node_events image ranges form owner bare level a g)) → P (to a level g)
    unfolding node_events
    own zero a g all = All-head P (to a zero g) _ all
    own (suc level) a g all = All-head P (to a (suc level) g) _ all

    children_there : (level : ℕ) (children : List Child) → All P (nodes_in (flat_map (λ c. node_events image ranges form owner bare level c.address c.generation) children)) → All IsSameAt children
    children_there level [] all = All-nil IsSameAt
    children_there level (c ∷ cs) all =
        let f : Child → List TreeEvent = λ c. node_events image ranges form owner bare level c.address c.generation in
        let parts : All P (nodes_in (f c) ++ nodes_in (flat_map f cs)) = subst (All P) (nodes_in-append (f c) (flat_map f cs)) all in
        All-cons IsSameAt c cs (node_same (to c.address level c.generation) (own level c.address c.generation (all_first P (nodes_in (f c)) (nodes_in (flat_map f cs)) parts)))
        (children_there level cs (all_second P (nodes_in (f c)) (nodes_in (flat_map f cs)) parts))

    no_nodes : (d : List BtrRule) (a : ℕ) (items : List Item) → nodes_in (unless_damaged d (leaf_events a items)) ≡ []
    no_nodes [] a items = leaf_nodes a items
    no_nodes (rule ∷ rules) a items = refl

    children_same_at : (level a g : ℕ) → All P (nodes_in (node_events image ranges form owner bare level a g)) → All IsUndamaged (nodes_in (node_events image ranges form owner bare level a g))
        → All HasSameChildren (nodes_in (node_events image ranges form owner bare level a g))
    unfolding node_events
    children_same_at zero a g all sound =
        let p : NodePointer = to a zero g in
        All-cons HasSameChildren p _ (λ h. absurd (omega (arith, h)))
        (subst (All HasSameChildren) (sym (no_nodes (node_damages image ranges form owner bare p) a (items_in (node_at image ranges form.nodesize a)))) (All-nil HasSameChildren))
    children_same_at (suc level) a g all sound =
        let p : NodePointer = to a (suc level) g in
        let f : Child → List TreeEvent = λ c. node_events image ranges form owner bare level c.address c.generation in
        let children : List Child = children_in (node_at image ranges form.nodesize a) in
        let below : nodes_in (unless_damaged (node_damages image ranges form owner bare p) (flat_map f children)) ≡ nodes_in (flat_map f children) =
        ap (λ (d : List BtrRule). nodes_in (unless_damaged d (flat_map f children))) (All-head IsUndamaged p _ sound) in
        let all' : All P (nodes_in (flat_map f children)) = subst (All P) below (All-tail P p _ all) in
        let sound' : All IsUndamaged (nodes_in (flat_map f children)) = subst (All IsUndamaged) below (All-tail IsUndamaged p _ sound) in
        All-cons HasSameChildren p _ (λ h. children_there level children all')
        (subst (All HasSameChildren) (sym below) (each_child P IsUndamaged HasSameChildren f (λ c. children_same_at level c.address c.generation) children all' sound'))

    none_damaged : (ps : List NodePointer) (more : List BtrRefusal) → flat_map (pointer_damages image ranges form owner bare) ps ++ more ≡ [] → All IsUndamaged ps
    none_damaged [] more none = All-nil IsUndamaged
    none_damaged (p ∷ ps) more none = by_damage (node_damages image ranges form owner bare p) refl none (none_damaged ps more)
      where
        by_damage : (d : List BtrRule) → d ≡ node_damages image ranges form owner bare p → (at_address p.address d ++ flat_map (pointer_damages image ranges form owner bare) ps) ++ more ≡ []
            → (flat_map (pointer_damages image ranges form owner bare) ps ++ more ≡ [] → All IsUndamaged ps) → All IsUndamaged (p ∷ ps)
        by_damage [] is none rest = All-cons IsUndamaged p ps (sym is) (rest none)
        by_damage (rule ∷ rules) is none rest = absurd (omega (arith, ap length none))

  none_refused : {X : Type 0} (d : List BtrRefusal) (x y : X) → when_sound d x ≡ Some y → d ≡ []
  none_refused [] x y is = refl
  none_refused (r ∷ d) x y is = absurd (cc is)

  one_alike : (owner : ℕ) (chunk_tree : List ℕ) (p : NodePointer) → P p → HasSameChildren p → IsWhole image ranges form owner chunk_tree p → IsWhole other others form owner chunk_tree p
  one_alike owner chunk_tree p same there is = record {
    exact = subst (IsExact form.nodesize (want form owner p) chunk_tree) (sym (node_same p same)) is.exact;
    firsts = λ h. subst (HasFirstKeys other others form.nodesize) (sym (node_same p same)) (λ k d inside. is.firsts h k d inside ∙ sym (ap first_key_in (there h k d inside)));
  }

  pub whole_alike : (root : NodePointer) (owner : ℕ) (chunk_tree : List ℕ) (items : List Item) → All P (nodes_in (walk_events image ranges form root owner)) → tree_items image ranges form root owner ≡ Some items
      → IsWholeTree image ranges form owner chunk_tree root → IsWholeTree other others form owner chunk_tree root
  whole_alike root owner chunk_tree items all are whole =
      let bare : Bool = may_be_bare root in
      let old : List TreeEvent = walk_events image ranges form root owner in
      let none : tree_refusals image ranges form root owner ≡ [] = none_refused (tree_refusals image ranges form root owner) (map bare_item (leaf_items image ranges form root owner)) items are in
      let sound : All (IsUndamaged owner bare) (nodes_in old) = none_damaged owner bare (nodes_in old) _ none in
      let there : All HasSameChildren (nodes_in old) = children_same_at owner bare root.level root.address root.generation all sound in
      subst (λ (es : List TreeEvent). All (IsWhole other others form owner chunk_tree) (nodes_in es)) (sym (events_alike image ranges other others form P node_same mapped_same root owner all))
      (λ k d inside. one_alike owner chunk_tree _ (all k d inside) (there k d inside) (whole k d inside))
