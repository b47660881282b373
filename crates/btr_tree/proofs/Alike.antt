-- A tree on two disks, or by two maps, that have the same nodes.
use Rattle.btr_tree.proofs.Imports.{◌≡◌, ℕ, zero, suc, Bool, List, [], ◌∷◌, ◌++◌, if◌then◌else◌, map, None, refl, ◌∙◌, ap, subst, flat_map, All-head, All-tail, Image, BtrRefusal, BtrRule, items_in, children_in, Child, Form, NodePointer, MapRange, is_mapped, node_at, want, content_damages, node_damages, TreeEvent, node, leaf_events, unless_damaged, node_events, nodes_in, walk_events, may_be_bare, items_in_events, tree_items, pointer_damages, at_address, node_faults, order_damages, when_sound, bare_item, nodes_in-append, to}
use Rattle.std.specs.List.{All}
use Rattle.btr_node.specs.refusals.declared.rule.BtrRule.TheVariants.{Unmapped}
use Rattle.btr_tree.proofs.Wholes.{all_first, all_second}

children_same : (P : NodePointer → Type 0) (f g : Child → List TreeEvent) → ((c : Child) → All P (nodes_in (f c)) → g c ≡ f c) → (children : List Child)
    → All P (nodes_in (flat_map f children)) → flat_map g children ≡ flat_map f children
children_same P f g each [] all = refl
children_same P f g each (c ∷ cs) all =
    let parts = subst (λ z. All P z) (nodes_in-append (f c) (flat_map f cs)) all in
    ap (λ z. z ++ flat_map g cs) (each c (all_first P (nodes_in (f c)) (nodes_in (flat_map f cs)) parts))
    ∙ ap (λ z. f c ++ z) (children_same P f g each cs (all_second P (nodes_in (f c)) (nodes_in (flat_map f cs)) parts))

unless_same : (P : NodePointer → Type 0) (d : List BtrRule) (xs ys : List TreeEvent) → (All P (nodes_in xs) → ys ≡ xs) → All P (nodes_in (unless_damaged d xs))
    → unless_damaged d ys ≡ unless_damaged d xs
unless_same P [] xs ys same all = same all
unless_same P (rule ∷ rules) xs ys same all = refl

-- the nodes that a tree has by one disk and map have the same bytes by the other, and are mapped there too
module _ (image : Image) (ranges : List MapRange) (other : Image) (others : List MapRange) (form : Form) (P : NodePointer → Type 0) (node_same : (p : NodePointer) → P p → node_at other others form.nodesize p.address ≡ node_at image ranges form.nodesize p.address) (mapped_same : (p : NodePointer) → P p → is_mapped others form.nodesize p.address ≡ is_mapped ranges form.nodesize p.address) where
  module _ (owner : ℕ) (bare : Bool) where
    abbrev breaks : Bool → NodePointer → List ℕ → List BtrRule
    breaks b p bytes = if b then content_damages (want form owner p) bare bytes else Unmapped ∷ []

    damages_same : (p : NodePointer) → P p → node_damages other others form owner bare p ≡ node_damages image ranges form owner bare p
    unfolding node_damages
    damages_same p is =
        ap (λ (b : Bool). breaks b p (node_at other others form.nodesize p.address)) (mapped_same p is) ∙ ap (breaks (is_mapped ranges form.nodesize p.address) p) (node_same p is)

    events_same : (level a g : ℕ) → All P (nodes_in (node_events image ranges form owner bare level a g)) → node_events other others form owner bare level a g ≡ node_events image ranges form owner bare level a g
    unfolding node_events
    events_same zero a g all =
        let same = All-head P (to a zero g) _ all in
        ap (λ (d : List BtrRule). node (to a zero g) ∷ unless_damaged d (leaf_events a (items_in (node_at other others form.nodesize a)))) (damages_same (to a zero g) same)
        ∙ ap (λ (bytes : List ℕ). node (to a zero g) ∷ unless_damaged (node_damages image ranges form owner bare (to a zero g)) (leaf_events a (items_in bytes))) (node_same (to a zero g) same)
    events_same (suc level) a g all =
        let p : NodePointer = to a (suc level) g in
        let old : Child → List TreeEvent = λ c. node_events image ranges form owner bare level c.address c.generation in
        let new : Child → List TreeEvent = λ c. node_events other others form owner bare level c.address c.generation in
        let same = All-head P p _ all in
        let children : List Child = children_in (node_at image ranges form.nodesize a) in
        ap (λ (d : List BtrRule). node p ∷ unless_damaged d (flat_map new (children_in (node_at other others form.nodesize a)))) (damages_same p same)
        ∙ (ap (λ (bytes : List ℕ). node p ∷ unless_damaged (node_damages image ranges form owner bare p) (flat_map new (children_in bytes))) (node_same p same)
        ∙ ap (λ (z : List TreeEvent). node p ∷ z)
        (unless_same P (node_damages image ranges form owner bare p) (flat_map old children) (flat_map new children)
        (children_same P old new (λ c. events_same level c.address c.generation) children)
        (All-tail P p _ all)))

    faults_same : (ps : List NodePointer) → All P ps → flat_map (pointer_damages other others form owner bare) ps ≡ flat_map (pointer_damages image ranges form owner bare) ps
    faults_same [] all = refl
    faults_same (p ∷ ps) all =
        ap (λ (d : List BtrRule). at_address p.address d ++ flat_map (pointer_damages other others form owner bare) ps) (damages_same p (All-head P p ps all))
        ∙ ap (λ ds. pointer_damages image ranges form owner bare p ++ ds) (faults_same ps (All-tail P p ps all))

  -- the whole tree
  pub events_alike : (root : NodePointer) (owner : ℕ) → All P (nodes_in (walk_events image ranges form root owner)) → walk_events other others form root owner ≡ walk_events image ranges form root owner
  events_alike root owner all = events_same owner (may_be_bare root) root.level root.address root.generation all

  pub items_alike : (root : NodePointer) (owner : ℕ) → All P (nodes_in (walk_events image ranges form root owner)) → tree_items other others form root owner ≡ tree_items image ranges form root owner
  items_alike root owner all =
      let bare : Bool = may_be_bare root in
      let old : List TreeEvent = walk_events image ranges form root owner in
      let faults : node_faults other others form owner bare old ≡ node_faults image ranges form owner bare old = faults_same owner bare (nodes_in old) all in
      ap (λ (es : List TreeEvent). when_sound (node_faults other others form owner bare es ++ order_damages None (items_in_events es)) (map bare_item (items_in_events es))) (events_alike root owner all)
      ∙ ap (λ (ds : List BtrRefusal). when_sound (ds ++ order_damages None (items_in_events old)) (map bare_item (items_in_events old))) faults
