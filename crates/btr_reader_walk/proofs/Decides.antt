-- The bytes of the nodes that are met decide what is met; and a walk over nodes meets the same as one over items.
use Rattle.btr_reader_walk.proofs.Imports.{◌≡◌, ℕ, zero, suc, Bool, List, [], ◌∷◌, ◌++◌, map, Option, Some, None, if◌then◌else◌, refl, sym, ◌∙◌, ap, subst, map-append, All, flat_map, All-nil, All-cons, All-head, All-tail, Image, BtrRule, Unmapped, Key, Item, items_in, children_in, Child, Form, NodeEntry, NodePointer, Tree, MapRange, is_mapped, node_at, want, content_damages, node_damages, TreeEvent, node, leaf_events, unless_damaged, node_events, nodes_in, may_be_bare, nodes_under, NodesAreMet, NodesDecide}
use Rattle.btr_reader_walk.specs.declared.tree.Owners.TheVariants.{Own}
use Rattle.btr_reader_walk.proofs.Events.{leaf_nodes, nodes_in-append}
use Rattle.btr_reader_walk.proofs.Subtrees.{to}

all_first : {X : Type 0} (P : X → Type 0) (xs ys : List X) → All P (xs ++ ys) → All P xs
all_first P [] ys all = All-nil P
all_first P (x ∷ xs) ys all = All-cons P x xs (All-head P x (xs ++ ys) all) (all_first P xs ys (All-tail P x (xs ++ ys) all))

all_second : {X : Type 0} (P : X → Type 0) (xs ys : List X) → All P (xs ++ ys) → All P ys
all_second P [] ys all = all
all_second P (x ∷ xs) ys all = all_second P xs ys (All-tail P x (xs ++ ys) all)

children_same : (P : NodePointer → Type 0) (f g : Child → List TreeEvent) → ((c : Child) → All P (nodes_in (f c)) → g c ≡ f c) → (children : List Child)
    → All P (nodes_in (flat_map f children)) → flat_map g children ≡ flat_map f children
children_same P f g each [] all = refl
children_same P f g each (c ∷ cs) all =
    let parts = subst (λ z. All P z) (nodes_in-append (f c) (flat_map f cs)) all in
    ap (λ z. z ++ flat_map g cs) (each c (all_first P (nodes_in (f c)) (nodes_in (flat_map f cs)) parts))
    ∙ ap (λ z. f c ++ z) (children_same P f g each cs (all_second P (nodes_in (f c)) (nodes_in (flat_map f cs)) parts))

unless_same : (P : NodePointer → Type 0) (d : List BtrRule) (xs ys : List TreeEvent) → (All P (nodes_in xs) → ys ≡ xs) → All P (nodes_in (unless_damaged d xs))
    → unless_damaged d ys ≡ unless_damaged d xs
unless_same P [] xs ys same all = same all
unless_same P (rule ∷ rules) xs ys same all = refl

-- what a node breaks, by its bytes
abbrev breaks : List MapRange → Form → ℕ → Bool → NodePointer → List ℕ → List BtrRule
breaks ranges form owner bare p bytes = if is_mapped ranges form.nodesize p.address then content_damages (want form owner p) bare bytes else Unmapped ∷ []

same_damages : (image other : Image) (ranges : List MapRange) (form : Form) (owner : ℕ) (bare : Bool) (p : NodePointer)
    → node_at other ranges form.nodesize p.address ≡ node_at image ranges form.nodesize p.address
    → node_damages other ranges form owner bare p ≡ node_damages image ranges form owner bare p
unfolding node_damages
same_damages image other ranges form owner bare p same = ap (breaks ranges form owner bare p) same

same_events : (image other : Image) (ranges : List MapRange) (form : Form) (owner : ℕ) (bare : Bool) (level a g : ℕ)
    → All (λ q. node_at other ranges form.nodesize q.address ≡ node_at image ranges form.nodesize q.address) (nodes_in (node_events image ranges form owner bare level a g))
    → node_events other ranges form owner bare level a g ≡ node_events image ranges form owner bare level a g
unfolding node_events
same_events image other ranges form owner bare zero a g all =
    let P : NodePointer → Type 0 = λ q. node_at other ranges form.nodesize q.address ≡ node_at image ranges form.nodesize q.address in
    let here = All-head P (to a zero g) _ all in
    ap (λ (d : List BtrRule). node (to a zero g) ∷ unless_damaged d (leaf_events a (items_in (node_at other ranges form.nodesize a)))) (same_damages image other ranges form owner bare (to a zero g) here)
    ∙ ap (λ (bytes : List ℕ). node (to a zero g) ∷ unless_damaged (node_damages image ranges form owner bare (to a zero g)) (leaf_events a (items_in bytes))) here
same_events image other ranges form owner bare (suc level) a g all =
    let P : NodePointer → Type 0 = λ q. node_at other ranges form.nodesize q.address ≡ node_at image ranges form.nodesize q.address in
    let p : NodePointer = to a (suc level) g in
    let old : Child → List TreeEvent = λ c. node_events image ranges form owner bare level c.address c.generation in
    let new : Child → List TreeEvent = λ c. node_events other ranges form owner bare level c.address c.generation in
    let here = All-head P p _ all in
    let children : List Child = children_in (node_at image ranges form.nodesize a) in
    ap (λ (d : List BtrRule). node p ∷ unless_damaged d (flat_map new (children_in (node_at other ranges form.nodesize a)))) (same_damages image other ranges form owner bare p here)
    ∙ (ap (λ (bytes : List ℕ). node p ∷ unless_damaged (node_damages image ranges form owner bare p) (flat_map new (children_in bytes))) here
    ∙ ap (λ (z : List TreeEvent). node p ∷ z)
    (unless_same P (node_damages image ranges form owner bare p) (flat_map old children) (flat_map new children)
    (children_same P old new (λ c. same_events image other ranges form owner bare level c.address c.generation) children)
    (All-tail P p _ all)))

pub nodes_decide : NodesDecide
nodes_decide = λ image other ranges form owner bare p all. same_events image other ranges form owner bare p.level p.address p.generation all

-- ---- the nodes of a walk over nodes
leaf_met : (d : List BtrRule) (address : ℕ) (items : List Item) → nodes_in (unless_damaged d (leaf_events address items)) ≡ []
leaf_met [] address items = leaf_nodes address items
leaf_met (rule ∷ rules) address items = refl

unless_met : (d : List BtrRule) (es : List NodeEntry) (events : List TreeEvent) → map (λ e. e.pointer) es ≡ nodes_in events
    → map (λ e. e.pointer) (unless_damaged d es) ≡ nodes_in (unless_damaged d events)
unless_met [] es events same = same
unless_met (rule ∷ rules) es events same = refl

children_met : (f : Child → List NodeEntry) (g : Child → List TreeEvent) → ((c : Child) → map (λ e. e.pointer) (f c) ≡ nodes_in (g c)) → (cs : List Child)
    → map (λ e. e.pointer) (flat_map f cs) ≡ nodes_in (flat_map g cs)
children_met f g each [] = refl
children_met f g each (c ∷ cs) =
    map-append (λ e. e.pointer) (f c) (flat_map f cs)
    ∙ (ap (λ z. z ++ map (λ e. e.pointer) (flat_map f cs)) (each c)
    ∙ (ap (λ z. nodes_in (g c) ++ z) (children_met f g each cs) ∙ sym (nodes_in-append (g c) (flat_map g cs))))

same_nodes : (image : Image) (ranges : List MapRange) (tree : Tree) (level : ℕ) (key : Option Key) (a g : ℕ)
    → map (λ e. e.pointer) (nodes_under image ranges tree Own level key a g) ≡ nodes_in (node_events image ranges tree.form tree.owner (may_be_bare tree.root) level a g)
unfolding nodes_under node_events
same_nodes image ranges tree zero key a g =
    ap (λ (z : List NodePointer). to a zero g ∷ z)
    (sym (leaf_met (node_damages image ranges tree.form tree.owner (may_be_bare tree.root) (to a zero g)) a (items_in (node_at image ranges tree.form.nodesize a))))
same_nodes image ranges tree (suc level) key a g =
    let children : List Child = children_in (node_at image ranges tree.form.nodesize a) in
    ap (λ (z : List NodePointer). to a (suc level) g ∷ z)
    (unless_met (node_damages image ranges tree.form tree.owner (may_be_bare tree.root) (to a (suc level) g)) _ _
    (children_met (λ c. nodes_under image ranges tree Own level (Some c.key) c.address c.generation)
    (λ c. node_events image ranges tree.form tree.owner (may_be_bare tree.root) level c.address c.generation)
    (λ c. same_nodes image ranges tree level (Some c.key) c.address c.generation) children))

pub nodes_are_met : NodesAreMet
nodes_are_met = λ image ranges tree. same_nodes image ranges tree tree.root.level None tree.root.address tree.root.generation
