-- A walk that takes the nodes of a tree alone meets what a walk does that takes those of other subvolumes too, where the tree is none of
-- these: then whatever is wrong with it.
use Rattle.btr_check_sums.proofs.Imports.{◌≡◌, ℕ, zero, suc, List, [], ◌∷◌, ◌++◌, map, Option, None, Some, refl, sym, ap, ap₂, ◌∙◌, append-nil, map-append, Key, Item, TreeEvent, TreeItem, in_leaf, items_in_events, leaf_events, may_be_bare, nodes_in, unless_damaged, order_damages, MapRange, Image, if_leaf, owners_of, walk_refusals, walked_items, walked_nodes, found, wrong, Own, Tree, BtrRefusal}
use Rattle.std.specs.List.{flat_map}
use Rattle.std.proofs.lemmas.List.Concat.{flat_map-append}
use Rattle.btr_check_rules.specs.btr_reader.btr_node.declared.child.Child.{Child}
use Rattle.btr_check_rules.specs.btr_reader.btr_reader_walk.Nodes.{damages_at, refusals_at, tree_nodes}
use Rattle.btr_check_rules.specs.btr_reader.btr_reader_walk.declared.tree.NodeEntry.{NodeEntry}
use Rattle.btr_check_rules.specs.btr_reader.btr_reader_walk.declared.tree.NodePointer.{NodePointer}
use Rattle.btr_check_rules.specs.btr_reader.btr_reader_walk.declared.tree.Owners.{Owners}
use Rattle.btr_check_rules.specs.btr_reader.refusals.declared.rule.BtrRule.{BtrRule}
use Rattle.btr_reader_walk.proofs.Events.{items_in-append, leaf_nodes, nodes_in-append}
unfoldable use Rattle.btr_check_rules.specs.btr_reader.btr_node.Inner.{children_in}
unfoldable use Rattle.btr_check_rules.specs.btr_reader.btr_node.Leaf.{items_in}
unfoldable use Rattle.btr_check_rules.specs.btr_reader.btr_reader_walk.Events.{node_events}
unfoldable use Rattle.btr_check_rules.specs.btr_reader.btr_reader_walk.Map.{node_at}
unfoldable use Rattle.btr_check_rules.specs.btr_reader.btr_reader_walk.Node.{node_damages}
unfoldable use Rattle.btr_check_rules.specs.btr_reader.btr_reader_walk.Nodes.{nodes_under}

abbrev to : ℕ → ℕ → ℕ → NodePointer
to address level generation = record { address = address; level = level; generation = generation }

met_leaf : (d : List BtrRule) (address : ℕ) (items : List Item) → nodes_in (unless_damaged d (leaf_events address items)) ≡ []
met_leaf [] address items = leaf_nodes address items
met_leaf (rule ∷ rules) address items = refl

leaf_met : (address : ℕ) (items : List Item) → items_in_events (leaf_events address items) ≡ map (in_leaf address) items
leaf_met address [] = refl
leaf_met address (i ∷ items) = ap (λ (l : List TreeItem). in_leaf address i ∷ l) (leaf_met address items)

module _ (image : Image) (ranges : List MapRange) (tree : Tree) where
  abbrev pointer_of : NodeEntry → NodePointer
  pointer_of e = e.pointer

  abbrev damages : NodePointer → List BtrRule
  damages p = node_damages image ranges tree.form tree.owner (may_be_bare tree.root) p

  abbrev events : ℕ → ℕ → ℕ → List TreeEvent
  events level address generation = node_events image ranges tree.form tree.owner (may_be_bare tree.root) level address generation

  -- ---- its nodes

  children_met : (f : Child → List NodeEntry) (g : Child → List TreeEvent) → ((c : Child) → map pointer_of (f c) ≡ nodes_in (g c)) → (cs : List Child)
      → map pointer_of (flat_map f cs) ≡ nodes_in (flat_map g cs)
  children_met f g each [] = refl
  children_met f g each (c ∷ cs) =
      map-append pointer_of (f c) (flat_map f cs)
      ∙ (ap₂ (λ (a b : List NodePointer). a ++ b) (each c) (children_met f g each cs) ∙ sym (nodes_in-append (g c) (flat_map g cs)))

  opened_nodes : (d : List BtrRule) (es : List NodeEntry) (vs : List TreeEvent) → map pointer_of es ≡ nodes_in vs → map pointer_of (unless_damaged d es) ≡ nodes_in (unless_damaged d vs)
  opened_nodes [] es vs same = same
  opened_nodes (rule ∷ rules) es vs same = refl

  same_nodes : (level : ℕ) (key : Option Key) (address generation : ℕ) → map pointer_of (nodes_under image ranges tree Own level key address generation) ≡ nodes_in (events level address generation)
  unfolding nodes_under node_events
  same_nodes zero key address generation =
      ap (λ (z : List NodePointer). to address zero generation ∷ z) (sym (met_leaf (damages (to address zero generation)) address (items_in (node_at image ranges tree.form.nodesize address))))
  same_nodes (suc level) key address generation =
      let p : NodePointer = to address (suc level) generation in
      let children : List Child = children_in (node_at image ranges tree.form.nodesize address) in
      let entries : Child → List NodeEntry = λ c. nodes_under image ranges tree Own level (Some c.key) c.address c.generation in
      let below : Child → List TreeEvent = λ c. events level c.address c.generation in
      ap (λ (z : List NodePointer). p ∷ z)
      (opened_nodes (damages p) (flat_map entries children) (flat_map below children) (children_met entries below (λ c. same_nodes level (Some c.key) c.address c.generation) children))

  -- ---- its items

  abbrev items_by : Owners → NodePointer → List TreeItem
  items_by owners p = if_leaf p.level (unless_damaged (damages_at image ranges tree owners p) (map (in_leaf p.address) (items_in (node_at image ranges tree.form.nodesize p.address))))

  abbrev leaves : List NodePointer → List TreeItem
  leaves ps = flat_map (items_by Own) ps

  children_items : (g : Child → List TreeEvent) → ((c : Child) → leaves (nodes_in (g c)) ≡ items_in_events (g c)) → (cs : List Child) → leaves (nodes_in (flat_map g cs)) ≡ items_in_events (flat_map g cs)
  children_items g each [] = refl
  children_items g each (c ∷ cs) =
      ap leaves (nodes_in-append (g c) (flat_map g cs))
      ∙ (flat_map-append (items_by Own) (nodes_in (g c)) (nodes_in (flat_map g cs))
      ∙ (ap₂ (λ (a b : List TreeItem). a ++ b) (each c) (children_items g each cs) ∙ sym (items_in-append (g c) (flat_map g cs))))

  opened_items : (d : List BtrRule) (vs : List TreeEvent) → leaves (nodes_in vs) ≡ items_in_events vs → leaves (nodes_in (unless_damaged d vs)) ≡ items_in_events (unless_damaged d vs)
  opened_items [] vs same = same
  opened_items (rule ∷ rules) vs same = refl

  leaf_given : (d : List BtrRule) (address : ℕ) (items : List Item) → unless_damaged d (map (in_leaf address) items) ++ [] ≡ items_in_events (unless_damaged d (leaf_events address items))
  leaf_given [] address items = append-nil (map (in_leaf address) items) ∙ sym (leaf_met address items)
  leaf_given (rule ∷ rules) address items = refl

  same_items : (level address generation : ℕ) → leaves (nodes_in (events level address generation)) ≡ items_in_events (events level address generation)
  unfolding node_events
  same_items zero address generation =
      let p : NodePointer = to address zero generation in
      let items : List Item = items_in (node_at image ranges tree.form.nodesize address) in
      ap (λ (ps : List NodePointer). items_by Own p ++ leaves ps) (met_leaf (damages p) address items) ∙ leaf_given (damages p) address items
  same_items (suc level) address generation =
      let p : NodePointer = to address (suc level) generation in
      let children : List Child = children_in (node_at image ranges tree.form.nodesize address) in
      let below : Child → List TreeEvent = λ c. events level c.address c.generation in
      opened_items (damages p) (flat_map below children) (children_items below (λ c. same_items level c.address c.generation) children)

  -- ---- the tree

  abbrev met_nodes : List NodePointer
  met_nodes = nodes_in (events tree.root.level tree.root.address tree.root.generation)

  all_nodes : owners_of tree.owner ≡ Own → walked_nodes image ranges tree ≡ met_nodes
  all_nodes own = ap (λ (o : Owners). map pointer_of (tree_nodes image ranges tree o)) own ∙ same_nodes tree.root.level None tree.root.address tree.root.generation

  pub found_walked : owners_of tree.owner ≡ Own → found image ranges tree ≡ walked_items image ranges tree
  found_walked own =
      sym (same_items tree.root.level tree.root.address tree.root.generation)
      ∙ (ap leaves (sym (all_nodes own)) ∙ ap (λ (o : Owners). flat_map (items_by o) (walked_nodes image ranges tree)) (sym own))

  pub wrong_walked : owners_of tree.owner ≡ Own → wrong image ranges tree ≡ walk_refusals image ranges tree
  wrong_walked own =
      ap₂ (λ (a b : List BtrRefusal). a ++ b)
      (ap (flat_map (refusals_at image ranges tree Own)) (sym (all_nodes own)) ∙ ap (λ (o : Owners). flat_map (refusals_at image ranges tree o) (walked_nodes image ranges tree)) (sym own))
      (ap (order_damages None) (found_walked own))
