-- Where a walk over the nodes of a tree stands, by what it gave of their items.
use Rattle.btr_check_walk.proofs.Imports.{◌≡◌, ℕ, zero, suc, List, [], ◌∷◌, ◌++◌, map, Option, None, Contains, refl, sym, ◌∙◌, ap, ap₂, subst, append_assoc, inl, ◌⊎◌, flat_map, append-nil, map-append, Contains-append_left, Contains-append_right, none_both, order_damages-append, Image, BtrRefusal, Key, TreeItem, in_leaf, unless_damaged, at_address, order_damages, Opens, Refuses, ahead, last_after, NodeWalker, NodePointer, Tree, if_leaf, node_items, owners_of, walk_refusals, walked_items, BreaksTrees, TellsPart, tree_answer, EndsWalk, InOrder, IsRefused, Answer}
use Rattle.std.proofs.lemmas.List.Concat.{flat_map-append}
use Rattle.btr_check_rules.specs.btr_reader.refusals.declared.answer.BtrAnswer.{BtrAnswer}
use Rattle.btr_check_rules.specs.btr_reader.refusals.declared.answer.BtrAnswer.TheVariants.{Refused, Fault, Memory}
use Rattle.btr_check_rules.specs.btr_reader.refusals.declared.rule.BtrRule.{BtrRule}
use Rattle.btr_check_rules.specs.btr_reader.btr_reader_walk.Nodes.{damages_at, entry_at, nodes_from, refusals_at, tree_nodes}
use Rattle.btr_check_rules.specs.btr_reader.btr_reader_walk.declared.map.MapRange.{MapRange}
use Rattle.btr_check_rules.specs.btr_reader.btr_reader_walk.declared.tree.NodeEntry.{NodeEntry}
use Rattle.btr_check_rules.specs.btr_reader.btr_reader_walk.declared.tree.Owners.{Owners}
use Rattle.btr_check_walk.proofs.Steps.{ends_before}
use Rattle.btr_check_walk.proofs.Told.{tells_weaker}
unfoldable use Rattle.btr_check_rules.specs.btr_reader.btr_node.Leaf.{items_in}
unfoldable use Rattle.btr_check_rules.specs.btr_reader.btr_reader_walk.Map.{node_at}
unfoldable use Rattle.btr_check_rules.specs.btr_reader.btr_reader_walk.Nodes.{nodes_under}

-- a node that could not be opened breaks part 1
pub node_told : (image : Image) (ranges : List MapRange) (e : NodeEntry) (w v : NodeWalker) (answer : BtrAnswer) → Refuses e w v image ranges answer
    → TellsPart (BreaksTrees (refusals_at image ranges w.tree w.owners e.pointer)) (tree_answer answer)
node_told image ranges e w v (Refused r) refuses = (refl, (r, refuses.0, refl))
node_told image ranges e w v Fault refuses = tt
node_told image ranges e w v Memory refuses = absurd refuses

first_at : (image : Image) (ranges : List MapRange) (tree : Tree) (owners : Owners) (l : ℕ) (key : Option Key) (a g : ℕ)
    → (lower : List NodeEntry) × (nodes_under image ranges tree owners l key a g ≡ entry_at l key a g ∷ lower)
unfolding nodes_under
first_at image ranges tree owners zero key a g = (_, refl)
first_at image ranges tree owners (suc l) key a g = (_, refl)

-- a node is the first of those from it on
node_first : (image : Image) (ranges : List MapRange) (tree : Tree) (owners : Owners) (e : NodeEntry) → (lower : List NodeEntry) × (nodes_from image ranges tree owners e ≡ e ∷ lower)
node_first image ranges tree owners e = first_at image ranges tree owners e.pointer.level e.key e.pointer.address e.pointer.generation

-- a walker of this tree, which may have the nodes of its owners
pub record IsOf (tree : Tree) (w : NodeWalker) : Type 0 where
  pub tree_is : w.tree ≡ tree
  pub owners_are : w.owners ≡ owners_of tree.owner

-- what a node that was opened gives, where it breaks no rule
abbrev pub own_items : NodeEntry → NodeWalker → List TreeItem
own_items e u = if_leaf e.pointer.level (map (in_leaf e.pointer.address) (items_in u.bytes.items))

module _ (image : Image) (ranges : List MapRange) (tree : Tree) where
  -- the nodes of the tree, in the order of the walk
  abbrev all_nodes : List NodeEntry
  all_nodes = tree_nodes image ranges tree (owners_of tree.owner)

  -- what is wrong with nodes, and what they give
  abbrev wrong_nodes : List NodeEntry → List BtrRefusal
  wrong_nodes es = flat_map (refusals_at image ranges tree (owners_of tree.owner)) (map (λ e. e.pointer) es)

  abbrev given_nodes : List NodeEntry → List TreeItem
  given_nodes es = flat_map (node_items image ranges tree) (map (λ e. e.pointer) es)

  -- a walker that met nodes that are not ahead any more, with which nothing is wrong, and whose items are these
  pub record Visited (w : NodeWalker) (items : List TreeItem) : Type 0 where
    pub met : List NodeEntry
    pub whole : met ++ ahead image ranges w ≡ all_nodes
    pub sound : wrong_nodes met ≡ []
    pub items_are : given_nodes met ≡ items

  wrong-append : (xs ys : List NodeEntry) → wrong_nodes (xs ++ ys) ≡ wrong_nodes xs ++ wrong_nodes ys
  wrong-append xs ys =
      ap (flat_map (refusals_at image ranges tree (owners_of tree.owner))) (map-append (λ (e : NodeEntry). e.pointer) xs ys)
      ∙ flat_map-append (refusals_at image ranges tree (owners_of tree.owner)) (map (λ (e : NodeEntry). e.pointer) xs) (map (λ (e : NodeEntry). e.pointer) ys)

  given-append : (xs ys : List NodeEntry) → given_nodes (xs ++ ys) ≡ given_nodes xs ++ given_nodes ys
  given-append xs ys =
      ap (flat_map (node_items image ranges tree)) (map-append (λ (e : NodeEntry). e.pointer) xs ys)
      ∙ flat_map-append (node_items image ranges tree) (map (λ (e : NodeEntry). e.pointer) xs) (map (λ (e : NodeEntry). e.pointer) ys)

  -- the walk has not begun
  pub none_visited : (w : NodeWalker) (owners : Owners) → owners ≡ owners_of tree.owner → ahead image ranges w ≡ tree_nodes image ranges tree owners → Visited w []
  none_visited w owners is whole = record { met = []; whole = whole ∙ ap (tree_nodes image ranges tree) is; sound = refl; items_are = refl }

  refusals_none : (p : NodePointer) → damages_at image ranges tree (owners_of tree.owner) p ≡ [] → refusals_at image ranges tree (owners_of tree.owner) p ++ [] ≡ []
  refusals_none p none = ap (λ (d : List BtrRule). at_address p.address d ++ []) none

  items_of : (e : NodeEntry) (u : NodeWalker) → damages_at image ranges tree (owners_of tree.owner) e.pointer ≡ [] → u.bytes.items ≡ node_at image ranges tree.form.nodesize e.pointer.address
      → node_items image ranges tree e.pointer ++ [] ≡ own_items e u
  items_of e u none bytes =
      append-nil (node_items image ranges tree e.pointer)
      ∙ (ap (λ (d : List BtrRule). if_leaf e.pointer.level (unless_damaged d (map (in_leaf e.pointer.address) (items_in (node_at image ranges tree.form.nodesize e.pointer.address))))) none
      ∙ ap (λ (b : List ℕ). if_leaf e.pointer.level (map (in_leaf e.pointer.address) (items_in b))) (sym bytes))

  -- one more node was opened
  pub node_visited : (w v u : NodeWalker) (e : NodeEntry) (items : List TreeItem) → Visited w items → IsOf tree w → IsOf tree v
      → ahead image ranges w ≡ nodes_from image ranges w.tree w.owners e ++ ahead image ranges v → Opens e v u image ranges → Visited u (items ++ own_items e u)
  node_visited w v u e items visited of before takes opens =
      let same : nodes_from image ranges w.tree w.owners e ≡ nodes_from image ranges v.tree v.owners e =
      ap₂ (λ (t : Tree) (o : Owners). nodes_from image ranges t o e) (of.tree_is ∙ sym before.tree_is) (of.owners_are ∙ sym before.owners_are) in
      let next : ahead image ranges w ≡ e ∷ ahead image ranges u = takes ∙ (ap (λ (z : List NodeEntry). z ++ ahead image ranges v) same ∙ opens.below) in
      let none : damages_at image ranges tree (owners_of tree.owner) e.pointer ≡ [] =
      ap₂ (λ (t : Tree) (o : Owners). damages_at image ranges t o e.pointer) (sym before.tree_is) (sym before.owners_are) ∙ opens.sound in
      let bytes : u.bytes.items ≡ node_at image ranges tree.form.nodesize e.pointer.address =
      opens.bytes ∙ ap (λ (t : Tree). node_at image ranges t.form.nodesize e.pointer.address) before.tree_is in
      record {
        met = visited.met ++ e ∷ [];
        whole = append_assoc visited.met (e ∷ []) (ahead image ranges u) ∙ (ap (λ (z : List NodeEntry). visited.met ++ z) (sym next) ∙ visited.whole);
        sound = wrong-append visited.met (e ∷ []) ∙ none_both (wrong_nodes visited.met) _ visited.sound (refusals_none e.pointer none);
        items_are =
            given-append visited.met (e ∷ [])
            ∙ (ap (λ (z : List TreeItem). z ++ given_nodes (e ∷ [])) visited.items_are ∙ ap (λ (z : List TreeItem). items ++ z) (items_of e u none bytes));
      }

  -- a node that breaks a rule is one of the tree
  pub node_ends : (w v : NodeWalker) (e : NodeEntry) (items : List TreeItem) (refuses : List TreeItem → ℕ → ℕ → Type 0) (answer : Answer) → Visited w items → IsOf tree w → IsOf tree v
      → ahead image ranges w ≡ nodes_from image ranges w.tree w.owners e ++ ahead image ranges v
      → TellsPart (BreaksTrees (refusals_at image ranges v.tree v.owners e.pointer)) answer
      → EndsWalk (walk_refusals image ranges tree) refuses (walked_items image ranges tree) answer
  node_ends w v e items refuses answer visited of before takes told =
      let first = node_first image ranges w.tree w.owners e in
      let next : ahead image ranges w ≡ e ∷ (first.0 ++ ahead image ranges v) = takes ∙ ap (λ (z : List NodeEntry). z ++ ahead image ranges v) first.1 in
      let parts : visited.met ++ e ∷ (first.0 ++ ahead image ranges v) ≡ all_nodes = ap (λ (z : List NodeEntry). visited.met ++ z) (sym next) ∙ visited.whole in
      let own : refusals_at image ranges v.tree v.owners e.pointer ≡ refusals_at image ranges tree (owners_of tree.owner) e.pointer =
      ap₂ (λ (t : Tree) (o : Owners). refusals_at image ranges t o e.pointer) before.tree_is before.owners_are in
      let within : (r : BtrRefusal) → Contains (refusals_at image ranges v.tree v.owners e.pointer) r → Contains (walk_refusals image ranges tree) r = λ r has.
      Contains-append_left (wrong_nodes all_nodes) _ r
      (subst (λ (z : List NodeEntry). Contains (wrong_nodes z) r) parts
      (subst (λ (z : List BtrRefusal). Contains z r) (sym (wrong-append visited.met (e ∷ (first.0 ++ ahead image ranges v))))
      (Contains-append_right (wrong_nodes visited.met) _ r
      (Contains-append_left (refusals_at image ranges tree (owners_of tree.owner) e.pointer) _ r (subst (λ (z : List BtrRefusal). Contains z r) own has))))) in
      tells_weaker (BreaksTrees (refusals_at image ranges v.tree v.owners e.pointer))
      (λ part a. BreaksTrees (walk_refusals image ranges tree) part a ⊎ IsRefused refuses (walked_items image ranges tree) part a)
      (λ part a breaks. inl (breaks.0, (breaks.1.0, within breaks.1.0 breaks.1.1, breaks.1.2))) answer told

  -- the items so far are the first ones of the tree
  later_items : (w : NodeWalker) (items : List TreeItem) → (visited : Visited w items) → items ++ given_nodes (ahead image ranges w) ≡ walked_items image ranges tree
  later_items w items visited =
      ap (λ (z : List TreeItem). z ++ given_nodes (ahead image ranges w)) (sym visited.items_are)
      ∙ (sym (given-append visited.met (ahead image ranges w)) ∙ ap given_nodes visited.whole)

  -- what ended the walk in a node ended it in the tree
  pub items_end : (w : NodeWalker) (items : List TreeItem) (refuses : List TreeItem → ℕ → ℕ → Type 0) (answer : Answer) → Visited w items
      → EndsWalk (order_damages None items) refuses items answer → EndsWalk (walk_refusals image ranges tree) refuses (walked_items image ranges tree) answer
  items_end w items refuses answer visited ends =
      let more : List TreeItem = given_nodes (ahead image ranges w) in
      let all : items ++ more ≡ walked_items image ranges tree = later_items w items visited in
      let within : (r : BtrRefusal) → Contains (order_damages None items) r → Contains (walk_refusals image ranges tree) r = λ r has.
      Contains-append_right (wrong_nodes all_nodes) _ r
      (subst (λ (z : List TreeItem). Contains (order_damages None z) r) all
      (subst (λ (z : List BtrRefusal). Contains z r) (sym (order_damages-append None items more)) (Contains-append_left (order_damages None items) (order_damages (last_after None items) more) r has))) in
      subst (λ (z : List TreeItem). EndsWalk (walk_refusals image ranges tree) refuses z answer) all
      (ends_before (order_damages None items) (walk_refusals image ranges tree) refuses items more within answer ends)

  -- there is no node ahead
  pub all_visited : (w : NodeWalker) (items : List TreeItem) → Visited w items → ahead image ranges w ≡ [] → items ≡ walked_items image ranges tree
  all_visited w items visited none =
      sym (append-nil items) ∙ (ap (λ (z : List NodeEntry). items ++ given_nodes z) (sym none) ∙ later_items w items visited)

  pub none_wrong : (w : NodeWalker) (items : List TreeItem) → Visited w items → InOrder items → ahead image ranges w ≡ [] → walk_refusals image ranges tree ≡ []
  none_wrong w items visited order none =
      let all : visited.met ≡ all_nodes = sym (append-nil visited.met) ∙ (ap (λ (z : List NodeEntry). visited.met ++ z) (sym none) ∙ visited.whole) in
      none_both (wrong_nodes all_nodes) _ (ap wrong_nodes (sym all) ∙ visited.sound)
      (ap (order_damages None) (sym (all_visited w items visited none)) ∙ order)
