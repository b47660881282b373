-- The nodes of a converted volume lie at their slots.
use Rattle.convert_core_laws.proofs.Imports.{◌≡◌, ◌≢◌, ℕ, suc, ◌+◌, List, [], ◌∷◌, length, take, drop, refl, sym, subst, arith, false, ap, ◌∙◌, All, Contains, IsPermutation, All-append, All-contains, All-contains_itself, All-drop, All-map, All-nil, All-take, All-permutation, IsPermutation-sym, CHUNK_TREE, EXTENT_TREE, ROOT_TREE, Image, Ids, Item, chunk_map, Recount, TreeOn, all_trees, Super, pointer_to, GivesItself, IsSameBy, packed_leaves, tree_levels, level_pointers, lengths_of, pointers_to, Root, agree, TreeEvent, nodes_in, walk_events, identity, node_at, MapRange, Form, NodePointer, Making, chunk_slots, new_ids, slots, TreesStand, extents_from, form, root_from, root_tree_items, TreeRoots, IsNewVolume, super_for, all_from_contains, chunk_items, extent_items, TreeNode, TreeStands, pointer_to_root, Options, recount_for, tree_for, tree_number, NewTree, HasLinuxForm, IsWholeTree, is_relocated, head_in}
use Rattle.convert_core.specs.convert_steps.Standing.{items_of}
use Rattle.btr_reader.proofs.btr_node.NodeBack.{node_head}
use Rattle.convert_core.proofs.btr_tree.LinuxForm.{have_form}
use Rattle.convert_core_laws.proofs.reading.Opening.{maps_chunks}
use Rattle.convert_core_laws.proofs.soundness.Recounting.{form_is}
use Rattle.convert_core_laws.proofs.soundness.Trees.{map_is}
use Rattle.convert_core_laws.proofs.reading.Named.{tree_stands}
use Rattle.convert_core_laws.proofs.soundness.Among.{extents_in, tree_in, trees_all}
use Rattle.convert_core_laws.proofs.soundness.Listed.{not_chunks}

-- what holds of the slots holds of the addresses of nodes at them
pub level_all : (Q : ℕ → Type 0) (generation level skip : ℕ) (list sizes : List ℕ) → All Q list → All (λ p. Q p.address) (level_pointers generation level skip list sizes)
level_all Q generation level skip list [] all = All-nil (λ (p : NodePointer). Q p.address)
level_all Q generation level skip list (n ∷ sizes) all =
    All-append (λ (p : NodePointer). Q p.address) (pointers_to generation level skip n list) (level_pointers generation (suc level) (skip + n) list sizes)
    (All-map (λ (p : NodePointer). Q p.address) (pointer_to generation level) (take n (drop skip list)) (All-take Q n (drop skip list) (All-drop Q skip list all)))
    (level_all Q generation (suc level) (skip + n) list sizes all)

-- the nodes that packing items gives, at these slots
abbrev pub packed_at : ℕ → List ℕ → List Item → List NodePointer
packed_at nodesize list items = level_pointers 1 0 0 list (tree_levels nodesize (length (packed_leaves nodesize (lengths_of items))))

-- a walk by a map that gives the slots themselves meets these
pub met : (image : Image) (form : Form) (owner : ℕ) (list : List ℕ) (items : List Item) (root : Root) (ranges : List MapRange) → TreeStands image form owner list items root → All (GivesItself ranges form.nodesize) list
    → IsPermutation (nodes_in (walk_events image ranges form (pointer_to_root root) owner)) (packed_at form.nodesize list items)
met image form owner list items root ranges stands gives =
    let own : List NodePointer = nodes_in (walk_events image identity form (pointer_to_root root) owner) in
    let all : All (λ p. GivesItself ranges form.nodesize p.address) own =
    All-permutation (λ (p : NodePointer). GivesItself ranges form.nodesize p.address) (packed_at form.nodesize list items) own (IsPermutation-sym own (packed_at form.nodesize list items) stands.nodes_are)
    (level_all (GivesItself ranges form.nodesize) 1 0 0 list (tree_levels form.nodesize (length (packed_leaves form.nodesize (lengths_of items)))) gives) in
    let same : IsSameBy image ranges identity form (pointer_to_root root) owner = agree image ranges form (pointer_to_root root) owner all in
    subst (λ (es : List TreeEvent). IsPermutation (nodes_in es) (packed_at form.nodesize list items)) (sym same.events) stands.nodes_are

-- a node has the form that Linux wants, and no balance made it
abbrev pub IsFresh : Image → List MapRange → ℕ → NodePointer → Type 0
IsFresh image ranges nodesize p = HasLinuxForm image ranges nodesize p × (is_relocated (head_in (node_at image ranges nodesize p.address)) ≡ false)

fresh : (image : Image) (ranges : List MapRange) (form : Form) (owner : ℕ) (chunk_tree : List ℕ) (root : NodePointer) → IsWholeTree image ranges form owner chunk_tree root
    → All (IsFresh image ranges form.nodesize) (nodes_in (walk_events image ranges form root owner))
fresh image ranges form owner chunk_tree root whole = λ i d h.
    let is = whole i d h in
    (have_form image ranges form owner chunk_tree root whole i d h, ap is_relocated (ap head_in is.exact.bytes_are ∙ node_head is.exact.draft is.exact.right))

-- and so are the nodes that it meets
pub all_in_form : (image : Image) (form : Form) (owner : ℕ) (list : List ℕ) (items : List Item) (root : Root) (ranges : List MapRange) → TreeStands image form owner list items root → All (GivesItself ranges form.nodesize) list
    → All (IsFresh image ranges form.nodesize) (nodes_in (walk_events image ranges form (pointer_to_root root) owner))
all_in_form image form owner list items root ranges stands gives =
    let own : List NodePointer = nodes_in (walk_events image identity form (pointer_to_root root) owner) in
    let all : All (λ p. GivesItself ranges form.nodesize p.address) own =
    All-permutation (λ (p : NodePointer). GivesItself ranges form.nodesize p.address) (packed_at form.nodesize list items) own (IsPermutation-sym own (packed_at form.nodesize list items) stands.nodes_are)
    (level_all (GivesItself ranges form.nodesize) 1 0 0 list (tree_levels form.nodesize (length (packed_leaves form.nodesize (lengths_of items)))) gives) in
    let same : IsSameBy image ranges identity form (pointer_to_root root) owner = agree image ranges form (pointer_to_root root) owner all in
    fresh image ranges form owner stands.whole.0 (pointer_to_root root) (same.whole items stands.whole.0 stands.items_are stands.whole.1)

module _ (o : Options) (ids : Ids) (now : ℕ) (image other : Image) (m : Making) (r : TreeRoots) (nodes : List TreeNode) (v : IsNewVolume o ids now image other m r nodes) where
  abbrev stand : TreesStand image other other m r nodes
  stand = v.new.stands.trees

  abbrev k : Recount
  k = recount_for image other m r nodes

  abbrev own : List MapRange
  own = chunk_map other (super_for m r nodes)

  -- a tree's nodes are those of its items, at these slots
  abbrev pub AreAt : List ℕ → TreeOn → Type 0
  AreAt list t = IsPermutation t.nodes (packed_at m.options.nodesize list t.items)

  pub at_list : (list : List ℕ) (number : ℕ) (items : List Item) (root : Root) → TreeStands other (form m) number list items root → All (GivesItself own m.options.nodesize) list → AreAt list (tree_for other (super_for m r nodes) number root items)
  at_list list number items root stands gives =
      subst (λ (f : Form). IsPermutation (nodes_in (walk_events other own f (pointer_to_root root) number)) (packed_at m.options.nodesize list items)) (sym (form_is m r nodes))
      (met other (form m) number list items root own stands gives)

  abbrev pub AreInForm : TreeOn → Type 0
  AreInForm t = All (IsFresh other own m.options.nodesize) t.nodes

  in_form_at : (list : List ℕ) (number : ℕ) (items : List Item) (root : Root) → TreeStands other (form m) number list items root → All (GivesItself own m.options.nodesize) list → AreInForm (tree_for other (super_for m r nodes) number root items)
  in_form_at list number items root stands gives =
      subst (λ (f : Form). All (IsFresh other own m.options.nodesize) (nodes_in (walk_events other own f (pointer_to_root root) number))) (sym (form_is m r nodes)) (all_in_form other (form m) number list items root own stands gives)

  chunk_give : All (GivesItself own m.options.nodesize) (chunk_slots m)
  chunk_give =
      all_from_contains (GivesItself own m.options.nodesize) (chunk_slots m)
      (λ a h. subst (λ (rs : List MapRange). GivesItself rs m.options.nodesize a) (sym (map_is o ids now image other m r nodes v)) ((maps_chunks o ids now image other m r nodes v).own.chunk_nodes a h))

  slots_give : All (GivesItself own m.options.nodesize) (slots m)
  slots_give =
      all_from_contains (GivesItself own m.options.nodesize) (slots m)
      (λ a h. subst (λ (rs : List MapRange). GivesItself rs m.options.nodesize a) (sym (map_is o ids now image other m r nodes v)) ((maps_chunks o ids now image other m r nodes v).own.nodes a h))

  pub later_give : (n : ℕ) → All (GivesItself own m.options.nodesize) (drop n (slots m))
  later_give n = All-drop (GivesItself own m.options.nodesize) n (slots m) slots_give

  pub chunk_at : AreAt (chunk_slots m) k.chunk_tree
  chunk_at = at_list (chunk_slots m) CHUNK_TREE (chunk_items (new_ids m) m.volume.sup.blocks m.chunks) r.chunk stand.chunk chunk_give

  pub root_at : AreAt (take r.root.nodes (drop (root_from r) (slots m))) k.root_tree
  root_at = at_list (take r.root.nodes (drop (root_from r) (slots m))) ROOT_TREE (root_tree_items m r) r.root stand.root (All-take (GivesItself own m.options.nodesize) r.root.nodes (drop (root_from r) (slots m)) (later_give (root_from r)))

  pub extents_at : AreAt (drop (extents_from r) (slots m)) (tree_for other (super_for m r nodes) EXTENT_TREE r.extents (extent_items m.chunks m.pieces nodes m.options.nodesize))
  extents_at = at_list (drop (extents_from r) (slots m)) EXTENT_TREE (extent_items m.chunks m.pieces nodes m.options.nodesize) r.extents stand.extents (later_give (extents_from r))

  -- those of each tree of the list lie at the slots from a number on
  pub tree_at : (t : NewTree) → AreAt (drop (tree_stands image other m r nodes other stand t).first (slots m)) (tree_in image other m r nodes t)
  tree_at t =
      let at = tree_stands image other m r nodes other stand t in
      at_list (drop at.first (slots m)) (tree_number t) (items_of image other m t) (r.tree t) at.stands (later_give at.first)

  -- the nodes of all trees have the form that Linux wants
  pub forms : All AreInForm (all_trees k)
  forms =
      trees_all image other m r nodes AreInForm (in_form_at (chunk_slots m) CHUNK_TREE (chunk_items (new_ids m) m.volume.sup.blocks m.chunks) r.chunk stand.chunk chunk_give)
      (in_form_at (take r.root.nodes (drop (root_from r) (slots m))) ROOT_TREE (root_tree_items m r) r.root stand.root (All-take (GivesItself own m.options.nodesize) r.root.nodes (drop (root_from r) (slots m)) (later_give (root_from r))))
      (in_form_at (drop (extents_from r) (slots m)) EXTENT_TREE (extent_items m.chunks m.pieces nodes m.options.nodesize) r.extents stand.extents (later_give (extents_from r)))
      (λ t. let at = tree_stands image other m r nodes other stand t in in_form_at (drop at.first (slots m)) (tree_number t) (items_of image other m t) (r.tree t) at.stands (later_give at.first))

  -- ---- where a node lies

  -- the chunk tree's at its own slots, all others at the others
  pub data LiesAt (number a : ℕ) : Type 0 where
    of_chunks : number ≡ 3 → Contains (chunk_slots m) a → LiesAt number a
    of_others : number ≢ 3 → Contains (slots m) a → LiesAt number a

  abbrev AllLie : TreeOn → Type 0
  AllLie t = (p : NodePointer) → Contains t.nodes p → LiesAt t.number p.address

  lie_at : (t : TreeOn) (list : List ℕ) → AreAt list t → ((a : ℕ) → Contains list a → LiesAt t.number a) → AllLie t
  lie_at t list are each p h =
      let Q : ℕ → Type 0 = LiesAt t.number in
      let there : All (λ q. Q q.address) (packed_at m.options.nodesize list t.items) =
      level_all Q 1 0 0 list (tree_levels m.options.nodesize (length (packed_leaves m.options.nodesize (lengths_of t.items)))) (all_from_contains Q list each) in
      All-contains (λ (q : NodePointer). Q q.address) t.nodes p (All-permutation (λ (q : NodePointer). Q q.address) (packed_at m.options.nodesize list t.items) t.nodes (IsPermutation-sym t.nodes (packed_at m.options.nodesize list t.items) are) there) h

  other_at : (t : TreeOn) (n : ℕ) → t.number ≢ CHUNK_TREE → AreAt (drop n (slots m)) t → AllLie t
  other_at t n apart are = lie_at t (drop n (slots m)) are (λ a h. of_others apart (in_drop n a h))
    where
      in_drop : (n a : ℕ) → Contains (drop n (slots m)) a → Contains (slots m) a
      in_drop n a h = All-contains (Contains (slots m)) (drop n (slots m)) a (All-drop (Contains (slots m)) n (slots m) (All-contains_itself (slots m))) h

  all_lie : All AllLie (all_trees k)
  all_lie =
      trees_all image other m r nodes AllLie (lie_at k.chunk_tree (chunk_slots m) chunk_at (λ a h. of_chunks refl h))
      (lie_at k.root_tree (take r.root.nodes (drop (root_from r) (slots m))) root_at (λ a h. of_others (λ e. omega (arith, e)) (in_take a h)))
      (other_at (extents_in image other m r nodes) (extents_from r) (λ e. omega (arith, e)) extents_at)
      (λ t. other_at (tree_in image other m r nodes t) (tree_stands image other m r nodes other stand t).first (not_chunks t) (tree_at t))
    where
      in_take : (a : ℕ) → Contains (take r.root.nodes (drop (root_from r) (slots m))) a → Contains (slots m) a
      in_take a h =
          All-contains (Contains (slots m)) (take r.root.nodes (drop (root_from r) (slots m))) a
          (All-take (Contains (slots m)) r.root.nodes (drop (root_from r) (slots m)) (All-drop (Contains (slots m)) (root_from r) (slots m) (All-contains_itself (slots m)))) h

  pub node_lies : (t : TreeOn) (p : NodePointer) → Contains (all_trees k) t → Contains t.nodes p → LiesAt t.number p.address
  node_lies t p h k_p = All-contains AllLie (all_trees k) t all_lie h p k_p
