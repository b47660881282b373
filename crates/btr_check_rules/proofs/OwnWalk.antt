-- Where nothing is wrong with a tree as a tree of nodes of its own, a walk that takes nodes of other subvolumes meets the same.
use Rattle.btr_check_rules.proofs.Imports.{◌≡◌, ◌≢◌, ℕ, zero, suc, ◌==◌, ◌&&◌, ◌||◌, nat_lt, ◌++◌, Bool, true, false, List, [], ◌∷◌, length, map, None, Option, Some, if◌then◌else◌, refl, sym, ◌∙◌, ap, ap₂, subst, arith, All, append_assoc, append-nil, map-append, flat_map, All-nil, All-cons, All-head, All-tail, IsPermutation, and_parts, and_from, eqb-true, flat_map-append, Image, Child, Key, NodePointer, if_inner, if_leaf, node_items, owners_of, walk_refusals, walked_items, walked_nodes, IsPermutation-append, IsPermutation-append_comm, IsPermutation-append_left, IsPermutation-append_right, IsPermutation-cons, IsPermutation-refl, IsPermutation-trans, has_head, head_in, nritems, Item, has_leaf_head, has_leaf_layout, has_leaf_order, keys_of}
use Rattle.btr_reader.specs.refusals.declared.refusal.BtrRefusal.{BtrRefusal}
use Rattle.btr_reader.specs.refusals.declared.rule.BtrRule.{BtrRule}
use Rattle.btr_reader.specs.btr_reader_walk.Events.{TreeEvent, TreeItem, node, item, in_leaf, leaf_events, items_in_events, may_be_bare, nodes_in, unless_damaged, walk_events}
use Rattle.btr_reader.specs.btr_reader_walk.Tree.{at_address, bare_item, order_damages, pointer_damages, tree_refusals}
use Rattle.btr_reader.specs.btr_reader_walk.declared.map.MapRange.{MapRange}
use Rattle.btr_reader.specs.btr_reader_walk.declared.tree.Form.{Form}
use Rattle.btr_reader.specs.btr_reader_walk.declared.tree.NodeEntry.{NodeEntry}
use Rattle.btr_reader.specs.btr_reader_walk.declared.tree.Tree.{Tree}
use Rattle.btr_reader.specs.btr_reader_walk.declared.tree.Owners.{Owners}
use Rattle.btr_reader.specs.btr_node.declared.expect.Expect.{Expect}
use Rattle.btr_reader.specs.btr_reader_walk.Nodes.{damages_at, entry_at, owner_asked, refusals_at, is_file_tree}
use Rattle.btr_reader.specs.btr_node.Inner.{has_inner_head, has_inner_layout, has_inner_order}
use Rattle.btr_reader.specs.btr_node.Order.{Ascends, is_before}
use Rattle.btr_reader.specs.btr_node.Rules.{broken, damages_of}
use Rattle.btr_reader.specs.btr_node.Sum.{has_sum}
use Rattle.btr_reader.specs.btr_reader_walk.Node.{content_damages, want}
use Rattle.btr_reader.specs.btr_reader_walk.declared.tree.Owners.TheVariants.{Own, Files}
use Rattle.btr_reader.specs.refusals.declared.refusal.BtrRefusal.TheVariants.{BadBtrfs}
use Rattle.btr_reader.specs.refusals.declared.rule.BtrRule.TheVariants.{KeyOrder, NodeCsum, NodeHead, Unmapped}
use Rattle.btr_reader_walk.proofs.Events.{items_in-append, leaf_nodes, nodes_in-append}
unfoldable use Rattle.btr_reader.specs.btr_node.Inner.{children_in}
unfoldable use Rattle.btr_reader.specs.btr_node.Leaf.{items_in}
unfoldable use Rattle.btr_reader.specs.btr_node.Rules.{inner_damages, leaf_damages}
unfoldable use Rattle.btr_reader.specs.btr_reader_walk.Events.{node_events}
unfoldable use Rattle.btr_reader.specs.btr_reader_walk.Map.{is_mapped, node_at}
unfoldable use Rattle.btr_reader.specs.btr_reader_walk.Node.{node_damages}
unfoldable use Rattle.btr_reader.specs.btr_reader_walk.Nodes.{nodes_under}

-- ---- lists that are empty

some_none : {A : Type 0} (x : A) (xs : List A) → x ∷ xs ≡ [] → ⊥
some_none x xs none = let long = ap length none in omega (arith, long)

none_first : {A : Type 0} (xs ys : List A) → xs ++ ys ≡ [] → xs ≡ []
none_first [] ys none = refl
none_first (x ∷ xs) ys none = absurd (some_none x (xs ++ ys) none)

none_second : {A : Type 0} (xs ys : List A) → xs ++ ys ≡ [] → ys ≡ []
none_second [] ys none = none
none_second (x ∷ xs) ys none = absurd (some_none x (xs ++ ys) none)

no_rules : (address : ℕ) (rules : List BtrRule) → at_address address rules ≡ [] → rules ≡ []
no_rules address [] none = refl
no_rules address (rule ∷ rules) none = absurd (some_none (BadBtrfs address rule) (at_address address rules) none)

-- ---- what the head of a node tells where no rule is broken

pub record TellsOwn (number : ℕ) (p : NodePointer) (bytes : List ℕ) : Type 0 where
  pub owner : (head_in bytes).owner ≡ number
  pub level : (head_in bytes).level ≡ p.level

head_right : (s h l o : Bool) → damages_of s h l o ≡ [] → h ≡ true
head_right s true l o none = refl
head_right true false l o none = absurd (some_none NodeHead _ none)
head_right false false l o none = absurd (some_none NodeCsum _ none)

by_head : (form : Form) (number : ℕ) (p : NodePointer) (bytes : List ℕ) → has_head (want form number p) bytes ≡ true → TellsOwn number p bytes
by_head form number p bytes right =
    let one = and_parts _ _ right in
    let two = and_parts _ _ one.1 in
    let three = and_parts _ _ two.1 in
    let four = and_parts _ _ three.1 in
    record { owner = eqb-true (head_in bytes).owner number three.0; level = eqb-true (head_in bytes).level p.level four.0 }

by_content : (form : Form) (number : ℕ) (bare : Bool) (p : NodePointer) (bytes : List ℕ) (leaf : Bool) → (p.level == 0) ≡ leaf
    → (if leaf then leaf_damages (want form number p) bytes ++ broken (bare || nat_lt 0 (nritems bytes)) NodeHead else inner_damages (want form number p) bytes) ≡ [] → TellsOwn number p bytes
unfolding leaf_damages inner_damages
by_content form number bare p bytes true is none =
    let w : Expect = want form number p in
    let damages = none_first (damages_of (has_sum w.sums bytes) (has_leaf_head w bytes) (has_leaf_layout bytes) (has_leaf_order bytes)) _ none in
    let right = head_right (has_sum w.sums bytes) (has_leaf_head w bytes) (has_leaf_layout bytes) (has_leaf_order bytes) damages in
    by_head form number p bytes (and_parts _ _ right).1
by_content form number bare p bytes false is none =
    let w : Expect = want form number p in
    let right = head_right (has_sum w.sums bytes) (has_inner_head w bytes) (has_inner_layout bytes) (has_inner_order bytes) none in
    by_head form number p bytes (and_parts _ _ (and_parts _ _ right).1).1

own_head : (image : Image) (ranges : List MapRange) (form : Form) (number : ℕ) (bare : Bool) (p : NodePointer) → node_damages image ranges form number bare p ≡ []
    → TellsOwn number p (node_at image ranges form.nodesize p.address)
unfolding node_damages
own_head image ranges form number bare p = by (is_mapped ranges form.nodesize p.address)
  where
    by : (mapped : Bool) → (if mapped then content_damages (want form number p) bare (node_at image ranges form.nodesize p.address) else Unmapped ∷ []) ≡ [] → TellsOwn number p (node_at image ranges form.nodesize p.address)
    by true none = by_content form number bare p (node_at image ranges form.nodesize p.address) (p.level == 0) refl none
    by false none = absurd (some_none Unmapped [] none)

-- a node that tells its own tree is right in that
asked : (owners : Owners) (number : ℕ) → owner_asked owners number number ≡ number
asked Own number = refl
asked Files number = by (is_file_tree number)
  where
    by : (b : Bool) → (if b then number else number) ≡ number
    by true = refl
    by false = refl

-- ---- the order of keys

in_order : (b : Bool) → (if b then [] else KeyOrder ∷ []) ≡ [] → b ≡ true
in_order true none = refl
in_order false none = absurd (some_none KeyOrder [] none)

behind_last : (last : Key) (items : List TreeItem) → order_damages (Some last) items ≡ [] → Ascends (last ∷ keys_of (map bare_item items))
behind_last last [] none = refl
behind_last last (i ∷ items) none =
    let here = no_rules i.leaf _ (none_first _ (order_damages (Some i.key) items) none) in
    and_from _ _ (in_order (is_before last i.key) here) (behind_last i.key items (none_second _ (order_damages (Some i.key) items) none))

in_order_all : (items : List TreeItem) → order_damages None items ≡ [] → Ascends (keys_of (map bare_item items))
in_order_all [] none = refl
in_order_all (i ∷ items) none = behind_last i.key items none

-- ---- the walk

-- the pointer with these three
abbrev to : ℕ → ℕ → ℕ → NodePointer
to address level generation = record { address = address; level = level; generation = generation }

met_leaf : (d : List BtrRule) (address : ℕ) (items : List Item) → nodes_in (unless_damaged d (leaf_events address items)) ≡ []
met_leaf [] address items = leaf_nodes address items
met_leaf (rule ∷ rules) address items = refl

leaf_met : (address : ℕ) (items : List Item) → items_in_events (leaf_events address items) ≡ map (in_leaf address) items
leaf_met address [] = refl
leaf_met address (i ∷ items) = ap (λ (l : List TreeItem). in_leaf address i ∷ l) (leaf_met address items)

bare_again : (address : ℕ) (items : List Item) → map bare_item (map (in_leaf address) items) ≡ items
bare_again address [] = refl
bare_again address (i ∷ items) = ap (λ (l : List Item). i ∷ l) (bare_again address items)

module _ (image : Image) (ranges : List MapRange) (tree : Tree) where
  -- a node breaks no rule
  abbrev pub IsRight : NodePointer → Type 0
  IsRight p = node_damages image ranges tree.form tree.owner (may_be_bare tree.root) p ≡ []

  abbrev bytes_of : NodePointer → List ℕ
  bytes_of p = node_at image ranges tree.form.nodesize p.address

  pub told : (p : NodePointer) → IsRight p → TellsOwn tree.owner p (bytes_of p)
  told p right = own_head image ranges tree.form tree.owner (may_be_bare tree.root) p right

  right_too : (p : NodePointer) → IsRight p → damages_at image ranges tree (owners_of tree.owner) p ≡ []
  right_too p right =
      ap (λ (n : ℕ). node_damages image ranges tree.form (owner_asked (owners_of tree.owner) tree.owner n) (may_be_bare tree.root) p) (told p right).owner
      ∙ (ap (λ (n : ℕ). node_damages image ranges tree.form n (may_be_bare tree.root) p) (asked (owners_of tree.owner) tree.owner) ∙ right)

  abbrev faults : List NodePointer → List BtrRefusal
  faults ps = flat_map (pointer_damages image ranges tree.form tree.owner (may_be_bare tree.root)) ps

  all_right : (ps : List NodePointer) → faults ps ≡ [] → All IsRight ps
  all_right [] none = All-nil IsRight
  all_right (p ∷ ps) none =
      let here = none_first (pointer_damages image ranges tree.form tree.owner (may_be_bare tree.root) p) (faults ps) none in
      let rest = none_second (pointer_damages image ranges tree.form tree.owner (may_be_bare tree.root) p) (faults ps) none in
      All-cons IsRight p ps (no_rules p.address (node_damages image ranges tree.form tree.owner (may_be_bare tree.root) p) here) (all_right ps rest)

  none_refused : (ps : List NodePointer) → All IsRight ps → flat_map (refusals_at image ranges tree (owners_of tree.owner)) ps ≡ []
  none_refused [] all = refl
  none_refused (p ∷ ps) all =
      ap (λ (d : List BtrRule). at_address p.address d ++ flat_map (refusals_at image ranges tree (owners_of tree.owner)) ps) (right_too p (All-head IsRight p ps all))
      ∙ none_refused ps (All-tail IsRight p ps all)

  abbrev events : ℕ → ℕ → ℕ → List TreeEvent
  events level address generation = node_events image ranges tree.form tree.owner (may_be_bare tree.root) level address generation

  -- ---- its nodes

  abbrev pointer_of : NodeEntry → NodePointer
  pointer_of e = e.pointer

  first_right : (xs ys : List TreeEvent) → All IsRight (nodes_in (xs ++ ys)) → All IsRight (nodes_in xs) × All IsRight (nodes_in ys)
  first_right xs ys all = parts (nodes_in xs) (nodes_in ys) (subst (All IsRight) (nodes_in-append xs ys) all)
    where
      parts : (ps qs : List NodePointer) → All IsRight (ps ++ qs) → All IsRight ps × All IsRight qs
      parts [] qs right = (All-nil IsRight, right)
      parts (p ∷ ps) qs right = let rest = parts ps qs (All-tail IsRight p (ps ++ qs) right) in (All-cons IsRight p ps (All-head IsRight p (ps ++ qs) right) rest.0, rest.1)

  children_met : (f : Child → List NodeEntry) (g : Child → List TreeEvent) → ((c : Child) → All IsRight (nodes_in (g c)) → map pointer_of (f c) ≡ nodes_in (g c)) → (cs : List Child)
      → All IsRight (nodes_in (flat_map g cs)) → map pointer_of (flat_map f cs) ≡ nodes_in (flat_map g cs)
  children_met f g each [] all = refl
  children_met f g each (c ∷ cs) all =
      let parts = first_right (g c) (flat_map g cs) all in
      map-append pointer_of (f c) (flat_map f cs)
      ∙ (ap₂ (λ (a b : List NodePointer). a ++ b) (each c parts.0) (children_met f g each cs parts.1) ∙ sym (nodes_in-append (g c) (flat_map g cs)))

  met_below : (d : List BtrRule) (es : List TreeEvent) → d ≡ [] → unless_damaged d es ≡ es
  met_below d es none = ap (λ (rules : List BtrRule). unless_damaged rules es) none

  same_nodes : (level : ℕ) (key : Option Key) (address generation : ℕ) → All IsRight (nodes_in (events level address generation))
      → map pointer_of (nodes_under image ranges tree (owners_of tree.owner) level key address generation) ≡ nodes_in (events level address generation)
  unfolding nodes_under node_events
  same_nodes zero key address generation all =
      ap (λ (z : List NodePointer). to address zero generation ∷ z)
      (sym (met_leaf (node_damages image ranges tree.form tree.owner (may_be_bare tree.root) (to address zero generation)) address (items_in (node_at image ranges tree.form.nodesize address))))
  same_nodes (suc level) key address generation all =
      let p : NodePointer = to address (suc level) generation in
      let children : List Child = children_in (node_at image ranges tree.form.nodesize address) in
      let entries : Child → List NodeEntry = λ c. nodes_under image ranges tree (owners_of tree.owner) level (Some c.key) c.address c.generation in
      let below : Child → List TreeEvent = λ c. events level c.address c.generation in
      let right : IsRight p = All-head IsRight p _ all in
      let rest : All IsRight (nodes_in (flat_map below children)) =
      subst (λ (es : List TreeEvent). All IsRight (nodes_in es)) (met_below (node_damages image ranges tree.form tree.owner (may_be_bare tree.root) p) (flat_map below children) right) (All-tail IsRight p _ all) in
      ap (λ (d : List BtrRule). p ∷ map pointer_of (unless_damaged d (flat_map entries children))) (right_too p right)
      ∙ (ap (λ (z : List NodePointer). p ∷ z) (children_met entries below (λ c h. same_nodes level (Some c.key) c.address c.generation h) children rest)
      ∙ ap (λ (d : List BtrRule). p ∷ nodes_in (unless_damaged d (flat_map below children))) (sym right))

  -- ---- its items

  abbrev leaves : List NodePointer → List TreeItem
  leaves ps = flat_map (node_items image ranges tree) ps

  children_items : (g : Child → List TreeEvent) → ((c : Child) → All IsRight (nodes_in (g c)) → leaves (nodes_in (g c)) ≡ items_in_events (g c)) → (cs : List Child)
      → All IsRight (nodes_in (flat_map g cs)) → leaves (nodes_in (flat_map g cs)) ≡ items_in_events (flat_map g cs)
  children_items g each [] all = refl
  children_items g each (c ∷ cs) all =
      let parts = first_right (g c) (flat_map g cs) all in
      ap leaves (nodes_in-append (g c) (flat_map g cs))
      ∙ (flat_map-append (node_items image ranges tree) (nodes_in (g c)) (nodes_in (flat_map g cs))
      ∙ (ap₂ (λ (a b : List TreeItem). a ++ b) (each c parts.0) (children_items g each cs parts.1) ∙ sym (items_in-append (g c) (flat_map g cs))))

  same_items : (level address generation : ℕ) → All IsRight (nodes_in (events level address generation)) → leaves (nodes_in (events level address generation)) ≡ items_in_events (events level address generation)
  unfolding node_events
  same_items zero address generation all =
      let p : NodePointer = to address zero generation in
      let items : List Item = items_in (node_at image ranges tree.form.nodesize address) in
      let right : IsRight p = All-head IsRight p _ all in
      ap (λ (ps : List NodePointer). node_items image ranges tree p ++ leaves ps) (met_leaf (node_damages image ranges tree.form tree.owner (may_be_bare tree.root) p) address items)
      ∙ (ap (λ (d : List BtrRule). unless_damaged d (map (in_leaf address) items) ++ []) (right_too p right)
      ∙ (append-nil (map (in_leaf address) items)
      ∙ (sym (leaf_met address items) ∙ ap (λ (d : List BtrRule). items_in_events (unless_damaged d (leaf_events address items))) (sym right))))
  same_items (suc level) address generation all =
      let p : NodePointer = to address (suc level) generation in
      let children : List Child = children_in (node_at image ranges tree.form.nodesize address) in
      let below : Child → List TreeEvent = λ c. events level c.address c.generation in
      let right : IsRight p = All-head IsRight p _ all in
      let rest : All IsRight (nodes_in (flat_map below children)) =
      subst (λ (es : List TreeEvent). All IsRight (nodes_in es)) (met_below (node_damages image ranges tree.form tree.owner (may_be_bare tree.root) p) (flat_map below children) right) (All-tail IsRight p _ all) in
      ap (λ (d : List BtrRule). leaves (nodes_in (unless_damaged d (flat_map below children)))) right
      ∙ (children_items below (λ c h. same_items level c.address c.generation h) children rest
      ∙ ap (λ (d : List BtrRule). items_in_events (unless_damaged d (flat_map below children))) (sym right))

  -- ---- its pointers

  -- where the children of a node lie
  abbrev pub lower : NodePointer → List ℕ
  lower p = if_inner p.level (map (λ c. c.address) (children_in (bytes_of p)))

  abbrev address_of : NodePointer → ℕ
  address_of p = p.address

  -- a node and all below it
  abbrev AreLed : ℕ → List NodePointer → Type 0
  AreLed address ps = IsPermutation (map address_of ps) (address ∷ flat_map lower ps)

  children_led : (g : Child → List TreeEvent) → ((c : Child) → All IsRight (nodes_in (g c)) → AreLed c.address (nodes_in (g c))) → (cs : List Child)
      → All IsRight (nodes_in (flat_map g cs)) → IsPermutation (map address_of (nodes_in (flat_map g cs))) (map (λ c. c.address) cs ++ flat_map lower (nodes_in (flat_map g cs)))
  children_led g each [] all = IsPermutation-refl []
  children_led g each (c ∷ cs) all =
      let parts = first_right (g c) (flat_map g cs) all in
      let here : List NodePointer = nodes_in (g c) in
      let rest : List NodePointer = nodes_in (flat_map g cs) in
      let others : List ℕ = map (λ (d : Child). d.address) cs in
      let both : IsPermutation (map address_of here ++ map address_of rest) ((c.address ∷ flat_map lower here) ++ (others ++ flat_map lower rest)) =
      IsPermutation-append (map address_of here) (c.address ∷ flat_map lower here) (map address_of rest) (others ++ flat_map lower rest) (each c parts.0) (children_led g each cs parts.1) in
      let turned : IsPermutation (flat_map lower here ++ (others ++ flat_map lower rest)) (others ++ (flat_map lower here ++ flat_map lower rest)) = exchange (flat_map lower here) others (flat_map lower rest) in
      let whole : IsPermutation (map address_of here ++ map address_of rest) (c.address ∷ (others ++ (flat_map lower here ++ flat_map lower rest))) =
      IsPermutation-trans (map address_of here ++ map address_of rest) (c.address ∷ (flat_map lower here ++ (others ++ flat_map lower rest))) (c.address ∷ (others ++ (flat_map lower here ++ flat_map lower rest))) both
      (IsPermutation-cons c.address (flat_map lower here ++ (others ++ flat_map lower rest)) (others ++ (flat_map lower here ++ flat_map lower rest)) turned) in
      subst (λ (ps : List NodePointer). IsPermutation (map address_of ps) (c.address ∷ (others ++ flat_map lower ps))) (sym (nodes_in-append (g c) (flat_map g cs)))
      (subst (λ (l : List ℕ). IsPermutation l (c.address ∷ (others ++ flat_map lower (here ++ rest)))) (sym (map-append address_of here rest))
      (subst (λ (l : List ℕ). IsPermutation (map address_of here ++ map address_of rest) (c.address ∷ (others ++ l))) (sym (flat_map-append lower here rest)) whole))
    where
      exchange : (xs ys zs : List ℕ) → IsPermutation (xs ++ (ys ++ zs)) (ys ++ (xs ++ zs))
      exchange xs ys zs =
          subst (λ (l : List ℕ). IsPermutation l (ys ++ (xs ++ zs))) (append_assoc xs ys zs)
          (subst (λ (l : List ℕ). IsPermutation ((xs ++ ys) ++ zs) l) (append_assoc ys xs zs) (IsPermutation-append_left zs (xs ++ ys) (ys ++ xs) (IsPermutation-append_comm xs ys)))

  all_led : (level address generation : ℕ) → All IsRight (nodes_in (events level address generation)) → AreLed address (nodes_in (events level address generation))
  unfolding node_events
  all_led zero address generation all =
      subst (λ (ps : List NodePointer). AreLed address (to address zero generation ∷ ps))
      (sym (met_leaf (node_damages image ranges tree.form tree.owner (may_be_bare tree.root) (to address zero generation)) address (items_in (node_at image ranges tree.form.nodesize address))))
      (IsPermutation-refl (address ∷ []))
  all_led (suc level) address generation all =
      let p : NodePointer = to address (suc level) generation in
      let children : List Child = children_in (node_at image ranges tree.form.nodesize address) in
      let below : Child → List TreeEvent = λ c. events level c.address c.generation in
      let right : IsRight p = All-head IsRight p _ all in
      let rest : All IsRight (nodes_in (flat_map below children)) =
      subst (λ (es : List TreeEvent). All IsRight (nodes_in es)) (met_below (node_damages image ranges tree.form tree.owner (may_be_bare tree.root) p) (flat_map below children) right) (All-tail IsRight p _ all) in
      let led = children_led below (λ c h. all_led level c.address c.generation h) children rest in
      subst (λ (d : List BtrRule). AreLed address (p ∷ nodes_in (unless_damaged d (flat_map below children)))) (sym right)
      (IsPermutation-cons address (map address_of (nodes_in (flat_map below children))) (map (λ c. c.address) children ++ flat_map lower (nodes_in (flat_map below children))) led)

  -- ---- the tree

  abbrev met : List NodePointer
  met = nodes_in (walk_events image ranges tree.form tree.root tree.owner)

  -- the items of the leaves
  abbrev pub leaf_items_of : NodePointer → List Item
  leaf_items_of p = if_leaf p.level (items_in (bytes_of p))

  own_leaves : (ps : List NodePointer) → All IsRight ps → map bare_item (leaves ps) ≡ flat_map leaf_items_of ps
  own_leaves [] all = refl
  own_leaves (p ∷ ps) all =
      map-append bare_item (node_items image ranges tree p) (leaves ps)
      ∙ ap₂ (λ (a b : List Item). a ++ b)
      (ap (λ (d : List BtrRule). map bare_item (if_leaf p.level (unless_damaged d (map (in_leaf p.address) (items_in (bytes_of p)))))) (right_too p (All-head IsRight p ps all)) ∙ at p.level) (own_leaves ps (All-tail IsRight p ps all))
    where
      at : (level : ℕ) → map bare_item (if_leaf level (map (in_leaf p.address) (items_in (bytes_of p)))) ≡ if_leaf level (items_in (bytes_of p))
      at zero = bare_again p.address (items_in (bytes_of p))
      at (suc level) = refl

  -- What is met, and where its nodes stand.
  pub record IsMetAlone : Type 0 where
    pub nodes_are : walked_nodes image ranges tree ≡ nodes_in (walk_events image ranges tree.form tree.root tree.owner)
    pub items_are : walked_items image ranges tree ≡ items_in_events (walk_events image ranges tree.form tree.root tree.owner)
    pub sound : walk_refusals image ranges tree ≡ []
    pub right : All IsRight (nodes_in (walk_events image ranges tree.form tree.root tree.owner))
    pub led : AreLed tree.root.address (nodes_in (walk_events image ranges tree.form tree.root tree.owner))
    pub rises : Ascends (keys_of (map bare_item (items_in_events (walk_events image ranges tree.form tree.root tree.owner))))
    pub leaves_are : map bare_item (items_in_events (walk_events image ranges tree.form tree.root tree.owner)) ≡ flat_map leaf_items_of (nodes_in (walk_events image ranges tree.form tree.root tree.owner))

  pub met_alone : tree_refusals image ranges tree.form tree.root tree.owner ≡ [] → IsMetAlone
  met_alone none =
      let all : All IsRight met = all_right met (none_first (faults met) _ none) in
      let ordered = none_second (faults met) (order_damages None (items_in_events (walk_events image ranges tree.form tree.root tree.owner))) none in
      let nodes : walked_nodes image ranges tree ≡ met = same_nodes tree.root.level None tree.root.address tree.root.generation all in
      let items : leaves met ≡ items_in_events (walk_events image ranges tree.form tree.root tree.owner) = same_items tree.root.level tree.root.address tree.root.generation all in
      let walked : walked_items image ranges tree ≡ items_in_events (walk_events image ranges tree.form tree.root tree.owner) = ap leaves nodes ∙ items in
      record {
        nodes_are = nodes;
        items_are = walked;
        sound =
            ap₂ (λ (a b : List BtrRefusal). a ++ b) (ap (flat_map (refusals_at image ranges tree (owners_of tree.owner))) nodes ∙ none_refused met all) (ap (order_damages None) walked ∙ ordered);
        right = all;
        led = all_led tree.root.level tree.root.address tree.root.generation all;
        rises = in_order_all (items_in_events (walk_events image ranges tree.form tree.root tree.owner)) ordered;
        leaves_are = sym (ap (map bare_item) items) ∙ own_leaves met all;
      }
