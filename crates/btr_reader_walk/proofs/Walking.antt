-- Steps of a walk.
use Rattle.btr_reader_walk.proofs.Imports.{◌≡◌, ℕ, zero, suc, ◌+◌, ◌-◌, ◌≤◌, ◌<◌, Bool, true, false, List, [], ◌∷◌, ◌++◌, length, reverse, take, drop, get_or, Option, Some, None, Contains, if◌then◌else◌, refl, sym, ◌∙◌, ap, subst, arith, append_assoc, flat_map, append-nil, take_all, drop_more, get_or-map, length-map, Contains-append_left, Contains-append_right, Image, BtrAnswer, Refused, Fault, Memory, BtrRefusal, BadBtrfs, BtrRule, KeyOrder, Unmapped, Key, Item, items_in, children_in, Form, NodeEntry, NodePointer, NodeWalker, Tree, MapRange, TreeWalker, is_mapped, node_at, want, content_damages, node_damages, TreeItem, TreeEvent, node, item, in_leaf, leaf_events, unless_damaged, node_events, items_in_events, may_be_bare, at_address, is_above, order_damages, child_entries, child_entry, own_events, met, wrong, found, below, met_faults, hand_events, behind, rest, last_after, Walks, IsAt, IsIn, IsOver, StandsLast, Blames, IsAmong, stacked}
use Rattle.btr_reader_walk.proofs.Events.{items_in-append, node_faults-append, last_after-append, order_damages-append, none_both}
use Rattle.btr_reader_walk.proofs.Stacks.{stack_push, stack_children}

-- the rules that a node of a tree breaks
abbrev pub breaks : Image → List MapRange → Tree → NodePointer → List BtrRule
breaks image ranges tree p = node_damages image ranges tree.form tree.owner (may_be_bare tree.root) p

by_level : (image : Image) (ranges : List MapRange) (tree : Tree) (a l g : ℕ)
    → (lower : List TreeEvent) × (below image ranges tree (record { address = a; level = l; generation = g }) ≡ node (record { address = a; level = l; generation = g }) ∷ lower)
unfolding node_events
by_level image ranges tree a zero g = (_, refl)
by_level image ranges tree a (suc l) g = (_, refl)

-- a node's pointer is the first of what is met at it
pub node_first : (image : Image) (ranges : List MapRange) (tree : Tree) (p : NodePointer) → (lower : List TreeEvent) × (below image ranges tree p ≡ node p ∷ lower)
node_first image ranges tree p = by_level image ranges tree p.address p.level p.generation

-- nothing is left in hand
hand_done : (address next left : ℕ) (bytes : List ℕ) → left ≡ 0 → hand_events address bytes next left ≡ []
hand_done address next left bytes done = ap (λ k. leaf_events address (take k (drop next (items_in bytes)))) done

-- what is met at a node of a tree and below it
abbrev at_entry : Image → List MapRange → Tree → NodeEntry → List TreeEvent
at_entry image ranges tree e = below image ranges tree e.pointer

-- the next node is taken off the stack
pub taken : (w v : TreeWalker) (image : Image) (ranges : List MapRange) (given : List TreeItem) (ps : List NodeEntry) (p : NodeEntry) → Walks w image ranges given
    → w.at.left ≡ 0 → w.nodes.pending.items ≡ ps ++ p ∷ [] → v.tree ≡ w.tree → v.nodes.pending.items ≡ ps → v.last ≡ w.last
    → IsAt p.pointer v image ranges given
taken w v image ranges given ps p k done stack tree left last =
    let next : rest image ranges w ≡ at_entry image ranges w.tree p ++ stacked (at_entry image ranges w.tree) ps =
    ap (λ (z : List TreeEvent). z ++ behind image ranges w) (hand_done w.address w.at.next w.at.left w.nodes.bytes.items done)
    ∙ (ap (stacked (at_entry image ranges w.tree)) stack ∙ stack_push (at_entry image ranges w.tree) ps p) in
    let here : k.done ++ (at_entry image ranges w.tree p ++ stacked (at_entry image ranges w.tree) ps) ≡ met image ranges w.tree = ap (λ (z : List TreeEvent). k.done ++ z) (sym next) ∙ k.whole in
    record {
      done = k.done;
      whole =
          ap (λ (qs : List NodeEntry). k.done ++ (at_entry image ranges v.tree p ++ stacked (at_entry image ranges v.tree) qs)) left
          ∙ subst (λ (t : Tree). k.done ++ (at_entry image ranges t p ++ stacked (at_entry image ranges t) ps) ≡ met image ranges t) (sym tree) here;
      items = k.items;
      last = last ∙ k.last;
      nodes = subst (λ (t : Tree). met_faults image ranges t k.done ≡ []) (sym tree) k.nodes;
      order = k.order;
    }

-- nothing is left where the stack is empty
none_left : (w : TreeWalker) (image : Image) (ranges : List MapRange) → w.at.left ≡ 0 → w.nodes.pending.items ≡ [] → rest image ranges w ≡ []
none_left w image ranges done stack =
    ap (λ (z : List TreeEvent). z ++ behind image ranges w) (hand_done w.address w.at.next w.at.left w.nodes.bytes.items done) ∙ ap (stacked (at_entry image ranges w.tree)) stack

over : (w : TreeWalker) (image : Image) (ranges : List MapRange) (given : List TreeItem) → Walks w image ranges given → rest image ranges w ≡ []
    → IsOver w.tree image ranges given
over w image ranges given k none =
    let all : k.done ≡ met image ranges w.tree = sym (append-nil k.done) ∙ (ap (λ (z : List TreeEvent). k.done ++ z) (sym none) ∙ k.whole) in
    let items : given ≡ found image ranges w.tree = sym k.items ∙ ap items_in_events all in
    record {
      all = items;
      sound =
          none_both (met_faults image ranges w.tree (met image ranges w.tree)) (order_damages None (found image ranges w.tree))
          (ap (met_faults image ranges w.tree) (sym all) ∙ k.nodes)
          (ap (order_damages None) (sym items) ∙ k.order);
    }

-- there is no next node
pub ended : (w v : TreeWalker) (image : Image) (ranges : List MapRange) (given : List TreeItem) → Walks w image ranges given → w.at.left ≡ 0 → w.nodes.pending.items ≡ []
    → v.tree ≡ w.tree → v.last ≡ w.last → v.at.left ≡ 0 → v.nodes.pending.items ≡ []
    → Walks v image ranges given × IsOver w.tree image ranges given
ended w v image ranges given k done stack tree last after empty =
    let none : rest image ranges w ≡ [] = none_left w image ranges done stack in (
      record {
        done = k.done;
        whole = ap (λ (z : List TreeEvent). k.done ++ z) (none_left v image ranges after empty ∙ sym none) ∙ (k.whole ∙ ap (met image ranges) (sym tree));
        items = k.items;
        last = last ∙ k.last;
        nodes = subst (λ (t : Tree). met_faults image ranges t k.done ≡ []) (sym tree) k.nodes;
        order = k.order;
      },
      over w image ranges given k none,
    )

pub rule_at : (address : ℕ) (rules : List BtrRule) (rule : BtrRule) → Contains rules rule → Contains (at_address address rules) (BadBtrfs address rule)
rule_at address rules rule (i, lt, is) =
    (i, omega (arith, lt, length-map rules (BadBtrfs address)), get_or-map (BadBtrfs address) rules i rule (BadBtrfs address rule) lt ∙ ap (BadBtrfs address) is)

-- a rule that a node breaks is among what is wrong
pub node_blamed : (w : TreeWalker) (image : Image) (ranges : List MapRange) (given : List TreeItem) (p : NodePointer) (r : BtrRefusal) → IsAt p w image ranges given
    → Contains (at_address p.address (breaks image ranges w.tree p)) r → Contains (wrong image ranges w.tree) r
node_blamed w image ranges given p r k bad =
    let first = node_first image ranges w.tree p in
    let others : List TreeEvent = first.0 ++ behind image ranges w in
    let all : k.done ++ node p ∷ others ≡ met image ranges w.tree = ap (λ (z : List TreeEvent). k.done ++ (z ++ behind image ranges w)) (sym first.1) ∙ k.whole in
    let faults : List TreeEvent → List BtrRefusal = met_faults image ranges w.tree in
    let here : Contains (faults (k.done ++ node p ∷ others)) r =
    subst (λ (z : List BtrRefusal). Contains z r) (sym (node_faults-append image ranges w.tree.form w.tree.owner (may_be_bare w.tree.root) k.done (node p ∷ others)))
    (Contains-append_right (faults k.done) _ _ (Contains-append_left (at_address p.address (breaks image ranges w.tree p)) (faults others) _ bad)) in
    Contains-append_left _ _ _ (subst (λ (z : List TreeEvent). Contains (faults z) r) all here)

-- where the blocks of a node lie in the map, it breaks what its bytes break
pub mapped_node : (image : Image) (ranges : List MapRange) (form : Form) (owner : ℕ) (bare : Bool) (p : NodePointer) → is_mapped ranges form.nodesize p.address ≡ true
    → content_damages (want form owner p) bare (node_at image ranges form.nodesize p.address) ≡ node_damages image ranges form owner bare p
unfolding node_damages
mapped_node image ranges form owner bare p mapped =
    ap (λ t. if t then content_damages (want form owner p) bare (node_at image ranges form.nodesize p.address) else Unmapped ∷ []) (sym mapped)

pub unmapped_node : (image : Image) (ranges : List MapRange) (form : Form) (owner : ℕ) (bare : Bool) (p : NodePointer) → is_mapped ranges form.nodesize p.address ≡ false
    → Contains (node_damages image ranges form owner bare p) Unmapped
unfolding node_damages
unmapped_node image ranges form owner bare p off =
    subst (λ t. Contains (if t then content_damages (want form owner p) bare (node_at image ranges form.nodesize p.address) else Unmapped ∷ []) Unmapped) (sym off)
    (0, omega arith, refl)

-- the same of a tree
pub mapped_breaks : (image : Image) (ranges : List MapRange) (tree : Tree) (p : NodePointer) (bytes : List ℕ) → is_mapped ranges tree.form.nodesize p.address ≡ true
    → bytes ≡ node_at image ranges tree.form.nodesize p.address
    → content_damages (want tree.form tree.owner p) (may_be_bare tree.root) bytes ≡ breaks image ranges tree p
mapped_breaks image ranges tree p bytes mapped is =
    ap (content_damages (want tree.form tree.owner p) (may_be_bare tree.root)) is ∙ mapped_node image ranges tree.form tree.owner (may_be_bare tree.root) p mapped

pub unmapped_breaks : (image : Image) (ranges : List MapRange) (tree : Tree) (p : NodePointer) → is_mapped ranges tree.form.nodesize p.address ≡ false
    → Contains (breaks image ranges tree p) Unmapped
unmapped_breaks image ranges tree p off = unmapped_node image ranges tree.form tree.owner (may_be_bare tree.root) p off

-- a node that breaks no rule, on top of a stack, and what it gives before and by its children
lower_at : (image : Image) (ranges : List MapRange) (tree : Tree) (a l g : ℕ) (bytes : List ℕ) (es : List NodeEntry)
    → breaks image ranges tree (record { address = a; level = l; generation = g }) ≡ [] → bytes ≡ node_at image ranges tree.form.nodesize a
    → (lower : List TreeEvent)
    × (below image ranges tree (record { address = a; level = l; generation = g }) ≡ node (record { address = a; level = l; generation = g }) ∷ lower)
    × (own_events l a bytes ++ stacked (at_entry image ranges tree) (es ++ reverse (child_entries l bytes)) ≡ lower ++ stacked (at_entry image ranges tree) es)
unfolding node_events
lower_at image ranges tree a zero g bytes es none is =
    let f : NodeEntry → List TreeEvent = at_entry image ranges tree in
    let p : NodePointer = record { address = a; level = 0; generation = g } in
    let own : List ℕ → List TreeEvent = λ b. leaf_events a (items_in b) in (
      own (node_at image ranges tree.form.nodesize a),
      ap (λ (d : List BtrRule). node p ∷ unless_damaged d (own (node_at image ranges tree.form.nodesize a))) none,
      ap (λ (es : List NodeEntry). own bytes ++ stacked f es) (append-nil es) ∙ ap (λ (b : List ℕ). own b ++ stacked f es) is,
    )
lower_at image ranges tree a (suc l) g bytes es none is =
    let f : NodeEntry → List TreeEvent = at_entry image ranges tree in
    let p : NodePointer = record { address = a; level = suc l; generation = g } in
    let lower : List ℕ → List TreeEvent = λ b. flat_map (λ c. f (child_entry l c)) (children_in b) in (
      lower (node_at image ranges tree.form.nodesize a),
      ap (λ (d : List BtrRule). node p ∷ unless_damaged d (lower (node_at image ranges tree.form.nodesize a))) none,
      stack_children f es l (children_in bytes) ∙ ap (λ (b : List ℕ). lower b ++ stacked f es) is,
    )

-- a node that breaks no rule was opened, and what is below it comes next
pub opened : (w v : TreeWalker) (image : Image) (ranges : List MapRange) (given : List TreeItem) (p : NodePointer) → IsAt p w image ranges given
    → v.tree ≡ w.tree → v.last ≡ w.last → breaks image ranges w.tree p ≡ [] → v.nodes.bytes.items ≡ node_at image ranges w.tree.form.nodesize p.address
    → v.nodes.pending.items ≡ w.nodes.pending.items ++ reverse (child_entries p.level v.nodes.bytes.items)
    → IsIn p v image ranges given
opened w v image ranges given p k tree last none is pushed =
    let f : Tree → NodeEntry → List TreeEvent = at_entry image ranges in
    let own : List TreeEvent = own_events p.level p.address v.nodes.bytes.items in
    let (lower, first, next) = lower_at image ranges w.tree p.address p.level p.generation v.nodes.bytes.items w.nodes.pending.items none is in
    let all : (k.done ++ node p ∷ []) ++ (own ++ behind image ranges v) ≡ met image ranges w.tree =
    append_assoc k.done (node p ∷ []) (own ++ behind image ranges v)
    ∙ (ap (λ (t : Tree). k.done ++ node p ∷ (own ++ stacked (f t) v.nodes.pending.items)) tree
    ∙ (ap (λ (es : List NodeEntry). k.done ++ node p ∷ (own ++ stacked (f w.tree) es)) pushed
    ∙ (ap (λ (z : List TreeEvent). k.done ++ node p ∷ z) next
    ∙ (ap (λ (z : List TreeEvent). k.done ++ (z ++ behind image ranges w)) (sym first) ∙ k.whole)))) in
    let nodes : met_faults image ranges w.tree (k.done ++ node p ∷ []) ≡ [] =
    node_faults-append image ranges w.tree.form w.tree.owner (may_be_bare w.tree.root) k.done (node p ∷ [])
    ∙ none_both (met_faults image ranges w.tree k.done) _ k.nodes (ap (λ (d : List BtrRule). at_address p.address d ++ []) none) in
    record {
      done = k.done ++ node p ∷ [];
      whole = all ∙ ap (met image ranges) (sym tree);
      items = items_in-append k.done (node p ∷ []) ∙ (append-nil (items_in_events k.done) ∙ k.items);
      last = last ∙ k.last;
      nodes = subst (λ (t : Tree). met_faults image ranges t (k.done ++ node p ∷ []) ≡ []) (sym tree) nodes;
      order = k.order;
    }

-- the next item in hand, and what is behind it
hand_next : (address next left : ℕ) (bytes : List ℕ) (i : Item) → next < length (items_in bytes) → left ≡ suc (left - 1) → get_or (items_in bytes) next i ≡ i
    → hand_events address bytes next left ≡ item (in_leaf address i) ∷ hand_events address bytes (next + 1) (left - 1)
hand_next address next left bytes i lt some is =
    ap (λ (k : ℕ). leaf_events address (take k (drop next (items_in bytes)))) some
    ∙ ap (λ (z : List Item). leaf_events address (take (suc (left - 1)) z)) (drop_more (items_in bytes) next i lt ∙ ap (λ (x : Item). x ∷ drop (next + 1) (items_in bytes)) is)

-- what is met, in three parts: before the next item, the item, and after it
met_parts : (w : TreeWalker) (image : Image) (ranges : List MapRange) (given : List TreeItem) (i : Item) → (k : Walks w image ranges given)
    → w.at.next < length (items_in w.nodes.bytes.items) → w.at.left ≡ suc (w.at.left - 1) → get_or (items_in w.nodes.bytes.items) w.at.next i ≡ i
    → k.done ++ item (in_leaf w.address i) ∷ (hand_events w.address w.nodes.bytes.items (w.at.next + 1) (w.at.left - 1) ++ behind image ranges w) ≡ met image ranges w.tree
met_parts w image ranges given i k lt some is =
    ap (λ (z : List TreeEvent). k.done ++ (z ++ behind image ranges w)) (sym (hand_next w.address w.at.next w.at.left w.nodes.bytes.items i lt some is)) ∙ k.whole

-- an item whose key is not above the last one is among what is wrong
pub order_blamed : (w : TreeWalker) (image : Image) (ranges : List MapRange) (given : List TreeItem) (i : Item) → Walks w image ranges given
    → w.at.next < length (items_in w.nodes.bytes.items) → w.at.left ≡ suc (w.at.left - 1) → get_or (items_in w.nodes.bytes.items) w.at.next i ≡ i → is_above w.last i.0 ≡ false
    → Contains (wrong image ranges w.tree) (BadBtrfs w.address KeyOrder)
order_blamed w image ranges given i k lt some is low =
    let t : TreeItem = in_leaf w.address i in
    let later : List TreeEvent = hand_events w.address w.nodes.bytes.items (w.at.next + 1) (w.at.left - 1) ++ behind image ranges w in
    let r : BtrRefusal = BadBtrfs w.address KeyOrder in
    let items : found image ranges w.tree ≡ given ++ t ∷ items_in_events later =
    ap items_in_events (sym (met_parts w image ranges given i k lt some is))
    ∙ (items_in-append k.done (item t ∷ later) ∙ ap (λ (z : List TreeItem). z ++ t ∷ items_in_events later) k.items) in
    let above : is_above (last_after None given) t.key ≡ false = ap (λ (l : Option Key). is_above l t.key) (sym k.last) ∙ low in
    let order : Contains (order_damages None (given ++ t ∷ items_in_events later)) r =
    subst (λ (z : List BtrRefusal). Contains z r) (sym (order_damages-append None given (t ∷ items_in_events later)))
    (Contains-append_right (order_damages None given) _ r
    (Contains-append_left _ (order_damages (Some t.key) (items_in_events later)) r
    (subst (λ (b : Bool). Contains (at_address t.leaf (if b then [] else KeyOrder ∷ [])) r) (sym above) (0, omega arith, refl)))) in
    Contains-append_right (met_faults image ranges w.tree (met image ranges w.tree)) _ r (subst (λ (z : List TreeItem). Contains (order_damages None z) r) (sym items) order)

-- the next item was given
pub item_taken : (w v : TreeWalker) (image : Image) (ranges : List MapRange) (given : List TreeItem) (i : Item) → Walks w image ranges given
    → w.at.next < length (items_in w.nodes.bytes.items) → w.at.left ≡ suc (w.at.left - 1) → ((other : Item) → get_or (items_in w.nodes.bytes.items) w.at.next other ≡ i) → is_above w.last i.0 ≡ true
    → v.tree ≡ w.tree → v.nodes ≡ w.nodes → v.address ≡ w.address → v.at.next ≡ w.at.next + 1 → v.at.left ≡ w.at.left - 1 → v.last ≡ Some i.0
    → (t : TreeItem) × Walks v image ranges (given ++ t ∷ []) × StandsLast v t
item_taken w v image ranges given i k lt some is high tree nodes address next left last =
    let t : TreeItem = in_leaf w.address i in
    let parts = met_parts w image ranges given i k lt some (is i) in
    let above : is_above (last_after None given) t.key ≡ true = ap (λ (l : Option Key). is_above l t.key) (sym k.last) ∙ high in
    let sound : met_faults image ranges w.tree (k.done ++ item t ∷ []) ≡ [] =
    node_faults-append image ranges w.tree.form w.tree.owner (may_be_bare w.tree.root) k.done (item t ∷ []) ∙ none_both (met_faults image ranges w.tree k.done) [] k.nodes refl in
    let hand : hand_events v.address v.nodes.bytes.items v.at.next v.at.left ≡ hand_events w.address w.nodes.bytes.items (w.at.next + 1) (w.at.left - 1) = rw (address, nodes, next, left) refl in
    let same : behind image ranges v ≡ behind image ranges w = rw (tree, nodes) refl in
    let moved : rest image ranges v ≡ hand_events w.address w.nodes.bytes.items (w.at.next + 1) (w.at.left - 1) ++ behind image ranges w =
    ap (λ (z : List TreeEvent). z ++ behind image ranges v) hand ∙ ap (λ (z : List TreeEvent). hand_events w.address w.nodes.bytes.items (w.at.next + 1) (w.at.left - 1) ++ z) same in
    let here : w.at.next ≡ v.at.next - 1 = omega (arith, next) in (
      t,
      record {
        done = k.done ++ item t ∷ [];
        whole =
            append_assoc k.done (item t ∷ []) (rest image ranges v)
            ∙ (ap (λ (z : List TreeEvent). k.done ++ item t ∷ z) moved ∙ (parts ∙ ap (met image ranges) (sym tree)));
        items = items_in-append k.done (item t ∷ []) ∙ ap (λ (z : List TreeItem). z ++ t ∷ []) k.items;
        last = last ∙ sym (last_after-append None given (t ∷ []));
        nodes = subst (λ (z : Tree). met_faults image ranges z (k.done ++ item t ∷ []) ≡ []) (sym tree) sound;
        order =
            order_damages-append None given (t ∷ [])
            ∙ none_both (order_damages None given) _ k.order (ap (λ (b : Bool). at_address t.leaf (if b then [] else KeyOrder ∷ []) ++ []) above);
      },
      record {
        leaf = sym address;
        item = λ other. ap (λ (n : ℕ). get_or (items_in v.nodes.bytes.items) n other) (sym here) ∙ (ap (λ (b : List ℕ). get_or (items_in b) w.at.next other) (ap (λ (n : NodeWalker). n.bytes.items) nodes) ∙ is other);
      },
    )

pub blames_among : (refusals : List BtrRefusal) (e : BtrAnswer) → Blames refusals e → IsAmong refusals e
blames_among refusals (Refused r) h = h
blames_among refusals Fault h = tt
blames_among refusals Memory h = tt

-- what was given are the first items of the tree
pub given_first : (w : TreeWalker) (image : Image) (ranges : List MapRange) (given : List TreeItem) → Walks w image ranges given → (later : List TreeItem) × (found image ranges w.tree ≡ given ++ later)
given_first w image ranges given k = (
  items_in_events (rest image ranges w),
  ap items_in_events (sym k.whole) ∙ (items_in-append k.done (rest image ranges w) ∙ ap (λ (z : List TreeItem). z ++ items_in_events (rest image ranges w)) k.items),
)
