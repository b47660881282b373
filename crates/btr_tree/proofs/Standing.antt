-- What holds of a builder, one item on.
use Rattle.btr_tree.proofs.Imports.{◌≡◌, ℕ, ◌+◌, ◌<◌, ◌≤◌, false, List, [], ◌∷◌, ◌++◌, length, map, get_or, Bool, Option, Some, None, refl, sym, ◌∙◌, ap, subst, arith, append_assoc, ⊎_elim, All, MatchOption, flat_map, sum_by, cases_lt, append-nil, map-append, length-map, get_or_append_left, get_or_push, length_push, flat_map-append, All-nil, All-cons, All-head, All-tail, get_or_from_slice_get, slice_get_within, ITEM_SIZE, Key, node_bytes, room, Item, IsBtrfsLeaf, items_in, keys_of, IsNodeSize, Form, Ascends, ascends, Child, Expect, second_ascends, Made, with_written, AreSlots, slot, expected_at, with_node, with_item, NodeReadsBack, IsFresh, Building, pushed, first_key, child_of, children_of, leaf_closed, leaf_begun, IsNextSlot, item_size, IsInHand, IsIdle, Standing, leaves_of, capacity, packed, IsExact}
use Rattle.btr_tree.proofs.Groups.{packed-fits, packed-none, one_more_fits, one_more_next, ends_in}

-- the keys of the leaf in hand, with the next
pub hand_order : (b : Building) (key : Key) (body : List ℕ) → Ascends (keys_of (pushed b ++ (key, body) ∷ [])) → Ascends (keys_of b.made.draft.items ++ key ∷ [])
hand_order b key body h =
    let front : List Item = flat_map items_in b.made.nodes in
    let items : List Item = b.made.draft.items in
    let parts : keys_of ((front ++ items) ++ (key, body) ∷ []) ≡ keys_of front ++ (keys_of items ++ key ∷ []) =
    ap keys_of (append_assoc front items ((key, body) ∷ []))
    ∙ (map-append (λ (item : Item). item.0) front (items ++ (key, body) ∷ []) ∙ ap (λ ks. keys_of front ++ ks) (map-append (λ (item : Item). item.0) items ((key, body) ∷ []))) in
    second_ascends (keys_of front) (keys_of items ++ key ∷ []) (sym (ap ascends parts) ∙ h)

pub all_push : {X : Type 0} (P : X → Type 0) (xs : List X) (x : X) → All P xs → P x → All P (xs ++ x ∷ [])
all_push P [] x all here = All-cons P x [] here (All-nil P)
all_push P (y ∷ xs) x all here = All-cons P y (xs ++ x ∷ []) (All-head P y xs all) (all_push P xs x (All-tail P y xs all) here)

children_of-push : (generation : ℕ) (slots : List ℕ) (lists : List (List Item)) (items : List Item) → length lists < length slots
    → children_of generation slots (lists ++ items ∷ []) ≡ children_of generation slots lists ++ child_of generation (slot slots (length lists)) items ∷ []
children_of-push generation [] lists items few = absurd (omega arith)
children_of-push generation (a ∷ slots) [] items few = at_end slots
  where
    at_end : (slots : List ℕ) → child_of generation a items ∷ children_of generation slots [] ≡ child_of generation a items ∷ []
    at_end [] = refl
    at_end (b ∷ slots) = refl
children_of-push generation (a ∷ slots) (first ∷ lists) items few =
    ap (λ cs. child_of generation a first ∷ cs) (children_of-push generation slots lists items (omega arith))

-- the slot that is next
pub next_is : (m : Made) (a : ℕ) → IsNextSlot m a → (slot m.slots (length m.nodes) ≡ a) × (length m.nodes < length m.slots)
next_is m a h = (get_or_from_slice_get m.slots (length m.nodes) a 0 h, slice_get_within m.slots (length m.nodes) a h)

-- a first leaf is begun
pub stands_first : (b : Building) (a : ℕ) (key : Key) (body : List ℕ) → Standing b → IsIdle b → IsNextSlot b.made a
    → Ascends (keys_of (pushed b ++ (key, body) ∷ [])) → length body + 126 ≤ b.made.form.nodesize → Standing (leaf_begun b a key body)
stands_first b a key body so_far idle at order small =
    let next = next_is b.made a at in
    let new : Building = leaf_begun b a key body in
    let here : pushed new ≡ (key, body) ∷ [] = ap (λ ns. flat_map items_in ns ++ (key, body) ∷ []) idle.no_nodes in
    let one : packed item_size (capacity b.made.form.nodesize) ((key, body) ∷ []) ≡ ((key, body) ∷ []) ∷ [] =
    packed-fits item_size (capacity b.made.form.nodesize) [] (key, body) [] (omega arith) ∙ packed-none item_size (capacity b.made.form.nodesize) ((key, body) ∷ []) in
    record {
      nodesize = so_far.nodesize;
      slots = so_far.slots;
      as_many = so_far.as_many;
      few = so_far.few;
      hand = record {
        started = refl;
        want_is = ap (expected_at b.made 0) (sym next.0);
        size = refl;
        no_children = refl;
        chunk_tree_is = refl;
        slot_left = next.1;
        some = omega arith;
        child_is = ap (λ (s : ℕ). let c : Child = record { key = key; address = s; generation = b.made.generation } in c) (sym next.0);
      };
      leaves = so_far.leaves;
      full = so_far.full;
      children = so_far.children;
      packing = ap (packed item_size (capacity b.made.form.nodesize)) here ∙ (one ∙ sym (ap (λ ns. map items_in ns ++ ((key, body) ∷ []) ∷ []) idle.no_nodes));
      order = ap (λ items. ascends (keys_of items)) here;
      exact = so_far.exact;
    }

-- the leaf in hand is made
module _ (b : Building) (child : Child) (so_far : Standing b) (hand : IsInHand b child) (read : NodeReadsBack b.made.draft (node_bytes b.made.draft)) where
  abbrev pub bytes : List ℕ
  bytes = node_bytes b.made.draft

  pub level : b.made.draft.want.level ≡ 0
  level = ap (λ (w : Expect). w.level) hand.want_is

  pub items_are : items_in bytes ≡ b.made.draft.items
  items_are = read.items level

  pub lists_are : map items_in (b.made.nodes ++ bytes ∷ []) ≡ map items_in b.made.nodes ++ b.made.draft.items ∷ []
  lists_are = map-append items_in b.made.nodes (bytes ∷ []) ∙ ap (λ items. map items_in b.made.nodes ++ items ∷ []) items_are

  pub pushed_same : flat_map items_in (b.made.nodes ++ bytes ∷ []) ≡ pushed b
  pushed_same = flat_map-append items_in b.made.nodes (bytes ∷ []) ∙ ap (λ items. flat_map items_in b.made.nodes ++ items) (append-nil (items_in bytes) ∙ items_are)

  pub leaves_more : (i : ℕ) → i < length (b.made.nodes ++ bytes ∷ []) → IsBtrfsLeaf (expected_at b.made 0 (slot b.made.slots i)) (get_or (b.made.nodes ++ bytes ∷ []) i [])
  leaves_more i h =
      ⊎_elim
      (λ (before : i < length b.made.nodes).
      subst (IsBtrfsLeaf (expected_at b.made 0 (slot b.made.slots i))) (sym (get_or_append_left b.made.nodes (bytes ∷ []) [] i before)) (so_far.leaves i before))
      (λ (last : length b.made.nodes ≤ i).
      let at : length b.made.nodes ≡ i = omega (arith, length_push b.made.nodes bytes) in
      subst (IsBtrfsLeaf (expected_at b.made 0 (slot b.made.slots i))) (sym (get_or_push b.made.nodes bytes [] i at))
      (subst (λ (w : Expect). IsBtrfsLeaf w bytes) (hand.want_is ∙ ap (λ (k : ℕ). expected_at b.made 0 (slot b.made.slots k)) at) (read.leaf level)))
      (cases_lt i (length b.made.nodes))

  pub exact_more : (i : ℕ) → i < length (b.made.nodes ++ bytes ∷ [])
      → IsExact b.made.form.nodesize (expected_at b.made 0 (slot b.made.slots i)) b.made.chunk_tree (get_or (b.made.nodes ++ bytes ∷ []) i [])
  exact_more i h =
      let Exact : ℕ → List ℕ → Type 0 = λ k ns. IsExact b.made.form.nodesize (expected_at b.made 0 (slot b.made.slots k)) b.made.chunk_tree ns in
      ⊎_elim (λ (before : i < length b.made.nodes). subst (Exact i) (sym (get_or_append_left b.made.nodes (bytes ∷ []) [] i before)) (so_far.exact i before))
      (λ (last : length b.made.nodes ≤ i).
      let at : length b.made.nodes ≡ i = omega (arith, length_push b.made.nodes bytes) in
      subst (Exact i) (sym (get_or_push b.made.nodes bytes [] i at))
      (record {
        draft = b.made.draft;
        right = read.right;
        nodesize_is = hand.size;
        want_is = hand.want_is ∙ ap (λ (k : ℕ). expected_at b.made 0 (slot b.made.slots k)) at;
        chunk_tree_is = hand.chunk_tree_is;
        bytes_are = refl;
      }))
      (cases_lt i (length b.made.nodes))

  pub children_more : b.children ++ child ∷ [] ≡ children_of b.made.generation b.made.slots (map items_in (b.made.nodes ++ bytes ∷ []))
  children_more =
      let few : length (map items_in b.made.nodes) < length b.made.slots = omega (arith, hand.slot_left, length-map b.made.nodes items_in) in
      let at : slot b.made.slots (length (map items_in b.made.nodes)) ≡ slot b.made.slots (length b.made.nodes) = ap (slot b.made.slots) (length-map b.made.nodes items_in) in
      ap (λ cs. cs ++ child ∷ []) so_far.children
      ∙ (ap (λ (c : Child). children_of b.made.generation b.made.slots (map items_in b.made.nodes) ++ c ∷ []) (hand.child_is ∙ ap (λ (s : ℕ). child_of b.made.generation s b.made.draft.items) (sym at))
      ∙ sym (ap (children_of b.made.generation b.made.slots) lists_are ∙ children_of-push b.made.generation b.made.slots (map items_in b.made.nodes) b.made.draft.items few))

  pub full_more : All (λ items. 1 ≤ length items) (map items_in (b.made.nodes ++ bytes ∷ []))
  full_more = subst (All (λ items. 1 ≤ length items)) (sym lists_are) (all_push (λ items. 1 ≤ length items) (map items_in b.made.nodes) b.made.draft.items so_far.full hand.some)

  -- and the next one is begun
  pub stands_next : (a : ℕ) (key : Key) (body : List ℕ) → IsNextSlot (with_node b.made bytes) a → Ascends (keys_of (pushed b ++ (key, body) ∷ []))
      → room b.made.draft < ITEM_SIZE + length body → Standing (leaf_begun (leaf_closed b child) a key body)
  stands_next a key body at order full =
      let next = next_is (with_node b.made bytes) a at in
      let new : Building = leaf_begun (leaf_closed b child) a key body in
      let here : pushed new ≡ pushed b ++ (key, body) ∷ [] = ap (λ front. front ++ (key, body) ∷ []) pushed_same in
      let over : capacity b.made.form.nodesize < sum_by item_size b.made.draft.items + item_size (key, body) =
      omega (arith, full, ap (λ cs. length cs) hand.no_children, hand.size) in
      let more = one_more_next item_size (capacity b.made.form.nodesize) (pushed b) b.made.draft.items (map items_in b.made.nodes) (key, body) so_far.packing over in
      record {
        nodesize = so_far.nodesize;
        slots = so_far.slots;
        as_many = so_far.as_many;
        few = omega (arith, next.1);
        hand = record {
          started = refl;
          want_is = ap (expected_at b.made 0) (sym next.0);
          size = refl;
          no_children = refl;
          chunk_tree_is = refl;
          slot_left = next.1;
          some = omega arith;
          child_is = ap (λ (s : ℕ). let c : Child = record { key = key; address = s; generation = b.made.generation } in c) (sym next.0);
        };
        leaves = leaves_more;
        full = full_more;
        children = children_more;
        packing = ap (packed item_size (capacity b.made.form.nodesize)) here ∙ (more ∙ ap (λ lists. lists ++ ((key, body) ∷ []) ∷ []) (sym lists_are));
        order = ap (λ items. ascends (keys_of items)) here ∙ order;
        exact = exact_more;
      }

pub leaves_next : (b : Building) (key : Key) (body : List ℕ) → Standing b → b.made.draft.children ≡ [] → b.made.draft.nodesize ≡ b.made.form.nodesize → room b.made.draft < ITEM_SIZE + length body
    → leaves_of b.made.form.nodesize (pushed b ++ (key, body) ∷ []) ≡ length b.made.nodes + 2
leaves_next b key body so_far no_children size full =
    let done : List (List Item) = map items_in b.made.nodes in
    let over : capacity b.made.form.nodesize < sum_by item_size b.made.draft.items + item_size (key, body) = omega (arith, full, ap (λ cs. length cs) no_children, size) in
    ap length (one_more_next item_size (capacity b.made.form.nodesize) (pushed b) b.made.draft.items done (key, body) so_far.packing over)
    ∙ omega (arith, length_push (done ++ b.made.draft.items ∷ []) ((key, body) ∷ []), length_push done b.made.draft.items, length-map b.made.nodes items_in)

pub some_leaf : (n : ℕ) (items : List Item) → 1 ≤ leaves_of n items
some_leaf n items = let found = ends_in item_size (capacity n) [] items in omega (arith, ap length found.2, length_push found.0 found.1)

first_same : (items : List Item) (item : Item) → 1 ≤ length items → first_key items ≡ first_key (items ++ item ∷ [])
first_same [] item some = absurd (omega arith)
first_same (i ∷ items) item some = refl

-- an item goes into the leaf in hand
pub stands_fits : (b : Building) (child : Child) (key : Key) (body : List ℕ) → Standing b → IsInHand b child → b.hand ≡ Some child → Ascends (keys_of (pushed b ++ (key, body) ∷ []))
    → ITEM_SIZE + length body ≤ room b.made.draft → Standing (record b { made = with_item b.made key body })
stands_fits b child key body so_far hand is order fits =
    let items : List Item = b.made.draft.items in
    let new : Building = record b { made = with_item b.made key body } in
    let here : pushed new ≡ pushed b ++ (key, body) ∷ [] = sym (append_assoc (flat_map items_in b.made.nodes) items ((key, body) ∷ [])) in
    let inside : sum_by item_size items + item_size (key, body) ≤ capacity b.made.form.nodesize = omega (arith, fits, ap (λ cs. length cs) hand.no_children, hand.size) in
    let more = one_more_fits item_size (capacity b.made.form.nodesize) (pushed b) items (map items_in b.made.nodes) (key, body) so_far.packing inside in
    record {
      nodesize = so_far.nodesize;
      slots = so_far.slots;
      as_many = so_far.as_many;
      few = so_far.few;
      hand =
          subst (λ h. MatchOption h (IsIdle new) (IsInHand new)) (sym is)
          (record {
            started = hand.started;
            want_is = hand.want_is;
            size = hand.size;
            no_children = hand.no_children;
            chunk_tree_is = hand.chunk_tree_is;
            slot_left = hand.slot_left;
            some = omega (arith, hand.some, length_push items (key, body));
            child_is = hand.child_is ∙ ap (λ (k : Key). let c : Child = record { key = k; address = slot b.made.slots (length b.made.nodes); generation = b.made.generation } in c) (first_same items (key, body) hand.some);
          });
      leaves = so_far.leaves;
      full = so_far.full;
      children = so_far.children;
      packing = ap (packed item_size (capacity b.made.form.nodesize)) here ∙ more;
      order = ap (λ items. ascends (keys_of items)) here ∙ order;
      exact = so_far.exact;
    }

-- nothing was pushed
pub stands_new : (m : Made) (form : Form) (owner generation : ℕ) (chunk_tree slots offsets : List ℕ) → IsNodeSize form.nodesize → AreSlots form.nodesize offsets
    → IsFresh form owner generation chunk_tree slots offsets m → Standing (record { made = m; children = []; hand = None; spent = false; done = false })
stands_new m form owner generation chunk_tree slots offsets size right fresh = record {
  nodesize = subst (λ (f : Form). IsNodeSize f.nodesize) (sym fresh.form_is) size;
  slots = subst (λ (f : Form). AreSlots f.nodesize m.offsets) (sym fresh.form_is) (subst (AreSlots form.nodesize) (sym fresh.offsets_are) right);
  as_many = fresh.as_many;
  few = omega (arith, ap (λ ns. length ns) fresh.no_nodes);
  hand = record { no_nodes = fresh.no_nodes; no_items = fresh.no_items };
  leaves = λ i h. absurd (omega (arith, ap (λ ns. length ns) fresh.no_nodes));
  full = subst (λ ns. All (λ items. 1 ≤ length items) (map items_in ns)) (sym fresh.no_nodes) (All-nil (λ (items : List Item). 1 ≤ length items));
  children = sym (ap (λ ns. children_of m.generation m.slots (map items_in ns)) fresh.no_nodes ∙ none m.slots);
  packing = rw (fresh.no_nodes, fresh.no_items) (packed-none item_size (capacity m.form.nodesize) []);
  order = rw (fresh.no_nodes, fresh.no_items) refl;
  exact = λ i h. absurd (omega (arith, ap (λ ns. length ns) fresh.no_nodes));
}
  where
    none : (slots : List ℕ) → children_of m.generation slots [] ≡ []
    none [] = refl
    none (a ∷ slots) = refl

-- the same with no node in place of those that were written
pub fresh_whole : (m : Made) (form : Form) (owner generation : ℕ) (chunk_tree slots offsets : List ℕ) (front : List (List ℕ)) → front ≡ [] → IsFresh form owner generation chunk_tree slots offsets m
    → IsFresh form owner generation chunk_tree slots offsets (with_written m front)
fresh_whole m form owner generation chunk_tree slots offsets front none fresh = record {
  form_is = fresh.form_is;
  owner_is = fresh.owner_is;
  generation_is = fresh.generation_is;
  chunk_tree_is = fresh.chunk_tree_is;
  slots_are = fresh.slots_are;
  offsets_are = fresh.offsets_are;
  as_many = fresh.as_many;
  none_written = refl;
  no_nodes = ap (λ ns. ns ++ m.nodes) none ∙ fresh.no_nodes;
  idle = fresh.idle;
  no_items = fresh.no_items;
}

-- that a call answered an error, or that the tree is finished, is nothing of it
pub standing_spent : (b : Building) (spent done : Bool) → Standing b → Standing (record b { spent = spent; done = done })
standing_spent b spent done s = record {
  nodesize = s.nodesize;
  slots = s.slots;
  as_many = s.as_many;
  few = s.few;
  hand = by_hand b.hand s.hand;
  leaves = s.leaves;
  full = s.full;
  children = s.children;
  packing = s.packing;
  order = s.order;
  exact = s.exact;
}
  where
    by_hand : (hand : Option Child) → MatchOption hand (IsIdle b) (IsInHand b) → MatchOption hand (IsIdle (record b { spent = spent; done = done })) (IsInHand (record b { spent = spent; done = done }))
    by_hand None idle = record { no_nodes = idle.no_nodes; no_items = idle.no_items }
    by_hand (Some child) hand = record {
      started = hand.started;
      want_is = hand.want_is;
      size = hand.size;
      no_children = hand.no_children;
      chunk_tree_is = hand.chunk_tree_is;
      slot_left = hand.slot_left;
      some = hand.some;
      child_is = hand.child_is;
    }
