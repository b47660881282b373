-- The leaves that were made are subtrees.
use Rattle.btr_tree.proofs.Imports.{◌≡◌, ℕ, suc, ◌+◌, ◌%◌, ◌^◌, ◌<◌, ◌≤◌, ◌||◌, ltb, Bool, true, List, [], ◌∷◌, ◌++◌, length, map, take, get_or, refl, sym, ◌∙◌, ap, subst, arith, ⊎_elim, All, flat_map, sum_by, or_right, lt-ltb, cases_lt, append-nil, take_more, length-map, length_push, map-append, sum_by-cons, All-nil, All-cons, All-head, All-tail, ITEM_SIZE, Image, MapRange, node_bytes, nritems, behind_head, first_keys, Item, IsBtrfsLeaf, item_layout, heads_in, items_in, IsNodeSize, records_in, Child, length-records_in, IsSubtree, AreSubtrees, LeavesGiveItems, SubtreesAreTrees, is_mapped, node_at, want, child_pointer, Form, NodePointer, Made, AreSlots, slot, pointer_to, begun_at, with_node, NodeReadsBack, Building, pushed, first_key, child_of, children_of, IsInHand, IsNextSlot, Standing, item_size, tree_nodes, packed_from, packed, weight, capacity, level_sizes, packed_leaves, tree_levels, IsWhole, HasSubtreeRoots, IsExtended, IsRoot, HasNodes, HasWholeNodes, AreFirst, nodes_below, pointers_to, level_pointers, lengths_of, may_be_bare, nodes_in, pointer_events, IsPermutation, IsPermutation-refl}
use Rattle.btr_tree.proofs.Meeting.{leaf_met}
use Rattle.btr_tree.proofs.Groups.{packed-fits, packed-next, packed-none}
use Rattle.btr_tree.proofs.Raising.{stand_last, stand_mapped}
use Rattle.btr_tree.proofs.Wholes.{leaves_whole}
use Rattle.btr_tree.proofs.Standing.{leaves_more, exact_more, children_more, full_more, lists_are, pushed_same, next_is}

-- a leaf has as many items as it says
count_is : (bytes : List ℕ) → length (items_in bytes) ≡ nritems bytes
unfolding items_in heads_in
count_is bytes = length-map (records_in ITEM_SIZE item_layout (nritems bytes) (behind_head bytes)) _ ∙ length-records_in ITEM_SIZE item_layout (nritems bytes) (behind_head bytes)

leaves_subtrees : (law : LeavesGiveItems) (image : Image) (ranges : List MapRange) (form : Form) (owner generation : ℕ) (bare : Bool) (slots : List ℕ) (nodes : List (List ℕ)) → length nodes ≤ length slots
    → ((i : ℕ) → i < length nodes → is_mapped ranges form.nodesize (slot slots i) ≡ true)
    → ((i : ℕ) → i < length nodes → node_at image ranges form.nodesize (slot slots i) ≡ get_or nodes i [])
    → ((i : ℕ) → i < length nodes → IsBtrfsLeaf (want form owner (pointer_to generation 0 (slot slots i))) (get_or nodes i []))
    → All (λ items. 1 ≤ length items) (map items_in nodes)
    → AreSubtrees image ranges form owner bare (map (child_pointer 0) (children_of generation slots (map items_in nodes))) (map items_in nodes)
leaves_subtrees law image ranges form owner generation bare [] [] few mapped stand leaf full = tt
leaves_subtrees law image ranges form owner generation bare [] (n ∷ nodes) few mapped stand leaf full = absurd (omega arith)
leaves_subtrees law image ranges form owner generation bare (a ∷ slots) [] few mapped stand leaf full = tt
leaves_subtrees law image ranges form owner generation bare (a ∷ slots) (n ∷ nodes) few mapped stand leaf full =
    let p : NodePointer = pointer_to generation 0 a in
    let node : node_at image ranges form.nodesize a ≡ n = stand 0 (omega arith) in
    let here : IsBtrfsLeaf (want form owner p) (node_at image ranges form.nodesize a) = subst (IsBtrfsLeaf (want form owner p)) (sym node) (leaf 0 (omega arith)) in
    let many : 1 ≤ length (items_in n) = All-head (λ items. 1 ≤ length items) (items_in n) (map items_in nodes) full in
    let some : (bare || ltb 0 (nritems (node_at image ranges form.nodesize a))) ≡ true =
    or_right bare (ltb 0 (nritems (node_at image ranges form.nodesize a))) (lt-ltb 0 (nritems (node_at image ranges form.nodesize a)) (omega (arith, count_is n, many, ap nritems node))) in (
      subst (λ is. IsSubtree image ranges form owner bare p is) (ap items_in node) (law image ranges form owner bare p (mapped 0 (omega arith)) here some),
      leaves_subtrees law image ranges form owner generation bare slots nodes (omega arith) (λ i h. mapped (suc i) (omega arith))
          (λ i h. stand (suc i) (omega arith)) (λ i h. leaf (suc i) (omega arith)) (All-tail (λ items. 1 ≤ length items) (items_in n) (map items_in nodes) full),
    )

children_keys : (generation : ℕ) (slots : List ℕ) (lists : List (List Item)) → length lists ≤ length slots → first_keys (children_of generation slots lists) ≡ map first_key lists
children_keys generation [] [] few = refl
children_keys generation [] (l ∷ lists) few = absurd (omega arith)
children_keys generation (a ∷ slots) [] few = refl
children_keys generation (a ∷ slots) (l ∷ lists) few = ap (λ ks. first_key l ∷ ks) (children_keys generation slots lists (omega arith))

pub length-children_of : (generation : ℕ) (slots : List ℕ) (lists : List (List Item)) → length lists ≤ length slots → length (children_of generation slots lists) ≡ length lists
length-children_of generation [] [] few = refl
length-children_of generation [] (l ∷ lists) few = absurd (omega arith)
length-children_of generation (a ∷ slots) [] few = refl
length-children_of generation (a ∷ slots) (l ∷ lists) few = ap suc (length-children_of generation slots lists (omega arith))

children_made : (generation : ℕ) (slots : List ℕ) (lists : List (List Item)) → All (λ c. c.generation ≡ generation) (children_of generation slots lists)
children_made generation [] lists = All-nil (λ (c : Child). c.generation ≡ generation)
children_made generation (a ∷ slots) [] = All-nil (λ (c : Child). c.generation ≡ generation)
children_made generation (a ∷ slots) (l ∷ lists) =
    All-cons (λ c. c.generation ≡ generation) (child_of generation a l) (children_of generation slots lists) refl (children_made generation slots lists)

flat_same : (nodes : List (List ℕ)) → flat_map (λ is. is) (map items_in nodes) ≡ flat_map items_in nodes
flat_same [] = refl
flat_same (n ∷ nodes) = ap (λ is. items_in n ++ is) (flat_same nodes)

first_met : (image : Image) (ranges : List MapRange) (form : Form) (owner generation : ℕ) (bare : Bool) (slots : List ℕ) (lists : List (List Item)) → length lists ≤ length slots
    → flat_map (λ p. nodes_in (pointer_events image ranges form owner bare p)) (map (child_pointer 0) (children_of generation slots lists)) ≡ map (pointer_to generation 0) (take (length lists) slots)
first_met image ranges form owner generation bare [] [] few = refl
first_met image ranges form owner generation bare [] (l ∷ lists) few = absurd (omega arith)
first_met image ranges form owner generation bare (a ∷ slots) [] few = refl
first_met image ranges form owner generation bare (a ∷ slots) (l ∷ lists) few =
    ap (λ ps. ps ++ flat_map (λ p. nodes_in (pointer_events image ranges form owner bare p)) (map (child_pointer 0) (children_of generation slots lists))) (leaf_met image ranges form owner bare generation a)
    ∙ ap (λ ps. pointer_to generation 0 a ∷ ps) (first_met image ranges form owner generation bare slots lists (omega arith))

-- once the last leaf is made
module _ (law : LeavesGiveItems) (b : Building) (child : Child) (so_far : Standing b) (hand : IsInHand b child) (read : NodeReadsBack b.made.draft (node_bytes b.made.draft)) where
  abbrev m : Made
  m = with_node b.made (node_bytes b.made.draft)

  few : length m.nodes ≤ length m.slots
  few = omega (arith, hand.slot_left, length_push b.made.nodes (node_bytes b.made.draft))

  few_lists : length (map items_in m.nodes) ≤ length m.slots
  few_lists = omega (arith, few, length-map m.nodes items_in)

  pub leaf_roots : HasSubtreeRoots m 0 (b.children ++ child ∷ []) (pushed b)
  leaf_roots =
      subst (λ cs. HasSubtreeRoots m 0 cs (pushed b)) (sym (children_more b child so_far hand read))
      (record {
        lists = map items_in m.nodes;
        roots = record {
          keys = children_keys m.generation m.slots (map items_in m.nodes) few_lists;
          full = full_more b child so_far hand read;
          one_generation = children_made m.generation m.slots (map items_in m.nodes);
          subtrees = λ image ranges bare stand.
              leaves_subtrees law image ranges m.form m.owner m.generation bare m.slots m.nodes few stand.mapped stand.nodes_are (leaves_more b child so_far hand read)
              (full_more b child so_far hand read);
          whole = λ image ranges bare stand. leaves_whole image ranges m bare m.slots m.nodes few stand.nodes_are (exact_more b child so_far hand read) (full_more b child so_far hand read);
        };
        items_are = flat_same m.nodes ∙ pushed_same b child so_far hand read;
      })

  pub leaf_count : (length m.nodes ≡ length (b.children ++ child ∷ [])) × (length m.nodes ≤ length m.slots)
  leaf_count =
      (sym (ap length (children_more b child so_far hand read) ∙ (length-children_of m.generation m.slots (map items_in m.nodes) few_lists ∙ length-map m.nodes items_in)), few)

  -- they are met at the first slots
  pub leaves_first : AreFirst m (b.children ++ child ∷ [])
  leaves_first = λ image ranges bare stand.
      let k : ℕ = length (map items_in m.nodes) in
      let is : b.children ++ child ∷ [] ≡ children_of m.generation m.slots (map items_in m.nodes) = children_more b child so_far hand read in
      let many : length (b.children ++ child ∷ []) ≡ k = ap length is ∙ length-children_of m.generation m.slots (map items_in m.nodes) few_lists in
      ap (nodes_below image ranges m bare 0) is
      ∙ (first_met image ranges m.form m.owner m.generation bare m.slots (map items_in m.nodes) few_lists ∙ ap (λ (n : ℕ). pointers_to m.generation 0 0 n m.slots) (sym many))

  -- the leaves are those that packing the items gives
  pub packed_count : length (packed item_size (capacity b.made.form.nodesize) (pushed b)) ≡ length m.nodes
  packed_count = ap length so_far.packing ∙ (sym (ap length (lists_are b child so_far hand read)) ∙ length-map m.nodes items_in)

-- packing goes by the lengths alone
same_sum : (items : List Item) → sum_by weight (lengths_of items) ≡ sum_by item_size items
same_sum [] = refl
same_sum (i ∷ items) = omega (arith, sum_by-cons weight (length i.1) (lengths_of items), sum_by-cons item_size i items, same_sum items)

packed_lengths : (room : ℕ) (begun items : List Item) → length (packed_from item_size room begun items) ≡ length (packed_from weight room (lengths_of begun) (lengths_of items))
packed_lengths room begun [] = ap length (packed-none item_size room begun) ∙ sym (ap length (packed-none weight room (lengths_of begun)))
packed_lengths room begun (i ∷ items) =
    ⊎_elim
    (λ (next : room < sum_by item_size begun + item_size i).
    ap length (packed-next item_size room begun i items next)
    ∙ (ap suc (packed_lengths room (i ∷ []) items)
    ∙ sym (ap length (packed-next weight room (lengths_of begun) (length i.1) (lengths_of items) (omega (arith, next, same_sum begun))))))
    (λ (fits : sum_by item_size begun + item_size i ≤ room).
    ap length (packed-fits item_size room begun i items fits)
    ∙ (packed_lengths room (begun ++ i ∷ []) items
    ∙ (ap (λ ls. length (packed_from weight room ls (lengths_of items))) (map-append (λ (item : Item). length item.1) begun (i ∷ []))
    ∙ sym (ap length (packed-fits weight room (lengths_of begun) (length i.1) (lengths_of items) (omega (arith, fits, same_sum begun)))))))
    (cases_lt room (sum_by item_size begun + item_size i))

pub packed_same : (room : ℕ) (items : List Item) → length (packed item_size room items) ≡ length (packed weight room (lengths_of items))
packed_same room items = packed_lengths room [] items

pub empty_nodes : (n : ℕ) → tree_nodes n [] ≡ 1
unfolding packed_from level_sizes
empty_nodes n = refl

pub extended_node : (m : Made) (bytes : List ℕ) → IsExtended m (with_node m bytes)
extended_node m bytes = record { more = bytes ∷ []; draft = m.draft; is = refl }

-- an empty leaf is the tree without items
pub empty_root : (give : LeavesGiveItems) (are : SubtreesAreTrees) (m : Made) (a : ℕ) → IsNextSlot m a
    → NodeReadsBack (begun_at m 0 a).draft (node_bytes (begun_at m 0 a).draft) → IsRoot (with_node (begun_at m 0 a) (node_bytes (begun_at m 0 a).draft)) a 0 []
empty_root give are m a at read = λ image ranges stand.
    let bytes : List ℕ = node_bytes (begun_at m 0 a).draft in
    let p : NodePointer = pointer_to m.generation 0 a in
    let next = next_is m a at in
    let mapped : is_mapped ranges m.form.nodesize a ≡ true = subst (λ (x : ℕ). is_mapped ranges m.form.nodesize x ≡ true) next.0 (stand_mapped image ranges m.form.nodesize m.slots m.nodes bytes stand) in
    let node : node_at image ranges m.form.nodesize a ≡ bytes = sym (ap (node_at image ranges m.form.nodesize) next.0) ∙ stand_last image ranges m.form.nodesize m.slots m.nodes bytes stand in
    let leaf : IsBtrfsLeaf (want m.form m.owner p) (node_at image ranges m.form.nodesize a) = subst (IsBtrfsLeaf (want m.form m.owner p)) (sym node) (read.leaf refl) in
    let below = give image ranges m.form m.owner true p mapped leaf refl in
    are image ranges m.form m.owner p [] (subst (λ is. IsSubtree image ranges m.form m.owner true p is) (ap items_in node ∙ read.items refl) below) refl

-- which is whole
pub empty_whole : (m : Made) (a : ℕ) → IsNextSlot m a → NodeReadsBack (begun_at m 0 a).draft (node_bytes (begun_at m 0 a).draft)
    → HasWholeNodes (with_node (begun_at m 0 a) (node_bytes (begun_at m 0 a).draft)) a 0
empty_whole m a at read = λ image ranges stand.
    let bytes : List ℕ = node_bytes (begun_at m 0 a).draft in
    let p : NodePointer = pointer_to m.generation 0 a in
    let Node : NodePointer → Type 0 = IsWhole image ranges m.form m.owner m.chunk_tree in
    let node : node_at image ranges m.form.nodesize a ≡ bytes =
    sym (ap (node_at image ranges m.form.nodesize) (next_is m a at).0) ∙ stand_last image ranges m.form.nodesize m.slots m.nodes bytes stand in
    let here : Node p = record {
      exact = record { draft = (begun_at m 0 a).draft; right = read.right; nodesize_is = refl; want_is = refl; chunk_tree_is = refl; bytes_are = node };
      firsts = λ h. absurd (omega (arith, h));
    } in
    subst (All Node) (sym (leaf_met image ranges m.form m.owner true m.generation a)) (All-cons Node p [] here (All-nil Node))

-- an empty tree has one node
pub empty_met : (m : Made) (a : ℕ) → m.nodes ≡ [] → IsNextSlot m a → HasNodes (with_node (begun_at m 0 a) (node_bytes (begun_at m 0 a).draft)) a 0 (tree_levels m.form.nodesize (length (packed_leaves m.form.nodesize [])))
unfolding packed_from level_sizes
empty_met m a none at = λ image ranges stand.
    let next = next_is m a at in
    let first : get_or m.slots 0 0 ≡ a = ap (λ ns. slot m.slots (length {A = List ℕ} ns)) (sym none) ∙ next.0 in
    let some : 0 < length m.slots = omega (arith, next.1) in
    let one : take 1 m.slots ≡ a ∷ [] = take_more m.slots 0 0 some ∙ ap (λ (x : ℕ). x ∷ []) first in
    let own : nodes_in (pointer_events image ranges m.form m.owner (may_be_bare (pointer_to m.generation 0 a)) (pointer_to m.generation 0 a)) ≡ level_pointers m.generation 0 0 m.slots (1 ∷ []) =
    leaf_met image ranges m.form m.owner (may_be_bare (pointer_to m.generation 0 a)) m.generation a ∙ sym (append-nil (pointers_to m.generation 0 0 1 m.slots) ∙ ap (map (pointer_to m.generation 0)) one) in
    subst (IsPermutation (nodes_in (pointer_events image ranges m.form m.owner (may_be_bare (pointer_to m.generation 0 a)) (pointer_to m.generation 0 a)))) own (IsPermutation-refl _)
