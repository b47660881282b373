-- Where trees share no nodes, references that are told tree by tree are those of part 3.
use Rattle.btr_check_rules.proofs.Imports.{◌≡◌, ◌≢◌, ◌⊎◌, ℕ, suc, ◌==◌, ◌&&◌, ◌||◌, ◌+◌, ◌*◌, ◌≤◌, ◌%◌, Bool, true, false, List, [], ◌∷◌, ◌++◌, cond, filter, inl, inr, length, map, Option, Some, None, if◌then◌else◌, refl, sym, ◌∙◌, ap, ap₂, subst, arith, get_or, All, AllPairs, Contains, ⊎_elim, eqb, map-append, append-nil, flat_map, list_any, sum_by, All-cons, All-contains, All-nil, All-append, All-from_recursion, Contains-get_or, IsPermutation, and_from, and_parts, eq-eqb, eqb-true, false_from_ne_true, true≢false, Image, Key, NodePointer, AllPairs-filter, All-permutation, Contains-permutation, IsPermutation-sym, sum_by-IsPermutation, sum_by-append, sum_by-cons, at_head, from_filter, from_flat_map, from_map, head_or_tail, in_filter, in_flat_map, in_map, in_tail, head_in, Item, inline_refs_of, ref_uses, InlineRef, TreeBlock, SharedBlock, DataRef, SharedData, Extent, extent_by, extent_of, is_extent_item, is_full, is_node, is_node_head, is_ref_item, plain_extent, refers_to_node, same_ref, is_relocated, node_bytes, ArePlainReferences, AreUnshared, CountsUses, IsDataItem, IsNodeItem, IsOwnNode, IsOwnTree, IsWhole, PlainReferencesAreKept, TellsRefs, is_group, is_of_range, is_use, DataUse, HasItem, Recount, TreeOn, all_trees, data_uses, node_addresses, nodes_met, object_of, FitFeatures, HasRefs, IsExtentTreeItem, IsNodeIn, IsShared, IsTold, KeepsExtentItem, KeepsReferences, Made, StandsBefore, at_most_one, extent_items, extents_told, is_full_node, is_made_by, is_made_to, is_ref_to, own_refs, refs_made, told_count, told_refs}
use Rattle.std.proofs.Common.{count_by}
use Rattle.std.specs.Prelude.{IsTrue, bit_and, is_some, nat_lt, not, drop, slice_index}
use Rattle.std.specs.Option.{option_and_then, option_map}
use Rattle.btr_reader_walk.specs.btrfs_format.declared.flag.TheConstants.{BLOCK_FLAG_FULL_BACKREF, EXTENT_FLAG_DATA, EXTENT_FLAG_TREE_BLOCK}
use Rattle.btr_reader_walk.specs.btrfs_format.declared.key.TheConstants.{BLOCK_GROUP_ITEM, EXTENT_DATA_REF, EXTENT_ITEM, METADATA_ITEM, SHARED_BLOCK_REF, SHARED_DATA_REF, TREE_BLOCK_REF}
use Rattle.btr_reader_walk.specs.btrfs_format.declared.size.TheConstants.{EXTENT_ITEM_SIZE, KEY_SIZE}
use Rattle.btr_reader.specs.btr_space_items.declared.extent_head.ExtentHead.{ExtentHead}
use Rattle.btr_check_rules.proofs.At.{each_at, pairs_at}
use Rattle.btr_check_rules.proofs.Counted.{all_made, made_by_trees, node_made, nodes_made, once_is, use_made}
use Rattle.btr_check_rules.proofs.Distinct.{AreDistinct, all_from_contains, hit, none_pass, one_or_two, one_passes, pairs_flat, pairs_of_map}
use Rattle.btr_check_rules.proofs.Refs.{AreAlike, alike, by_third, kept_none, kept_one, same_from}

-- ---- counting

count_append : {X : Type 0} (p : X → Bool) (xs ys : List X) → count_by p (xs ++ ys) ≡ count_by p xs + count_by p ys
count_append p xs ys = sum_by-append (λ x. hit (p x)) xs ys

count_map : {X Y : Type 0} (p : Y → Bool) (f : X → Y) (xs : List X) → count_by p (map f xs) ≡ count_by (λ x. p (f x)) xs
count_map p f [] = refl
count_map p f (x ∷ xs) =
    let one = sum_by-cons (λ y. hit (p y)) (f x) (map f xs) in
    let two = sum_by-cons (λ y. hit (p (f y))) x xs in
    let rest = count_map p f xs in
    omega (arith, one, two, rest)

count_agree : {X : Type 0} (p q : X → Bool) (xs : List X) → ((x : X) → p x ≡ q x) → count_by p xs ≡ count_by q xs
count_agree p q [] same = refl
count_agree p q (x ∷ xs) same =
    let one = sum_by-cons (λ y. hit (p y)) x xs in
    let two = sum_by-cons (λ y. hit (q y)) x xs in
    let here : hit (p x) ≡ hit (q x) = ap hit (same x) in
    let rest = count_agree p q xs same in
    omega (arith, one, two, here, rest)

some_pass : {X : Type 0} (p : X → Bool) (xs : List X) (x : X) → Contains xs x → p x ≡ true → count_by p xs ≢ 0
some_pass p [] x h t = absurd (omega (arith, h.1))
some_pass p (y ∷ xs) x h t =
    let whole = sum_by-cons (λ z. hit (p z)) y xs in
    ⊎_elim
    (λ (same : y ≡ x) none. let one : hit (p y) ≡ 1 = ap hit (ap p same ∙ t) in omega (arith, whole, one, none))
    (λ (later : Contains xs x) none. some_pass p xs x later t (omega (arith, whole, none)))
    (head_or_tail y xs x h)

-- two tests that imply one another
same_test : (a b : Bool) → (a ≡ true → b ≡ true) → (b ≡ true → a ≡ true) → a ≡ b
same_test true b one two = sym (one refl)
same_test false true one two = two refl
same_test false false one two = refl

module _ (image : Image) (r : Recount) (alone : AreUnshared image r) (plain : ArePlainReferences r) (features : (a : ℕ) → FitFeatures r a) where
  abbrev items : List Item
  items = extent_items r

  abbrev nodesize : ℕ
  nodesize = r.super.nodesize

  -- ---- the items

  abbrev node_extent : TreeOn → NodePointer → ExtentHead → Extent
  node_extent t p head = record { start = p.address; length = nodesize; head = head; level = Some p.level; refs = TreeBlock t.number ∷ [] }

  abbrev data_extent : DataUse → List InlineRef → ExtentHead → Extent
  data_extent u refs head = record { start = u.start; length = u.length; head = head; level = None; refs = refs }

  abbrev node_key : NodePointer → Key
  node_key p = record { objectid = p.address; kind = METADATA_ITEM; offset = p.level }

  abbrev data_key : DataUse → Key
  data_key u = record { objectid = u.start; kind = EXTENT_ITEM; offset = u.length }

  read_node : (i : Item) (t : TreeOn) (p : NodePointer) → i.0 ≡ node_key p
      → (body : TellsRefs r.super.generation i.1 EXTENT_FLAG_TREE_BLOCK 1 (TreeBlock t.number ∷ [])) → extent_of nodesize i ≡ Some (node_extent t p body.head)
  read_node i t p key body =
      let by_key : Key → Option Extent =
      λ k. if k.kind == METADATA_ITEM then extent_by k.objectid nodesize (Some k.offset) (drop EXTENT_ITEM_SIZE i.1) body.head else plain_extent (k, i.1) body.head in
      ap (option_and_then (λ head. if i.0.kind == METADATA_ITEM then extent_by i.0.objectid nodesize (Some i.0.offset) (drop EXTENT_ITEM_SIZE i.1) head else plain_extent i head)) body.head_is
      ∙ (ap by_key key
      ∙ ap (option_map (λ found. record { start = p.address; length = nodesize; head = body.head; level = Some p.level; refs = found })) body.refs_are)

  read_data : (i : Item) (d : IsDataItem r i) → extent_of nodesize i ≡ Some (data_extent d.is_use d.refs d.body.head)
  read_data i d =
      let head : ExtentHead = d.body.head in
      let data_ : is_node_head head ≡ false = ap (λ f. not (bit_and f EXTENT_FLAG_TREE_BLOCK == 0)) d.body.kind_is in
      let long : Option Extent =
      if nat_lt (length i.1) (EXTENT_ITEM_SIZE + KEY_SIZE + 1) then None
      else extent_by d.is_use.start d.is_use.length (Some (slice_index i.1 (EXTENT_ITEM_SIZE + KEY_SIZE))) (drop (EXTENT_ITEM_SIZE + KEY_SIZE + 1) i.1) head in
      let by_key : Key → Option Extent =
      λ k. if k.kind == METADATA_ITEM then extent_by k.objectid nodesize (Some k.offset) (drop EXTENT_ITEM_SIZE i.1) head else plain_extent (k, i.1) head in
      ap (option_and_then (λ h. if i.0.kind == METADATA_ITEM then extent_by i.0.objectid nodesize (Some i.0.offset) (drop EXTENT_ITEM_SIZE i.1) h else plain_extent i h)) d.body.head_is
      ∙ (ap by_key d.key
      ∙ (ap (λ (b : Bool). if b then long else extent_by d.is_use.start d.is_use.length None (drop EXTENT_ITEM_SIZE i.1) head) data_
      ∙ ap (option_map (λ found. data_extent d.is_use found head)) d.body.refs_are))

  -- what the item of the extent of an item is
  data IsRead (i : Item) (e : Extent) : Type 0 where
    a_node : (t : TreeOn) (p : NodePointer) → Contains (all_trees r) t → Contains t.nodes p → i.0 ≡ node_key p
        → (body : TellsRefs r.super.generation i.1 EXTENT_FLAG_TREE_BLOCK 1 (TreeBlock t.number ∷ [])) → e ≡ node_extent t p body.head → IsRead i e
    some_data : (d : IsDataItem r i) → e ≡ data_extent d.is_use d.refs d.body.head → IsRead i e

  in_one : {A : Type 0} (o : Option A) (x y : A) → o ≡ Some y → Contains (at_most_one o) x → x ≡ y
  in_one o x y is h =
      ⊎_elim (λ (same : y ≡ x). sym same) (λ (later : Contains [] x). absurd (omega (arith, later.1)))
      (head_or_tail y [] x (subst (λ z. Contains (at_most_one z) x) is h))

  is_read : (i : Item) (e : Extent) → IsNodeItem r i ⊎ IsDataItem r i → Contains (at_most_one (extent_of nodesize i)) e → IsRead i e
  is_read i e (inl (t, p, h, l, key, body)) among = a_node t p h l key body (in_one (extent_of nodesize i) e (node_extent t p body.head) (read_node i t p key body) among)
  is_read i e (inr d) among = some_data d (in_one (extent_of nodesize i) e (data_extent d.is_use d.refs d.body.head) (read_data i d) among)

  not_group : (i : Item) → i.0.kind ≢ BLOCK_GROUP_ITEM → is_group i ≡ false
  not_group i apart = false_from_ne_true (is_group i) (λ t. apart (eqb-true i.0.kind BLOCK_GROUP_ITEM t))

  each_item : (i : Item) → Contains items i → i.0.kind ≢ BLOCK_GROUP_ITEM → (IsNodeItem r i ⊎ IsDataItem r i) × IsWhole i
  each_item i h apart = All-contains (λ j. is_group j ≡ false → (IsNodeItem r j ⊎ IsDataItem r j) × IsWhole j) items i plain.each h (not_group i apart)

  or_cases : (a b : Bool) → (a || b) ≡ true → (a ≡ true) ⊎ (b ≡ true)
  or_cases true b t = inl refl
  or_cases false b t = inr t

  extent_kind : (i : Item) → is_extent_item i ≡ true → i.0.kind ≢ BLOCK_GROUP_ITEM
  extent_kind i t e =
      ⊎_elim (λ one. let is = eqb-true i.0.kind EXTENT_ITEM one in omega (arith, is, e)) (λ two. let is = eqb-true i.0.kind METADATA_ITEM two in omega (arith, is, e))
      (or_cases (i.0.kind == EXTENT_ITEM) (i.0.kind == METADATA_ITEM) t)

  -- the item that tells an extent
  record IsToldBy (e : Extent) : Type 0 where
    item : Item
    there : Contains items item
    whole : IsWhole item
    read : IsRead item e

  told_by : (e : Extent) → Contains (extents_told r) e → IsToldBy e
  told_by e h =
      let at = from_flat_map (λ i. at_most_one (extent_of nodesize i)) (filter is_extent_item items) e h in
      let kept = from_filter is_extent_item items at.0 at.1 in
      let is = each_item at.0 kept.0 (extent_kind at.0 kept.1) in
      record { item = at.0; there = kept.0; whole = is.1; read = is_read at.0 e is.0 at.2 }

  flags_plain : (e : Extent) → (e.head.flags ≡ EXTENT_FLAG_DATA) ⊎ (e.head.flags ≡ EXTENT_FLAG_TREE_BLOCK) → is_full e ≡ false
  flags_plain e (inl is) = ap (λ f. not (bit_and f BLOCK_FLAG_FULL_BACKREF == 0)) is
  flags_plain e (inr is) = ap (λ f. not (bit_and f BLOCK_FLAG_FULL_BACKREF == 0)) is

  flags_of : (i : Item) (e : Extent) → IsRead i e → (e.head.flags ≡ EXTENT_FLAG_DATA) ⊎ (e.head.flags ≡ EXTENT_FLAG_TREE_BLOCK)
  flags_of i e (a_node t p h l key body is) = inr (ap (λ (x : Extent). x.head.flags) is ∙ body.kind_is)
  flags_of i e (some_data d is) = inl (ap (λ (x : Extent). x.head.flags) is ∙ d.body.kind_is)

  none_any : {X : Type 0} (p : X → Bool) (xs : List X) → ((x : X) → Contains xs x → p x ≡ false) → list_any p xs ≡ false
  none_any p [] none = refl
  none_any p (x ∷ xs) none = ap (λ (b : Bool). b || list_any p xs) (none x (at_head x xs)) ∙ none_any p xs (λ y h. none y (in_tail x xs y h))

  both_false : (a b : Bool) → b ≡ false → (a && b) ≡ false
  both_false true b f = f
  both_false false b f = refl

  -- no node is full
  pub not_full : (address : ℕ) → is_full_node r address ≡ false
  not_full address =
      none_any (λ e. (e.start == address) && is_full e) (extents_told r)
      (λ e h. let at = told_by e h in both_false (e.start == address) (is_full e) (flags_plain e (flags_of at.item e at.read)))

  -- a kind of key is that of a reference
  abbrev is_ref_kind : ℕ → Bool
  is_ref_kind kind = (kind == TREE_BLOCK_REF) || ((kind == EXTENT_DATA_REF) || ((kind == SHARED_BLOCK_REF) || (kind == SHARED_DATA_REF)))

  -- no reference stands in an item of its own
  no_ref : (i : Item) → Contains items i → is_ref_item i ≡ false
  no_ref i h = by (is_group i) refl
    where
      by : (b : Bool) → is_group i ≡ b → is_ref_item i ≡ false
      by true t = ap is_ref_kind (eqb-true i.0.kind BLOCK_GROUP_ITEM t)
      by false f = ⊎_elim (λ node. ap (λ (k : Key). is_ref_kind k.kind) node.4) (λ (d : IsDataItem r i). ap (λ (k : Key). is_ref_kind k.kind) d.key) (All-contains (λ j. is_group j ≡ false → (IsNodeItem r j ⊎ IsDataItem r j) × IsWhole j) items i plain.each h f).0

  none_own : (start : ℕ) → own_refs r start ≡ []
  none_own start = ap (flat_map _) (kept_none (is_ref_to start) items (λ i h. ap (λ (b : Bool). b && (i.0.objectid == start)) (no_ref i h)))

  told_are : (e : Extent) → told_refs r e ≡ e.refs
  told_are e = ap (λ (l : List InlineRef). e.refs ++ l) (none_own e.start) ∙ append-nil e.refs

  -- ---- what is made

  abbrev trees : List TreeOn
  trees = all_trees r

  abbrev uses : List DataUse
  uses = data_uses r

  abbrev made_nodes : List Made
  made_nodes = flat_map (nodes_made image r) trees

  abbrev made_uses : List Made
  made_uses = map (use_made image r) uses

  made_is : IsPermutation (refs_made image r) (made_by_trees image r)
  made_is = all_made image r not_full alone.once alone.trees

  count_made : (p : Made → Bool) → count_by p (refs_made image r) ≡ count_by p made_nodes + count_by (λ u. p (use_made image r u)) uses
  count_made p =
      sym (sum_by-IsPermutation (λ (m : Made). cond (p m) 1 0) (refs_made image r) (made_by_trees image r) made_is)
      ∙ (count_append p made_nodes made_uses ∙ ap (λ n. count_by p made_nodes + n) (count_map p (use_made image r) uses))

  starts_of : (ts : List TreeOn) → map (λ (m : Made). m.start) (flat_map (nodes_made image r) ts) ≡ flat_map node_addresses ts
  starts_of [] = refl
  starts_of (t ∷ ts) =
      map-append (λ (m : Made). m.start) (nodes_made image r t) (flat_map (nodes_made image r) ts) ∙ ap₂ (λ (a b : List ℕ). a ++ b) (one t.number (node_addresses t)) (starts_of ts)
    where
      one : (number : ℕ) (places : List ℕ) → map (λ (m : Made). m.start) (map (node_made image r number) places) ≡ places
      one number [] = refl
      one number (a ∷ places) = ap (λ (l : List ℕ). a ∷ l) (one number places)

  starts_differ : AllPairs (λ (m n : Made). m.start ≢ n.start) made_nodes
  starts_differ = pairs_of_map (λ (a b : ℕ). a ≢ b) (λ (m : Made). m.start) made_nodes (subst (AllPairs (λ (a b : ℕ). a ≢ b)) (sym (starts_of trees)) alone.once)

  nodes_differ : AreDistinct made_nodes
  nodes_differ = λ i j d l h e. starts_differ i j d l h (ap (λ (m : Made). m.start) e)

  same_start : (m n : Made) → Contains made_nodes m → Contains made_nodes n → m.start ≡ n.start → m ≡ n
  same_start m n h l e = ⊎_elim (λ same. same) (λ either. ⊎_elim (λ one. absurd (one e)) (λ two. absurd (two (sym e))) either) (one_or_two (λ (a b : Made). a.start ≢ b.start) made_nodes m n starts_differ h l)

  node_in : (t : TreeOn) (p : NodePointer) → Contains trees t → Contains t.nodes p → Contains made_nodes (node_made image r t.number p.address)
  node_in t p h l = in_flat_map (nodes_made image r) trees t (node_made image r t.number p.address) h (in_map (node_made image r t.number) (node_addresses t) p.address (in_map (λ (q : NodePointer). q.address) t.nodes p l))

  -- what leads to a node is met once
  record IsMade (m : Made) : Type 0 where
    tree : TreeOn
    node : NodePointer
    there : Contains trees tree
    among : Contains tree.nodes node
    is : m ≡ node_made image r tree.number node.address

  from_made : (m : Made) → Contains made_nodes m → IsMade m
  from_made m h =
      let one = from_flat_map (nodes_made image r) trees m h in
      let two = from_map (node_made image r one.0.number) (node_addresses one.0) m one.2 in
      let three = from_map (λ (q : NodePointer). q.address) one.0.nodes two.0 two.1 in
      record { tree = one.0; node = three.0; there = one.1; among = three.1; is = sym two.2 ∙ ap (node_made image r one.0.number) (sym three.2) }

  node_counts : (p : Made → Bool) (m : Made) → Contains made_nodes m → ((n : Made) → p n ≡ true → n.start ≡ m.start) → count_by p made_nodes ≡ hit (p m)
  node_counts p m h only = by (p m) refl
    where
      by : (b : Bool) → p m ≡ b → count_by p made_nodes ≡ hit b
      by true t = one_passes p made_nodes m nodes_differ h t (λ n l passes. same_start m n h l (sym (only n passes)))
      by false f = none_pass p made_nodes (λ n l passes. true≢false (sym passes ∙ (ap p (same_start n m l h (only n passes)) ∙ f)))

  to_start : (e : Extent) (m : Made) → is_made_to e m ≡ true → m.start ≡ e.start
  to_start e m t = eqb-true m.start e.start (and_parts (m.start == e.start) (m.length == e.length) t).0

  by_start : (e : Extent) (ref : InlineRef) (m : Made) → is_made_by e ref m ≡ true → m.start ≡ e.start
  by_start e ref m t = to_start e m (and_parts (is_made_to e m) (same_ref ref m.ref) t).0

  -- ---- the extent of a node

  module _ (t : TreeOn) (p : NodePointer) (h : Contains trees t) (l : Contains t.nodes p) (head : ExtentHead) where
    abbrev e : Extent
    e = node_extent t p head

    abbrev own : Made
    own = node_made image r t.number p.address

    made_here : is_made_to e own ≡ true
    made_here = and_from (p.address == p.address) (nodesize == nodesize) (eq-eqb p.address p.address refl) (eq-eqb nodesize nodesize refl)

    no_use : (q : Made → Bool) → ((m : Made) → q m ≡ true → m.start ≡ p.address) → count_by (λ u. q (use_made image r u)) uses ≡ 0
    no_use q only = none_pass (λ u. q (use_made image r u)) uses (λ u k passes. alone.apart u t p k h l (only (use_made image r u) passes))

    pub node_sum : count_by (is_made_to e) (refs_made image r) ≡ 1
    node_sum =
        let whole = count_made (is_made_to e) in
        let nodes : count_by (is_made_to e) made_nodes ≡ 1 = node_counts (is_made_to e) own (node_in t p h l) (to_start e) ∙ ap hit made_here in
        let none = no_use (is_made_to e) (to_start e) in
        omega (arith, whole, nodes, none)

    one_told : (ref : InlineRef) → sum_by ref_uses (filter (same_ref ref) (TreeBlock t.number ∷ [])) ≡ hit (same_ref ref (TreeBlock t.number))
    one_told ref = by (same_ref ref (TreeBlock t.number))
      where
        by : (b : Bool) → sum_by ref_uses (cond b (TreeBlock t.number ∷ []) []) ≡ hit b
        by true = refl
        by false = refl

    pub node_count : (ref : InlineRef) → told_count r e ref ≡ count_by (is_made_by e ref) (refs_made image r)
    node_count ref =
        let whole = count_made (is_made_by e ref) in
        let nodes : count_by (is_made_by e ref) made_nodes ≡ hit (same_ref ref (TreeBlock t.number)) =
        node_counts (is_made_by e ref) own (node_in t p h l) (by_start e ref) ∙ ap (λ (b : Bool). hit (b && same_ref ref (TreeBlock t.number))) made_here in
        let none = no_use (is_made_by e ref) (by_start e ref) in
        let told : told_count r e ref ≡ hit (same_ref ref (TreeBlock t.number)) = ap (λ (refs : List InlineRef). sum_by ref_uses (filter (same_ref ref) refs)) (told_are e) ∙ one_told ref in
        omega (arith, whole, nodes, none, told)

  -- ---- the extent of data

  module _ (i : Item) (d : IsDataItem r i) where
    abbrev u : DataUse
    u = d.is_use

    abbrev f : Extent
    f = data_extent u d.refs d.body.head

    abbrev in_range : DataUse → Bool
    in_range w = is_of_range u.start u.length w

    abbrev ref_of : DataUse → InlineRef
    ref_of w = DataRef w.tree w.inode w.offset 1

    no_node : (q : Made → Bool) → ((m : Made) → q m ≡ true → m.start ≡ u.start) → count_by q made_nodes ≡ 0
    no_node q only = none_pass q made_nodes (λ m k passes.
        let at = from_made m k in
        alone.apart u at.tree at.node d.used at.there at.among (sym (only m passes) ∙ ap (λ (n : Made). n.start) at.is))

    pub data_sum : count_by (is_made_to f) (refs_made image r) ≡ count_by in_range uses
    data_sum =
        let whole = count_made (is_made_to f) in
        let none = no_node (is_made_to f) (to_start f) in
        omega (arith, whole, none)

    range_parts : (w : DataUse) → in_range w ≡ true → (w.start ≡ u.start) × (w.length ≡ u.length)
    range_parts w t = let parts = and_parts (w.start == u.start) (w.length == u.length) t in (eqb-true w.start u.start parts.0, eqb-true w.length u.length parts.1)

    pub data_some : count_by in_range uses ≢ 0
    data_some = some_pass in_range uses u d.used (and_from (u.start == u.start) (u.length == u.length) (eq-eqb u.start u.start refl) (eq-eqb u.length u.length refl))

    -- how often a reference is made by file extents
    abbrev made_by : InlineRef → ℕ
    made_by ref = count_by (λ w. in_range w && same_ref ref (ref_of w)) uses

    like_data : (root objectid offset count : ℕ) (w : DataUse) (ref : InlineRef) → same_ref ref (DataRef root objectid offset count) ≡ true
        → is_use u.start u.length root objectid offset w ≡ (in_range w && same_ref ref (ref_of w))
    like_data root objectid offset count w ref like =
        let x : InlineRef = DataRef root objectid offset count in
        let are = alike ref x like in
        same_test (is_use u.start u.length root objectid offset w) (in_range w && same_ref ref (ref_of w))
        (λ t.
        let one = and_parts _ _ t in
        let two = and_parts _ _ one.1 in
        let three = and_parts _ _ two.1 in
        let four = and_parts _ _ three.1 in
        and_from (in_range w) (same_ref ref (ref_of w)) (and_from (w.start == u.start) (w.length == u.length) one.0 two.0)
        (same_from ref (ref_of w) (record {
          kind = are.kind;
          root = are.root ∙ sym (eqb-true w.tree root three.0);
          objectid = are.objectid ∙ sym (eqb-true w.inode objectid four.0);
          offset = are.offset ∙ sym (eqb-true w.offset offset four.1);
          parent = are.parent;
        })))
        (λ t.
        let one = and_parts (in_range w) (same_ref ref (ref_of w)) t in
        let two = and_parts (w.start == u.start) (w.length == u.length) one.0 in
        let also = alike ref (ref_of w) one.1 in
        and_from (w.start == u.start) _ two.0
        (and_from (w.length == u.length) _ two.1
        (and_from (w.tree == root) _ (eq-eqb w.tree root (sym also.root ∙ are.root))
        (and_from (w.inode == objectid) (w.offset == offset) (eq-eqb w.inode objectid (sym also.objectid ∙ are.objectid)) (eq-eqb w.offset offset (sym also.offset ∙ are.offset))))))

    told_one : (ref x : InlineRef) → CountsUses r u.start u.length x → same_ref ref x ≡ true → ref_uses x ≡ made_by ref
    told_one ref (TreeBlock root) is like = absurd is
    told_one ref (SharedBlock parent) is like = absurd is
    told_one ref (SharedData parent count) is like = absurd is
    told_one ref (DataRef root objectid offset count) is like = sym is.1 ∙ count_agree (is_use u.start u.length root objectid offset) (λ w. in_range w && same_ref ref (ref_of w)) uses (λ w. like_data root objectid offset count w ref like)

    none_told : (ref : InlineRef) → ((x : InlineRef) → Contains d.refs x → same_ref ref x ≡ false) → made_by ref ≡ 0
    none_told ref none = none_pass (λ w. in_range w && same_ref ref (ref_of w)) uses (λ w k passes.
        let parts = and_parts (in_range w) (same_ref ref (ref_of w)) passes in
        let range = range_parts w parts.0 in
        let at = d.whole w k range.0 range.1 in
        let like : same_ref ref (DataRef w.tree w.inode w.offset at.0) ≡ true = parts.1 in
        true≢false (sym like ∙ none (DataRef w.tree w.inode w.offset at.0) at.1))

    -- one of some references is like another one, or none is
    data IsFound (ref : InlineRef) (xs : List InlineRef) : Type 0 where
      found : (x : InlineRef) → Contains xs x → same_ref ref x ≡ true → IsFound ref xs
      unfound : ((x : InlineRef) → Contains xs x → same_ref ref x ≡ false) → IsFound ref xs

    find : (ref : InlineRef) (xs : List InlineRef) → IsFound ref xs
    find ref [] = unfound (λ x k. absurd (omega (arith, k.1)))
    find ref (x ∷ xs) = by (same_ref ref x) refl (find ref xs)
      where
        by : (b : Bool) → same_ref ref x ≡ b → IsFound ref xs → IsFound ref (x ∷ xs)
        by true t rest = found x (at_head x xs) t
        by false no_ (found y k t) = found y (in_tail x xs y k) t
        by false no_ (unfound none) = unfound (λ y k. ⊎_elim (λ (same : x ≡ y). subst (λ z. same_ref ref z ≡ false) same no_) (λ later. none y later) (head_or_tail x xs y k))

    told_is : (ref : InlineRef) → sum_by ref_uses (filter (same_ref ref) d.refs) ≡ made_by ref
    told_is ref = by (find ref d.refs)
      where
        by : IsFound ref d.refs → sum_by ref_uses (filter (same_ref ref) d.refs) ≡ made_by ref
        by (found x k t) =
            let one : filter (same_ref ref) d.refs ≡ x ∷ [] =
            kept_one ref x (filter (same_ref ref) d.refs) (AllPairs-filter (λ (a b : InlineRef). same_ref a b ≡ false) (same_ref ref) d.refs d.once)
            (λ y m. (from_filter (same_ref ref) d.refs y m).1) (in_filter (same_ref ref) d.refs x k t) in
            let single = sum_by-cons ref_uses x [] in
            ap (sum_by ref_uses) one ∙ ((let same : sum_by ref_uses (x ∷ []) ≡ ref_uses x = omega (arith, single) in same) ∙ told_one ref x (All-contains (CountsUses r u.start u.length) d.refs x d.each k) t)
        by (unfound none) = ap (sum_by ref_uses) (kept_none (same_ref ref) d.refs none) ∙ sym (none_told ref none)

    pub data_count : (ref : InlineRef) → told_count r f ref ≡ count_by (is_made_by f ref) (refs_made image r)
    data_count ref =
        let whole = count_made (is_made_by f ref) in
        let none = no_node (is_made_by f ref) (by_start f ref) in
        let told : told_count r f ref ≡ made_by ref = ap (λ (refs : List InlineRef). sum_by ref_uses (filter (same_ref ref) refs)) (told_are f) ∙ told_is ref in
        omega (arith, whole, none, told)

    of_data : (x : InlineRef) → CountsUses r u.start u.length x → (ref_uses x ≢ 0) × (refers_to_node x ≡ false)
    of_data (TreeBlock root) is = absurd is
    of_data (SharedBlock parent) is = absurd is
    of_data (SharedData parent count) is = absurd is
    of_data (DataRef root objectid offset count) is = (is.0, refl)

  -- ---- each extent

  level_at : (t : TreeOn) (p : NodePointer) → Contains trees t → Contains t.nodes p → (head_in (node_bytes image r p.address)).level ≡ p.level
  level_at t p h l = (All-contains (IsOwnNode image r t.number) t.nodes p (All-contains (IsOwnTree image r) trees t alone.trees h).nodes l).level

  abbrev Fits : ExtentHead → InlineRef → Type 0
  Fits head ref = (ref_uses ref ≢ 0) × (refers_to_node ref ≡ is_node_head head)

  keeps : (e : Extent) (i : Item) → IsWhole i → IsRead i e → KeepsExtentItem image r e
  keeps e i whole (a_node t p h l key body is) = subst (KeepsExtentItem image r) (sym is) (record {
    whole = (subst (λ (k : Key). k.objectid % 4096 ≡ 0) key whole.start, alone.size.0, alone.size.1);
    generation = body.generation;
    flags = inr (inl body.kind_is);
    kind = sym node_so;
    level = λ t_. ap Some (sym (level_at t p h l));
    refs = record {
      each = subst (All (Fits body.head)) (sym (told_are (node_extent t p body.head)))
          (All-from_recursion (Fits body.head) (TreeBlock t.number ∷ []) (((λ none. omega (arith, none)), sym node_so), tt));
      once = subst (AllPairs (λ a b. same_ref a b ≡ false)) (sym (told_are (node_extent t p body.head))) (λ a b d one two. absurd (omega (arith, one, two)));
      counts = node_count t p h l body.head;
      sum = body.count_is ∙ sym (node_sum t p h l body.head);
      some = λ none. let one = body.count_is in omega (arith, none, one);
      order = body.order;
    };
  })
    where
      node_so : is_node_head body.head ≡ true
      node_so = ap (λ f. not (bit_and f EXTENT_FLAG_TREE_BLOCK == 0)) body.kind_is
  keeps e i whole (some_data d is) = subst (KeepsExtentItem image r) (sym is) (record {
    whole = (subst (λ (k : Key). k.objectid % 4096 ≡ 0) d.key whole.start, subst (λ (k : Key). k.offset % 4096 ≡ 0) d.key range.0, subst (λ (k : Key). k.offset ≢ 0) d.key range.1);
    generation = d.body.generation;
    flags = inl d.body.kind_is;
    kind = sym data_so;
    level = λ t_. absurd (true≢false (sym t_ ∙ data_so));
    refs = record {
      each = subst (All (Fits d.body.head)) (sym (told_are (data_extent d.is_use d.refs d.body.head)))
          (all_from_contains (Fits d.body.head) d.refs (λ ref k. let is_one = of_data i d ref (All-contains (CountsUses r d.is_use.start d.is_use.length) d.refs ref d.each k) in (is_one.0, is_one.1 ∙ sym data_so)));
      once = subst (AllPairs (λ a b. same_ref a b ≡ false)) (sym (told_are (data_extent d.is_use d.refs d.body.head))) d.once;
      counts = data_count i d;
      sum = d.body.count_is ∙ sym (data_sum i d);
      some = λ none. data_some i d (sym d.body.count_is ∙ none);
      order = d.body.order;
    };
  })
    where
      data_so : is_node_head d.body.head ≡ false
      data_so = ap (λ f. not (bit_and f EXTENT_FLAG_TREE_BLOCK == 0)) d.body.kind_is

      range : (i.0.offset % 4096 ≡ 0) × (i.0.offset ≢ 0)
      range = whole.range (ap (λ (k : Key). k.kind) d.key)

  -- ---- two extents

  abbrev Differ : Extent → Extent → Type 0
  Differ e f = e.start ≢ f.start

  same_level : (t v : TreeOn) (p q : NodePointer) → Contains trees t → Contains trees v → Contains t.nodes p → Contains v.nodes q → p.address ≡ q.address → node_key p ≡ node_key q
  same_level t v p q h k l m same =
      let level : p.level ≡ q.level = sym (level_at t p h l) ∙ (ap (λ a. (head_in (node_bytes image r a)).level) same ∙ level_at v q k m) in
      ap (λ a. record { objectid = a; kind = METADATA_ITEM; offset = p.level }) same ∙ ap (λ n. record { objectid = q.address; kind = METADATA_ITEM; offset = n }) level

  two_differ : (i j : Item) (e f : Extent) → i.0 ≢ j.0 → IsRead i e → IsRead j f → Differ e f
  two_differ i j e f apart (a_node t p h l key body is) (a_node v q k m key_ body_ is_) same =
      apart (key ∙ (same_level t v p q h k l m (sym (ap (λ (x : Extent). x.start) is) ∙ (same ∙ ap (λ (x : Extent). x.start) is_)) ∙ sym key_))
  two_differ i j e f apart (a_node t p h l key body is) (some_data d is_) same =
      alone.apart d.is_use t p d.used h l (sym (ap (λ (x : Extent). x.start) is_) ∙ (sym same ∙ ap (λ (x : Extent). x.start) is))
  two_differ i j e f apart (some_data d is) (a_node t p h l key body is_) same =
      alone.apart d.is_use t p d.used h l (sym (ap (λ (x : Extent). x.start) is) ∙ (same ∙ ap (λ (x : Extent). x.start) is_))
  two_differ i j e f apart (some_data c is) (some_data d is_) same =
      let start : c.is_use.start ≡ d.is_use.start = sym (ap (λ (x : Extent). x.start) is) ∙ (same ∙ ap (λ (x : Extent). x.start) is_) in
      let long = alone.ranges c.is_use d.is_use c.used d.used start in
      apart (c.key ∙ (ap (λ a. record { objectid = a; kind = EXTENT_ITEM; offset = c.is_use.length }) start ∙ (ap (λ n. record { objectid = d.is_use.start; kind = EXTENT_ITEM; offset = n }) long ∙ sym d.key)))

  abbrev extent_item : Item → List Extent
  extent_item i = at_most_one (extent_of nodesize i)

  at_most : (o : Option Extent) → AllPairs Differ (at_most_one o)
  at_most None = λ a b d less inside. absurd (omega (arith, inside))
  at_most (Some e) = λ a b d less inside. absurd (omega (arith, less, inside))

  all_differ : AllPairs Differ (extents_told r)
  all_differ =
      pairs_flat Differ extent_item (filter is_extent_item items) (λ i h. at_most (extent_of nodesize i))
      (λ a b d less inside e f h l.
      let kept : AllPairs (λ i j. i.0 ≢ j.0) (filter is_extent_item items) = AllPairs-filter (λ (i j : Item). i.0 ≢ j.0) is_extent_item items alone.keys in
      let i = get_or (filter is_extent_item items) a d in
      let j = get_or (filter is_extent_item items) b d in
      let one = from_filter is_extent_item items i (Contains-get_or (filter is_extent_item items) a d (omega (arith, less, inside))) in
      let two = from_filter is_extent_item items j (Contains-get_or (filter is_extent_item items) b d inside) in
      two_differ i j e f (kept a b d less inside) (is_read i e (each_item i one.0 (extent_kind i one.1)).0 h) (is_read j f (each_item j two.0 (extent_kind j two.1)).0 l))

  -- ---- what is made is told

  told_item : (i : Item) (e : Extent) → Contains items i → is_extent_item i ≡ true → extent_of nodesize i ≡ Some e → Contains (extents_told r) e
  told_item i e h t is = in_flat_map extent_item (filter is_extent_item items) i e (in_filter is_extent_item items i h t) (subst (λ o. Contains (at_most_one o) e) (sym is) (at_head e []))

  node_told : (number : ℕ) (t : TreeOn) (p : NodePointer) → Contains trees t → Contains t.nodes p → IsTold r (node_made image r number p.address)
  node_told number t p h l = by (each_item (node_key p, found.0) there (λ e. omega (arith, e))).0
    where
      found : HasItem items p.address METADATA_ITEM p.level
      found = All-contains (λ (q : NodePointer). HasItem items q.address METADATA_ITEM q.level) t.nodes p (All-contains (λ (v : TreeOn). All (λ (q : NodePointer). HasItem items q.address METADATA_ITEM q.level) v.nodes) trees t plain.nodes h) l

      there : Contains items (node_key p, found.0)
      there = found.1

      by : IsNodeItem r (node_key p, found.0) ⊎ IsDataItem r (node_key p, found.0) → IsTold r (node_made image r number p.address)
      by (inl (v, q, k, m, key, body)) =
          (node_extent v q body.head, told_item (node_key p, found.0) (node_extent v q body.head) there refl (read_node (node_key p, found.0) v q key body), ap (λ (x : Key). x.objectid) key, refl, sym (ap (λ f. not (bit_and f EXTENT_FLAG_TREE_BLOCK == 0)) body.kind_is))
      by (inr d) = absurd (let kind : METADATA_ITEM ≡ EXTENT_ITEM = ap (λ (x : Key). x.kind) d.key in omega (arith, kind))

  use_told : (u : DataUse) → Contains uses u → IsTold r (use_made image r u)
  use_told u h = by (each_item (data_key u, found.0) there (λ e. omega (arith, e))).0
    where
      found : HasItem items u.start EXTENT_ITEM u.length
      found = All-contains (λ (w : DataUse). HasItem items w.start EXTENT_ITEM w.length) uses u plain.data_ h

      there : Contains items (data_key u, found.0)
      there = found.1

      by : IsNodeItem r (data_key u, found.0) ⊎ IsDataItem r (data_key u, found.0) → IsTold r (use_made image r u)
      by (inl (v, q, k, m, key, body)) = absurd (let kind : EXTENT_ITEM ≡ METADATA_ITEM = ap (λ (x : Key). x.kind) key in omega (arith, kind))
      by (inr d) =
          (data_extent d.is_use d.refs d.body.head, told_item (data_key u, found.0) (data_extent d.is_use d.refs d.body.head) there refl (read_data (data_key u, found.0) d), ap (λ (x : Key). x.objectid) d.key, ap (λ (x : Key). x.offset) d.key, sym (ap (λ f. not (bit_and f EXTENT_FLAG_TREE_BLOCK == 0)) d.body.kind_is))

  all_told : All (IsTold r) (refs_made image r)
  all_told =
      All-permutation (IsTold r) (made_by_trees image r) (refs_made image r) (IsPermutation-sym (refs_made image r) (made_by_trees image r) made_is)
      (All-append (IsTold r) made_nodes made_uses
      (all_from_contains (IsTold r) made_nodes (λ m h. let at = from_made m h in subst (IsTold r) (sym at.is) (node_told at.tree.number at.tree at.node at.there at.among)))
      (all_from_contains (IsTold r) made_uses (λ m h. let at = from_map (use_made image r) uses m h in subst (IsTold r) at.2 (use_told at.0 at.1))))

  -- ---- the nodes, and the items

  all_met : nodes_met r ≡ flat_map node_addresses trees
  all_met = once_is (flat_map node_addresses trees) alone.once

  no_full : (address : ℕ) → is_full_node r address ≡ true → ⊥
  no_full address t = true≢false (sym t ∙ not_full address)

  shared : (address : ℕ) → Contains (nodes_met r) address → IsShared image r address
  shared address h =
      let one = from_flat_map node_addresses trees address (subst (λ l. Contains l address) all_met h) in
      let two = from_map (λ (p : NodePointer). p.address) one.0.nodes address one.2 in
      let own : IsOwnNode image r one.0.number two.0 = All-contains (IsOwnNode image r one.0.number) one.0.nodes two.0 (All-contains (IsOwnTree image r) trees one.0 alone.trees one.1).nodes two.1 in
      subst (IsShared image r) two.2 (record {
        owned = λ f. (one.0, one.1, sym own.owner, subst (Contains (node_addresses one.0)) (sym two.2) one.2);
        plain = λ t. absurd (true≢false (sym t ∙ own.settled));
        full = λ t. absurd (no_full two.0.address t);
        older = λ t. absurd (no_full two.0.address t);
      })

  is_some_so : {A : Type 0} (o : Option A) (a : A) → o ≡ Some a → IsTrue (is_some o)
  is_some_so o a is = ap is_some is

  abbrev is_extent_kind : ℕ → Bool
  is_extent_kind kind = (kind == EXTENT_ITEM) || (kind == METADATA_ITEM)

  right_item : (i : Item) → Contains items i → IsExtentTreeItem r i
  right_item i h = record {
    extent = λ t. by_item (each_item i h (extent_kind i t)).0;
    ref = λ t. absurd (true≢false (sym t ∙ no_ref i h));
    other = λ off f. by_group off (is_group i) refl;
  }
    where
      by_item : IsNodeItem r i ⊎ IsDataItem r i → IsTrue (is_some (extent_of nodesize i))
      by_item (inl (t, p, k, l, key, body)) = is_some_so (extent_of nodesize i) (node_extent t p body.head) (read_node i t p key body)
      by_item (inr d) = is_some_so (extent_of nodesize i) (data_extent d.is_use d.refs d.body.head) (read_data i d)

      by_group : is_extent_item i ≡ false → (b : Bool) → is_group i ≡ b → i.0.kind ≡ BLOCK_GROUP_ITEM
      by_group off true t = eqb-true i.0.kind BLOCK_GROUP_ITEM t
      by_group off false no_ = absurd (true≢false (sym (⊎_elim (λ node. ap (λ (k : Key). is_extent_kind k.kind) node.4) (λ (d : IsDataItem r i). ap (λ (k : Key). is_extent_kind k.kind) d.key) (each_item i h (λ e. true≢false (sym (eq-eqb i.0.kind BLOCK_GROUP_ITEM e) ∙ no_))).0) ∙ off))

  pub kept : (a : ℕ) → KeepsReferences image r a
  kept a = record {
    items = each_at object_of a (IsExtentTreeItem r) items (all_from_contains (IsExtentTreeItem r) items right_item);
    extents = each_at (λ (e : Extent). e.start) a (KeepsExtentItem image r) (extents_told r) (all_from_contains (KeepsExtentItem image r) (extents_told r) (λ e h. let at = told_by e h in keeps e at.item at.whole at.read));
    once = pairs_at (λ (e : Extent). e.start) a Differ (extents_told r) all_differ;
    told = each_at (λ (m : Made). m.start) a (IsTold r) (refs_made image r) all_told;
    shared = each_at (λ (n : ℕ). n) a (IsShared image r) (nodes_met r) (all_from_contains (IsShared image r) (nodes_met r) shared);
    features = features a;
  }

pub plain_references_are_kept : PlainReferencesAreKept
plain_references_are_kept = λ image r alone plain features. kept image r alone plain features
