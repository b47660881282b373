-- What a reader has still to look at, as it goes on.
use Rattle.reiser_volume_contents.proofs.Imports.{◌≡◌, ◌≤◌, ℕ, zero, suc, ◌+◌, ◌==◌, Bool, true, false, ◌&&◌, List, [], ◌∷◌, ◌++◌, length, drop, slice_get, AllPairs, All, Some, if◌then◌else◌, refl, sym, ◌∙◌, ap, subst, append_assoc, add-one, arith, flat_map, is_lt, nat_cmp, ordering_then, nat_tests, append-nil, Image, block_at, ItemHead, head_at, head_place, body_at, kind_number, ReiserItem, item_of, Each, Pairs, all_pairs_from_pairs, pairs_from_all_pairs, each_from_all, all_from_each, each_map, ObjectKey, items_of, object_key_of, same_key, ObjectItems, items_from, leaf_items, leaf_ahead, items_ahead, IsKeyBelow, IsLeafOf, IsWholeLeaf, Reads, Looks, standing, object_order}
use Rattle.std.specs.declared.cmp.Ordering.{Ordering}
use Rattle.std.specs.declared.cmp.Ordering.TheVariants.{Less, Equal, Greater}
use Rattle.reiser_volume_objects.specs.reiser_walk.Hand.{item_before}

next_leaf : (leaves : List ℕ) (place b : ℕ) → slice_get leaves place ≡ Some b → drop place leaves ≡ b ∷ drop (place + 1) leaves
next_leaf [] place b h = absurd cc
next_leaf (c ∷ leaves) zero b h = let same : c ≡ b = cc in ap (λ (x : ℕ). x ∷ leaves) same
next_leaf (c ∷ leaves) (suc place) b h =
    let more : suc (place + 1) ≡ suc place + 1 = omega arith in
    next_leaf leaves place b h ∙ ap (λ (n : ℕ). b ∷ drop n (c ∷ leaves)) more

pub no_leaf : (leaves : List ℕ) (place : ℕ) → length leaves ≤ place → drop place leaves ≡ []
no_leaf [] zero h = refl
no_leaf [] (suc place) h = refl
no_leaf (c ∷ leaves) zero h = absurd (omega (arith, h))
no_leaf (c ∷ leaves) (suc place) h = no_leaf leaves place (omega (arith, h))

-- a leaf in hand of which nothing is to come
pub none_ahead : (n next left : ℕ) (bytes : List ℕ) → left ≡ 0 → items_from n bytes next left ≡ []
none_ahead n next left bytes e = rw e refl

module _ (r s : ObjectItems) (leaves : List ℕ) (image : Image) (given items : List ReiserItem) where
  -- what is to be looked at stays
  pub moved : s.key ≡ r.key → items_ahead image leaves r ≡ items_ahead image leaves s → All (IsLeafOf image) (drop s.place leaves) → Reads r leaves image given items → Reads s leaves image given items
  moved key same are_leaves reads = record {
    whole = ap (λ (k : ObjectKey). given ++ items_of k (items_ahead image leaves s)) key ∙ (ap (λ (xs : List ReiserItem). given ++ items_of r.key xs) (sym same) ∙ reads.whole);
    ascending = subst (λ (xs : List ReiserItem). AllPairs IsKeyBelow xs) same reads.ascending;
    are_leaves = are_leaves;
  }

  whole_ahead : (b : ℕ) → IsWholeLeaf image b s.leaf → leaf_ahead s.leaf ≡ leaf_items image b
  whole_ahead b w =
      ap (λ (n : ℕ). items_from n s.leaf.block.bytes s.leaf.at.next s.leaf.at.left) w.no
      ∙ (ap (λ (bytes : List ℕ). items_from b bytes s.leaf.at.next s.leaf.at.left) w.bytes
      ∙ (ap (λ (n : ℕ). items_from b (block_at image b) n s.leaf.at.left) w.next ∙ ap (λ (n : ℕ). items_from b (block_at image b) 0 n) w.left))

  -- the next leaf comes in hand
  pub filled : (b : ℕ) → slice_get leaves r.place ≡ Some b → r.leaf.at.left ≡ 0 → s.key ≡ r.key → s.place ≡ r.place + 1 → IsWholeLeaf image b s.leaf
      → Reads r leaves image given items → Reads s leaves image given items
  filled b at done key place w reads =
      let rest : drop r.place leaves ≡ b ∷ drop (r.place + 1) leaves = next_leaf leaves r.place b at in
      let here : drop s.place leaves ≡ drop (r.place + 1) leaves = ap (λ (n : ℕ). drop n leaves) place in
      moved key
      (ap (λ (xs : List ReiserItem). xs ++ flat_map (leaf_items image) (drop r.place leaves)) (none_ahead r.leaf.no r.leaf.at.next r.leaf.at.left r.leaf.block.bytes done)
      ∙ (ap (flat_map (leaf_items image)) rest
      ∙ sym (ap (λ (xs : List ReiserItem). xs ++ flat_map (leaf_items image) (drop s.place leaves)) (whole_ahead b w) ∙ ap (λ (bs : List ℕ). leaf_items image b ++ flat_map (leaf_items image) bs) here)))
      (subst (λ (bs : List ℕ). All (IsLeafOf image) bs) (sym here)
      (all_from_each (IsLeafOf image) (drop (r.place + 1) leaves) (subst (λ (bs : List ℕ). Each (IsLeafOf image) bs) rest (each_from_all (IsLeafOf image) (drop r.place leaves) reads.are_leaves)).1))
      reads

-- the leaf that is read next is one
pub next_is_leaf : (r : ObjectItems) (leaves : List ℕ) (image : Image) (given items : List ReiserItem) (b : ℕ) → slice_get leaves r.place ≡ Some b → Reads r leaves image given items → IsLeafOf image b
next_is_leaf r leaves image given items b at reads =
    (subst (λ (bs : List ℕ). Each (IsLeafOf image) bs) (next_leaf leaves r.place b at) (each_from_all (IsLeafOf image) (drop r.place leaves) reads.are_leaves)).0

-- how keys compare

before_by : (d o e p : ℕ) → ordering_then (nat_cmp d e) (nat_cmp o p) ≡ Less → ((d == e) && (o == p)) ≡ false
before_by d o e p h = grind (arith, nat_tests)

same_by : (d o e p : ℕ) → ordering_then (nat_cmp d e) (nat_cmp o p) ≡ Equal → ((d == e) && (o == p)) ≡ true
same_by d o e p h = grind (arith, nat_tests)

behind_by : (d o e p : ℕ) → ordering_then (nat_cmp d e) (nat_cmp o p) ≡ Greater → ((d == e) && (o == p)) ≡ false
behind_by d o e p h = grind (arith, nat_tests)

later_by : (d o f k d' o' f' k' e p : ℕ) → ordering_then (nat_cmp d e) (nat_cmp o p) ≡ Greater
    → is_lt (ordering_then (ordering_then (ordering_then (nat_cmp d d') (nat_cmp o o')) (nat_cmp f f')) (nat_cmp k k')) ≡ true → ((d' == e) && (o' == p)) ≡ false
later_by d o f k d' o' f' k' e p h below = grind (arith, nat_tests)

none_of : (key : ObjectKey) (xs : List ReiserItem) → Each (λ (x : ReiserItem). same_key (object_key_of x.head) key ≡ false) xs → items_of key xs ≡ []
none_of key [] h = refl
none_of key (x ∷ xs) h = ap (λ (t : Bool). if t then x ∷ items_of key xs else items_of key xs) h.0 ∙ none_of key xs h.1

module _ (r s : ObjectItems) (leaves : List ℕ) (image : Image) (given items : List ReiserItem) (i : ReiserItem) (key : s.key ≡ r.key) (place : s.place ≡ r.place)
    (next : items_ahead image leaves r ≡ i ∷ items_ahead image leaves s) (reads : Reads r leaves image given items) where
  pairs : Pairs IsKeyBelow (i ∷ items_ahead image leaves s)
  pairs = subst (λ (xs : List ReiserItem). Pairs IsKeyBelow xs) next (pairs_from_all_pairs IsKeyBelow (items_ahead image leaves r) reads.ascending)

  others_leaves : All (IsLeafOf image) (drop s.place leaves)
  others_leaves = subst (λ (n : ℕ). All (IsLeafOf image) (drop n leaves)) (sym place) reads.are_leaves

  whole_by : (t : Bool) → same_key (object_key_of i.head) r.key ≡ t → given ++ (if t then i ∷ items_of r.key (items_ahead image leaves s) else items_of r.key (items_ahead image leaves s)) ≡ items
  whole_by t is =
      ap (λ (b : Bool). given ++ (if b then i ∷ items_of r.key (items_ahead image leaves s) else items_of r.key (items_ahead image leaves s))) (sym is)
      ∙ (ap (λ (xs : List ReiserItem). given ++ items_of r.key xs) (sym next) ∙ reads.whole)

  passed : same_key (object_key_of i.head) r.key ≡ false → Reads s leaves image given items
  passed other = record {
    whole = ap (λ (k : ObjectKey). given ++ items_of k (items_ahead image leaves s)) key ∙ whole_by false other;
    ascending = all_pairs_from_pairs IsKeyBelow (items_ahead image leaves s) pairs.1;
    are_leaves = others_leaves;
  }

  came : same_key (object_key_of i.head) r.key ≡ true → Reads s leaves image (given ++ i ∷ []) items
  came own = record {
    whole =
        ap (λ (k : ObjectKey). (given ++ i ∷ []) ++ items_of k (items_ahead image leaves s)) key
        ∙ (append_assoc given (i ∷ []) (items_of r.key (items_ahead image leaves s)) ∙ whole_by true own);
    ascending = all_pairs_from_pairs IsKeyBelow (items_ahead image leaves s) pairs.1;
    are_leaves = others_leaves;
  }

  pub looked : (o : Ordering) → object_order i.head r.key ≡ o → standing s ≡ Some i → Looks o s leaves image given items
  looked Less is stands = passed (before_by i.head.dir i.head.object r.key.dir r.key.object is)
  looked Equal is stands = (i, came (same_by i.head.dir i.head.object r.key.dir r.key.object is), stands)
  looked Greater is stands =
      let none = none_of r.key (items_ahead image leaves s)
      (each_map (IsKeyBelow i) (λ (x : ReiserItem). same_key (object_key_of x.head) r.key ≡ false) (items_ahead image leaves s)
      (λ x below. later_by i.head.dir i.head.object i.head.offset (kind_number i.head.kind) x.head.dir x.head.object x.head.offset (kind_number x.head.kind) r.key.dir r.key.object is below) pairs.0) in
      sym (append-nil given) ∙ (ap (λ (xs : List ReiserItem). given ++ xs) (sym none) ∙ whole_by false (behind_by i.head.dir i.head.object r.key.dir r.key.object is))

-- the next item of the leaf in hand
pub next_item : (b next : ℕ) (bytes : List ℕ) (left more : ℕ) (head : ItemHead) → left ≡ suc more → head_at bytes (head_place next) ≡ Some head
    → items_from b bytes next left ≡ record { leaf = b; head = head; body = body_at bytes next } ∷ items_from b bytes (next + 1) more
next_item b next bytes left more head e is = rw (e, is, add-one) refl

pub stands_next : (b next : ℕ) (bytes : List ℕ) (head : ItemHead) → head_at bytes (head_place next) ≡ Some head → item_before b bytes (next + 1) ≡ Some (record { leaf = b; head = head; body = body_at bytes next })
stands_next b next bytes head is = ap (item_before b bytes) (add-one next) ∙ ap (item_of b bytes next) is
