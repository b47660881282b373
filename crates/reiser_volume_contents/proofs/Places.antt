-- The items of an object stand in its first leaf and in those behind it.
use Rattle.reiser_volume_contents.proofs.Imports.{◌≡◌, ◌≢◌, ◌⊎◌, inl, inr, ◌≤◌, ◌<◌, ℕ, zero, suc, nat_eq, Bool, true, false, IsSome, List, [], ◌∷◌, ◌++◌, length, map, take, drop, Option, Some, None, if◌then◌else◌, refl, sym, ◌∙◌, ap, subst, append_assoc, ⊎_elim, arith, dedup_from, flat_map, eqb-true, nat_tests, map-append, flat_map-append, Image, block_at, ItemHead, ItemKind, kind_at, head_at, head_of_kind, IsLeaf, count, head_place, ReiserItem, item_of, item_at, Each, ObjectKey, items_of, object_key_of, same_key, without_repeats, leaves_of, IsFirstLeaf, listed, items_from, leaf_items}
use Rattle.std.proofs.lemmas.List.Elements.{filter-append}
use Rattle.reiser_volume_contents.proofs.Same.{each_append}
use Rattle.reiser_volume_contents.proofs.Trees.{Distinct}

abbrev leaf_numbers : List ReiserItem → List ℕ
leaf_numbers items = map (λ (i : ReiserItem). i.leaf) items

-- each item of a leaf has its block
one_leaf : (b : ℕ) (bytes : List ℕ) (i : ℕ) (o : Option ItemHead) → Each (λ n. n ≡ b) (leaf_numbers (listed (item_of b bytes i o)))
one_leaf b bytes i None = tt
one_leaf b bytes i (Some head) = (refl, tt)

all_leaf : (b : ℕ) (bytes : List ℕ) (i k : ℕ) → Each (λ n. n ≡ b) (leaf_numbers (items_from b bytes i k))
all_leaf b bytes i zero = tt
all_leaf b bytes i (suc k) =
    subst (λ (ns : List ℕ). Each (λ n. n ≡ b) ns) (sym (map-append (λ (x : ReiserItem). x.leaf) (listed (item_at b bytes i)) (items_from b bytes (suc i) k)))
    (each_append (λ n. n ≡ b) (leaf_numbers (listed (item_at b bytes i))) (leaf_numbers (items_from b bytes (suc i) k)) (one_leaf b bytes i (head_at bytes (head_place i))) (all_leaf b bytes (suc i) k))

-- the numbers of a leaf that has an item
record Whole (b : ℕ) (ns : List ℕ) : Type 0 where
  rest : List ℕ
  is : ns ≡ b ∷ rest
  all : Each (λ n. n ≡ b) rest

whole_by : (b : ℕ) (ns : List ℕ) → 0 < length ns → Each (λ n. n ≡ b) ns → Whole b ns
whole_by b [] some h = absurd (omega arith)
whole_by b (n ∷ ns) some h = record { rest = ns; is = ap (λ (x : ℕ). x ∷ ns) h.0; all = h.1 }

known_head : (bytes : List ℕ) (at : ℕ) (o : Option ItemKind) → (k : ItemKind) → o ≡ Some k → (head : ItemHead) × (head_of_kind bytes at o ≡ Some head)
known_head bytes at None k is = absurd cc
known_head bytes at (Some kind) k is = (_, refl)

some_kind : (o : Option ItemKind) → IsSome o → (k : ItemKind) × (o ≡ Some k)
some_kind None h = absurd cc
some_kind (Some k) h = (k, refl)

-- an item of a leaf is there
pub item_there : (b : ℕ) (bytes : List ℕ) (i : ℕ) → IsLeaf bytes → i < count bytes → (x : ReiserItem) × (item_at b bytes i ≡ Some x)
item_there b bytes i leaf within =
    let kind = some_kind (kind_at bytes (head_place i)) (leaf.each i within).known in
    let head = known_head bytes (head_place i) (kind_at bytes (head_place i)) kind.0 kind.1 in
    (_, ap (item_of b bytes i) head.1)

some_items : (b : ℕ) (bytes : List ℕ) (k : ℕ) → IsLeaf bytes → k ≡ count bytes → 0 < length (leaf_numbers (items_from b bytes 0 k))
some_items b bytes zero leaf e = absurd (omega (arith, leaf.some, e))
some_items b bytes (suc k) leaf e =
    let first = item_there b bytes 0 leaf (omega (arith, e)) in
    rw first.1 (omega arith)

whole_leaf : (image : Image) (b : ℕ) → IsLeaf (block_at image b) → Whole b (leaf_numbers (leaf_items image b))
whole_leaf image b leaf =
    whole_by b (leaf_numbers (leaf_items image b)) (some_items b (block_at image b) (count (block_at image b)) leaf refl) (all_leaf b (block_at image b) 0 (count (block_at image b)))

-- numbers of one leaf, and then others
skipped : (k : ℕ) (ns rest : List ℕ) → Each (λ n. n ≡ k) ns → dedup_from nat_eq k (ns ++ rest) ≡ dedup_from nat_eq k rest
skipped k [] rest h = refl
skipped k (n ∷ ns) rest h =
    let same : nat_eq n k ≡ true = grind (arith, nat_tests, h.0) in
    ap (λ (t : Bool). if t then dedup_from nat_eq k (ns ++ rest) else k ∷ dedup_from nat_eq n (ns ++ rest)) same ∙ skipped k ns rest h.1

other_run : (k b : ℕ) (rest : List ℕ) → k ≢ b → dedup_from nat_eq k (b ∷ rest) ≡ k ∷ dedup_from nat_eq b rest
other_run k b rest differ = by (nat_eq b k) refl
  where
    by : (t : Bool) → nat_eq b k ≡ t → (if t then dedup_from nat_eq k rest else k ∷ dedup_from nat_eq b rest) ≡ k ∷ dedup_from nat_eq b rest
    by true e = absurd (differ (sym (eqb-true b k e)))
    by false e = refl

module _ (image : Image) where
  numbers_next : (b : ℕ) (bs : List ℕ) → leaf_numbers (flat_map (leaf_items image) (b ∷ bs)) ≡ leaf_numbers (leaf_items image b) ++ leaf_numbers (flat_map (leaf_items image) bs)
  numbers_next b bs = map-append (λ (x : ReiserItem). x.leaf) (leaf_items image b) (flat_map (leaf_items image) bs)

  runs_from : (k : ℕ) (bs : List ℕ) → Each (λ b. IsLeaf (block_at image b)) bs → Distinct (k ∷ bs) → dedup_from nat_eq k (leaf_numbers (flat_map (leaf_items image) bs)) ≡ k ∷ bs
  runs_from k [] leaves distinct = refl
  runs_from k (b ∷ bs) leaves distinct =
      let w = whole_leaf image b leaves.0 in
      ap (dedup_from nat_eq k) (numbers_next b bs ∙ ap (λ (ns : List ℕ). ns ++ leaf_numbers (flat_map (leaf_items image) bs)) w.is)
      ∙ (other_run k b (w.rest ++ leaf_numbers (flat_map (leaf_items image) bs)) distinct.0.0
      ∙ ap (λ (ns : List ℕ). k ∷ ns) (skipped b w.rest (leaf_numbers (flat_map (leaf_items image) bs)) w.all ∙ runs_from b bs leaves.1 distinct.1))

  -- the leaves of the items of leaves
  pub leaves_are : (bs : List ℕ) → Each (λ b. IsLeaf (block_at image b)) bs → Distinct bs → leaves_of (flat_map (leaf_items image) bs) ≡ bs
  leaves_are [] leaves distinct = refl
  leaves_are (b ∷ bs) leaves distinct =
      let w = whole_leaf image b leaves.0 in
      ap without_repeats (numbers_next b bs ∙ ap (λ (ns : List ℕ). ns ++ leaf_numbers (flat_map (leaf_items image) bs)) w.is)
      ∙ (skipped b w.rest (leaf_numbers (flat_map (leaf_items image) bs)) w.all ∙ runs_from b bs leaves.1 distinct)

-- a list in two ways in two parts
split_two : (xs ys us vs : List ReiserItem) → xs ++ ys ≡ us ++ vs → ((ws : List ReiserItem) × (us ≡ xs ++ ws)) ⊎ ((w : ReiserItem) × (ws : List ReiserItem) × (us' : List ReiserItem) × (xs ≡ us ++ (w ∷ ws)) × (vs ≡ w ∷ us'))
split_two [] ys us vs h = inl (us, refl)
split_two (x ∷ xs) ys [] vs h = inr (x, xs, xs ++ ys, refl, sym h)
split_two (x ∷ xs) ys (u ∷ us) vs h =
    let first : x ≡ u = cc in
    let others : xs ++ ys ≡ us ++ vs = cc in
    ⊎_elim (λ p. inl (p.0, rw first (ap (λ (z : List ReiserItem). u ∷ z) p.1))) (λ p. inr (p.0, p.1, p.2, rw first (ap (λ (z : List ReiserItem). u ∷ z) p.3), p.4)) (split_two xs ys us vs others)

-- more numbers, and no fewer runs
some_kept : (k : ℕ) (ns : List ℕ) → 1 ≤ length (dedup_from nat_eq k ns)
some_kept k [] = omega arith
some_kept k (n ∷ ns) = by (nat_eq n k) (some_kept k ns)
  where
    by : (t : Bool) → 1 ≤ length (dedup_from nat_eq k ns) → 1 ≤ length (if t then dedup_from nat_eq k ns else k ∷ dedup_from nat_eq n ns)
    by true h = h
    by false h = omega arith

more_from : (k : ℕ) (ns ms : List ℕ) → length (dedup_from nat_eq k ns) ≤ length (dedup_from nat_eq k (ns ++ ms))
more_from k [] ms = some_kept k ms
more_from k (n ∷ ns) ms = by (nat_eq n k) (more_from k ns ms) (more_from n ns ms)
  where
    by : (t : Bool) → length (dedup_from nat_eq k ns) ≤ length (dedup_from nat_eq k (ns ++ ms)) → length (dedup_from nat_eq n ns) ≤ length (dedup_from nat_eq n (ns ++ ms))
        → length (if t then dedup_from nat_eq k ns else k ∷ dedup_from nat_eq n ns) ≤ length (if t then dedup_from nat_eq k (ns ++ ms) else k ∷ dedup_from nat_eq n (ns ++ ms))
    by true here other = here
    by false here other = omega (arith, other)

more_runs : (xs ys : List ReiserItem) → length (leaves_of xs) ≤ length (leaves_of (xs ++ ys))
more_runs [] ys = omega arith
more_runs (x ∷ xs) ys =
    subst (λ (ns : List ℕ). length (dedup_from nat_eq x.leaf (leaf_numbers xs)) ≤ length (dedup_from nat_eq x.leaf ns)) (sym (map-append (λ (i : ReiserItem). i.leaf) xs ys)) (more_from x.leaf (leaf_numbers xs) (leaf_numbers ys))

-- the first part of leaves
each_take : (P : ℕ → Type 0) (n : ℕ) (bs : List ℕ) → Each P bs → Each P (take n bs)
each_take P zero bs h = tt
each_take P (suc n) [] h = tt
each_take P (suc n) (b ∷ bs) h = (h.0, each_take P n bs h.1)

distinct_take : (n : ℕ) (bs : List ℕ) → Distinct bs → Distinct (take n bs)
distinct_take zero bs h = tt
distinct_take (suc n) [] h = tt
distinct_take (suc n) (b ∷ bs) h = (each_take (λ c. b ≢ c) n bs h.0, distinct_take n bs h.1)

few_taken : (n : ℕ) (bs : List ℕ) → length (take n bs) ≤ n
few_taken zero bs = omega arith
few_taken (suc n) [] = omega arith
few_taken (suc n) (b ∷ bs) = omega (arith, few_taken n bs)

taken_dropped : (n : ℕ) (bs : List ℕ) → take n bs ++ drop n bs ≡ bs
taken_dropped zero bs = refl
taken_dropped (suc n) [] = refl
taken_dropped (suc n) (b ∷ bs) = ap (λ (z : List ℕ). b ∷ z) (taken_dropped n bs)

none_left : (xs ys : List ReiserItem) → xs ++ ys ≡ [] → xs ≡ []
none_left [] ys h = refl
none_left (x ∷ xs) ys h = absurd cc

-- the items of the object from its first leaf on are all its items
pub from_first : (image : Image) (bs : List ℕ) (key : ObjectKey) (items : List ReiserItem) (place : ℕ) → Each (λ b. IsLeaf (block_at image b)) bs → Distinct bs
    → items ≡ flat_map (leaf_items image) bs → IsFirstLeaf key items place → items_of key (flat_map (leaf_items image) (drop place bs)) ≡ items_of key items
from_first image bs key items place leaves distinct is first =
    let pre : List ReiserItem = flat_map (leaf_items image) (take place bs) in
    let suf : List ReiserItem = flat_map (leaf_items image) (drop place bs) in
    let parts : items ≡ pre ++ suf = is ∙ (ap (flat_map (leaf_items image)) (sym (taken_dropped place bs)) ∙ flat_map-append (leaf_items image) (take place bs) (drop place bs)) in
    let few : length (leaves_of pre) ≤ place =
    subst (λ (ns : List ℕ). length ns ≤ place) (sym (leaves_are image (take place bs) (each_take (λ b. IsLeaf (block_at image b)) place bs leaves) (distinct_take place bs distinct))) (few_taken place bs) in
    let none : items_of key pre ≡ [] =
    ⊎_elim
    (λ p. none_left (items_of key pre) (items_of key p.0) (sym (filter-append (λ x. same_key (object_key_of x.head) key) pre p.0) ∙ (sym (ap (items_of key) p.1) ∙ first.none_before)))
    (λ p.
    let same : first.first ≡ p.0 = cc in
    let split : pre ≡ (first.before ++ first.first ∷ []) ++ p.1 = p.3 ∙ (ap (λ (w : ReiserItem). first.before ++ (w ∷ p.1)) (sym same) ∙ sym (append_assoc first.before (first.first ∷ []) p.1)) in
    let more : length (leaves_of (first.before ++ first.first ∷ [])) ≤ length (leaves_of pre) =
    subst (λ (xs : List ReiserItem). length (leaves_of (first.before ++ first.first ∷ [])) ≤ length (leaves_of xs)) (sym split) (more_runs (first.before ++ first.first ∷ []) p.1) in
    absurd (omega (arith, more, few, first.here)))
    (split_two pre suf first.before (first.first ∷ first.after) (sym parts ∙ first.split)) in
    sym (ap (items_of key) parts ∙ (filter-append (λ x. same_key (object_key_of x.head) key) pre suf ∙ ap (λ (z : List ReiserItem). z ++ items_of key suf) none))
