-- The items of a tree are those of its leaves, one after the other.
use Rattle.reiser_volume_contents.proofs.Imports.{◌≡◌, ◌≢◌, ◌<◌, ℕ, zero, suc, Bool, true, false, ◌&&◌, nat_lt, List, [], ◌∷◌, ◌++◌, map, Option, Some, None, if◌then◌else◌, refl, sym, ◌∙◌, ap, append_assoc, ⊎_elim, arith, flat_map, nat_tests, append-nil, flat_map-append, Image, block_at, IsLeaf, count, is_leaf, is_inner, pointer_count, child_block_at, leaf_decides, BlockPointer, ReiserItem, Event, node, item, pointer, held_by, blocks_named, item_at, events_of, leaf_events, IsNode, at_children, node_events, visits_in, items_of_events, reached_in, items_in-append, Each, Pairs, listed, items_from, leaf_items}

-- what holds of each child holds of what lies below all of them
module _ (Q : List Event → Type 0) (none : Q []) (both : (xs ys : List Event) → Q xs → Q ys → Q (xs ++ ys)) where
  pub at_each : (f : ℕ → List Event) → ((c : ℕ) → Q (f c)) → (bytes : List ℕ) (i k : ℕ) → Q (at_children f bytes i k)
  at_each f h bytes i zero = none
  at_each f h bytes i (suc k) = both (f (child_block_at bytes i)) (at_children f bytes (suc i) k) (h (child_block_at bytes i)) (at_each f h bytes (suc i) k)

-- the block of a node, if it is a leaf by its level
abbrev leaf_at : ℕ → ℕ → List ℕ
leaf_at zero b = []
leaf_at (suc zero) b = b ∷ []
leaf_at (suc (suc level)) b = []

-- the leaves that a walk meets
abbrev pub leaf_blocks : List Event → List ℕ
leaf_blocks [] = []
leaf_blocks (node p level ∷ events) = leaf_at level p.block ++ leaf_blocks events
leaf_blocks (item i ∷ events) = leaf_blocks events
leaf_blocks (pointer p ∷ events) = leaf_blocks events

leaf_blocks-append : (xs ys : List Event) → leaf_blocks (xs ++ ys) ≡ leaf_blocks xs ++ leaf_blocks ys
leaf_blocks-append [] ys = refl
leaf_blocks-append (node p level ∷ xs) ys = ap (λ (z : List ℕ). leaf_at level p.block ++ z) (leaf_blocks-append xs ys) ∙ sym (append_assoc (leaf_at level p.block) (leaf_blocks xs) (leaf_blocks ys))
leaf_blocks-append (item i ∷ xs) ys = leaf_blocks-append xs ys
leaf_blocks-append (pointer p ∷ xs) ys = leaf_blocks-append xs ys

items_in_pointers : (ps : List BlockPointer) → items_of_events (map pointer ps) ≡ []
items_in_pointers [] = refl
items_in_pointers (p ∷ ps) = items_in_pointers ps

leaves_in_pointers : (ps : List BlockPointer) → leaf_blocks (map pointer ps) ≡ []
leaves_in_pointers [] = refl
leaves_in_pointers (p ∷ ps) = leaves_in_pointers ps

items_in_one : (o : Option ReiserItem) → items_of_events (events_of o) ≡ listed o
items_in_one None = refl
items_in_one (Some i) = ap (λ (z : List ReiserItem). i ∷ z) (items_in_pointers (held_by i.leaf (blocks_named i.head i.body)))

leaves_in_one : (o : Option ReiserItem) → leaf_blocks (events_of o) ≡ []
leaves_in_one None = refl
leaves_in_one (Some i) = leaves_in_pointers (held_by i.leaf (blocks_named i.head i.body))

items_in_leaf : (b : ℕ) (bytes : List ℕ) (i k : ℕ) → items_of_events (leaf_events b bytes i k) ≡ items_from b bytes i k
items_in_leaf b bytes i zero = refl
items_in_leaf b bytes i (suc k) =
    items_in-append (events_of (item_at b bytes i)) (leaf_events b bytes (suc i) k)
    ∙ (ap (λ (z : List ReiserItem). z ++ items_of_events (leaf_events b bytes (suc i) k)) (items_in_one (item_at b bytes i))
    ∙ ap (λ (z : List ReiserItem). listed (item_at b bytes i) ++ z) (items_in_leaf b bytes (suc i) k))

leaves_in_leaf : (b : ℕ) (bytes : List ℕ) (i k : ℕ) → leaf_blocks (leaf_events b bytes i k) ≡ []
leaves_in_leaf b bytes i zero = refl
leaves_in_leaf b bytes i (suc k) =
    leaf_blocks-append (events_of (item_at b bytes i)) (leaf_events b bytes (suc i) k)
    ∙ (ap (λ (z : List ℕ). z ++ leaf_blocks (leaf_events b bytes (suc i) k)) (leaves_in_one (item_at b bytes i)) ∙ leaves_in_leaf b bytes (suc i) k)

module _ (image : Image) (n : ℕ) where
  -- the items of a block that is met as a leaf
  abbrev opened : ℕ → List ReiserItem
  opened b = if nat_lt b n && is_leaf (block_at image b) then leaf_items image b else []

  abbrev ByLeaves : List Event → Type 0
  ByLeaves events = items_of_events events ≡ flat_map opened (leaf_blocks events)

  by_both : (xs ys : List Event) → ByLeaves xs → ByLeaves ys → ByLeaves (xs ++ ys)
  by_both xs ys a b =
      items_in-append xs ys
      ∙ (ap (λ (z : List ReiserItem). z ++ items_of_events ys) a
      ∙ (ap (λ (z : List ReiserItem). flat_map opened (leaf_blocks xs) ++ z) b
      ∙ sym (ap (flat_map opened) (leaf_blocks-append xs ys) ∙ flat_map-append opened (leaf_blocks xs) (leaf_blocks ys))))

  leaf_by : (b : ℕ) (t : Bool) → (nat_lt b n && is_leaf (block_at image b)) ≡ t
      → items_of_events (if t then leaf_events b (block_at image b) 0 (count (block_at image b)) else [])
      ≡ opened b ++ flat_map opened (leaf_blocks (if t then leaf_events b (block_at image b) 0 (count (block_at image b)) else []))
  leaf_by b true e =
      items_in_leaf b (block_at image b) 0 (count (block_at image b))
      ∙ sym (ap (λ (z : List ℕ). opened b ++ flat_map opened z) (leaves_in_leaf b (block_at image b) 0 (count (block_at image b)))
      ∙ (append-nil (opened b) ∙ ap (λ (t : Bool). if t then leaf_items image b else []) e))
  leaf_by b false e = sym (append-nil (opened b) ∙ ap (λ (t : Bool). if t then leaf_items image b else []) e)

  by_leaves : (level holder b : ℕ) → ByLeaves (node_events image n level holder b)
  unfolding node_events
  by_leaves zero holder b = refl
  by_leaves (suc zero) holder b = leaf_by b (nat_lt b n && is_leaf (block_at image b)) refl
  by_leaves (suc (suc level)) holder b = by (λ c. by_leaves (suc level) b c) (nat_lt b n && is_inner (suc (suc level)) (block_at image b))
    where
      by : ((c : ℕ) → ByLeaves (node_events image n (suc level) b c)) → (t : Bool) → ByLeaves (if t then at_children (node_events image n (suc level) b) (block_at image b) 0 (pointer_count (block_at image b)) else [])
      by below true = at_each ByLeaves refl by_both (node_events image n (suc level) b) below (block_at image b) 0 (pointer_count (block_at image b))
      by below false = refl

  opened_leaf : (b : ℕ) → b < n → IsLeaf (block_at image b) → opened b ≡ leaf_items image b
  opened_leaf b within leaf =
      let first : nat_lt b n ≡ true = grind (arith, nat_tests, within) in
      let second : is_leaf (block_at image b) ≡ true = (leaf_decides (block_at image b)).1 leaf in
      rw (first, second) refl

  all_opened : (bs : List ℕ) → Each (λ b. b < n) bs → Each (λ b. IsLeaf (block_at image b)) bs → flat_map opened bs ≡ flat_map (leaf_items image) bs
  all_opened [] within leaves = refl
  all_opened (b ∷ bs) within leaves =
      ap (λ (z : List ReiserItem). z ++ flat_map opened bs) (opened_leaf b within.0 leaves.0) ∙ ap (λ (z : List ReiserItem). leaf_items image b ++ z) (all_opened bs within.1 leaves.1)

-- what holds of each block that is reached holds of each leaf
pub each_leaf : (P : ℕ → Type 0) (events : List Event) → Each (λ p. P p.block) (reached_in events) → Each P (leaf_blocks events)
each_leaf P [] h = tt
each_leaf P (node p zero ∷ events) h = each_leaf P events h.1
each_leaf P (node p (suc zero) ∷ events) h = (h.0, each_leaf P events h.1)
each_leaf P (node p (suc (suc level)) ∷ events) h = each_leaf P events h.1
each_leaf P (item i ∷ events) h = each_leaf P events h
each_leaf P (pointer p ∷ events) h = each_leaf P events h.1

abbrev pub Distinct : List ℕ → Type 0
Distinct bs = Pairs (λ (a b : ℕ). a ≢ b) bs

pub leaves_distinct : (events : List Event) → Pairs (λ (p q : BlockPointer). p.block ≢ q.block) (reached_in events) → Distinct (leaf_blocks events)
leaves_distinct [] h = tt
leaves_distinct (node p zero ∷ events) h = leaves_distinct events h.1
leaves_distinct (node p (suc zero) ∷ events) h = (each_leaf (λ b. p.block ≢ b) events h.0, leaves_distinct events h.1)
leaves_distinct (node p (suc (suc level)) ∷ events) h = leaves_distinct events h.1
leaves_distinct (item i ∷ events) h = leaves_distinct events h
leaves_distinct (pointer p ∷ events) h = leaves_distinct events h.1

pub each_is_leaf : (image : Image) (events : List Event) → Each (λ v. IsNode v.level (block_at image v.to.block)) (visits_in events) → Each (λ b. IsLeaf (block_at image b)) (leaf_blocks events)
each_is_leaf image [] h = tt
each_is_leaf image (node p zero ∷ events) h = each_is_leaf image events h.1
each_is_leaf image (node p (suc zero) ∷ events) h = (⊎_elim (λ leaf. leaf.1) (λ inner. absurd (inner.0 refl)) h.0, each_is_leaf image events h.1)
each_is_leaf image (node p (suc (suc level)) ∷ events) h = each_is_leaf image events h.1
each_is_leaf image (item i ∷ events) h = each_is_leaf image events h
each_is_leaf image (pointer p ∷ events) h = each_is_leaf image events h

-- the items of what lies below a node, where each node is on its grammar
pub items_by_leaves : (image : Image) (n level holder b : ℕ)
    → Each (λ c. c < n) (leaf_blocks (node_events image n level holder b)) → Each (λ c. IsLeaf (block_at image c)) (leaf_blocks (node_events image n level holder b))
    → items_of_events (node_events image n level holder b) ≡ flat_map (leaf_items image) (leaf_blocks (node_events image n level holder b))
items_by_leaves image n level holder b within leaves = by_leaves image n level holder b ∙ all_opened image n (leaf_blocks (node_events image n level holder b)) within leaves
