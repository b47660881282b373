-- How often a walk of the tree reaches a block: as often as it visits it, and as items name it.
use Rattle.reiser_volume.proofs.Imports.{◌≡◌, ◌≢◌, ℕ, zero, suc, ◌+◌, ◌<◌, ◌≤◌, ◌==◌, Bool, true, false, cond, ◌&&◌, not, nat_lt, List, [], ◌∷◌, ◌++◌, map, length, get_or, filter, sum_by, count_by, Contains, Option, Some, None, if◌then◌else◌, refl, ap, ◌∙◌, arith, eqb-true, and_parts, and_from, ne_eqb, sum_by-cons, sum_by-append, get_or-le-sum_by, Image, block_at, count_cons, count_append, count_filter, count_same, both_ways, at_head, in_tail, ItemKind, Indirect, count, is_leaf, pointers, BlockPointer, is_save_link, ReiserItem, Event, node, pointer, is_indirect, is_no_hole, held_by, blocks_named, item_at, events_of, leaf_events, Visit, at_children, node_events, visits_in, items_of_events, reached_in, at_each}
use Rattle.reiser_volume_objects.specs.reiser_node.Inner.{is_inner, pointer_count}
use Rattle.reiser_volume_objects.proofs.reiser_walk.Events.{visits_in-append, items_in-append, reached_in-append}

-- an element that passes, where one is counted
pub count_some : {X : Type 0} (p : X → Bool) (xs : List X) → 1 ≤ count_by p xs → (x : X) × Contains xs x × (p x ≡ true)
count_some p [] some = absurd (omega arith)
count_some {X} p (x ∷ xs) some = by (count_some p xs) (p x) refl
  where
    by : (1 ≤ count_by p xs → (y : X) × Contains xs y × (p y ≡ true)) → (b : Bool) → p x ≡ b → (y : X) × Contains (x ∷ xs) y × (p y ≡ true)
    by later true is = (x, at_head x xs, is)
    by later false is =
        let head : count_by p (x ∷ xs) ≡ cond (p x) 1 0 + count_by p xs = count_cons p x xs in
        let none : ◌≡◌ {A = ℕ} (cond (p x) 1 0) 0 = ap (λ (b : Bool). cond b 1 0) is in
        let rest = later (omega (arith, some, head, none)) in
        (rest.0, in_tail x xs rest.0 rest.1, rest.2)

-- an element that passes is counted
pub counted : {X : Type 0} (p : X → Bool) (xs : List X) (x : X) → Contains xs x → p x ≡ true → 1 ≤ count_by p xs
counted p xs x among passes =
    let part : cond (p (get_or xs among.0 x)) 1 0 ≤ count_by p xs = get_or-le-sum_by (λ y. cond (p y) 1 0) xs among.0 x among.1 in
    let own : ◌≡◌ {A = ℕ} (cond (p (get_or xs among.0 x)) 1 0) 1 = ap (λ y. cond (p y) 1 0) among.2 ∙ ap (λ (b : Bool). cond b 1 0) passes in
    omega (arith, part, own)

-- two elements are no more than all
pub sum_two : {X : Type 0} (f : X → ℕ) (xs : List X) (i j : ℕ) (d : X) → i < j → j < length xs → f (get_or xs i d) + f (get_or xs j d) ≤ sum_by f xs
sum_two f [] i j d below within = absurd (omega arith)
sum_two f (x ∷ xs) i zero d below within = absurd (omega arith)
sum_two f (x ∷ xs) zero (suc j) d below within =
    let head : sum_by f (x ∷ xs) ≡ f x + sum_by f xs = sum_by-cons f x xs in
    let part : f (get_or xs j d) ≤ sum_by f xs = get_or-le-sum_by f xs j d (omega arith) in
    omega (arith, head, part)
sum_two f (x ∷ xs) (suc i) (suc j) d below within =
    let head : sum_by f (x ∷ xs) ≡ f x + sum_by f xs = sum_by-cons f x xs in
    let rest : f (get_or xs i d) + f (get_or xs j d) ≤ sum_by f xs = sum_two f xs i j d (omega arith) (omega arith) in
    omega (arith, head, rest)

module _ (b : ℕ) where
  abbrev pub leads_there : BlockPointer → Bool
  leads_there p = p.block == b

  abbrev pub visits_there : Visit → Bool
  visits_there v = v.to.block == b

  abbrev pub names_there : ReiserItem → ℕ
  names_there i = count_by (λ c. c == b) (blocks_named i.head i.body)

  abbrev pub Counted : List Event → Type 0
  Counted events = count_by leads_there (reached_in events) ≡ count_by visits_there (visits_in events) + sum_by names_there (items_of_events events)

  counted_both : (xs ys : List Event) → Counted xs → Counted ys → Counted (xs ++ ys)
  counted_both xs ys one two =
      let r : count_by leads_there (reached_in (xs ++ ys)) ≡ count_by leads_there (reached_in xs) + count_by leads_there (reached_in ys) = ap (count_by leads_there) (reached_in-append xs ys) ∙ count_append leads_there (reached_in xs) (reached_in ys) in
      let v : count_by visits_there (visits_in (xs ++ ys)) ≡ count_by visits_there (visits_in xs) + count_by visits_there (visits_in ys) = ap (count_by visits_there) (visits_in-append xs ys) ∙ count_append visits_there (visits_in xs) (visits_in ys) in
      let s : sum_by names_there (items_of_events (xs ++ ys)) ≡ sum_by names_there (items_of_events xs) + sum_by names_there (items_of_events ys) = ap (sum_by names_there) (items_in-append xs ys) ∙ sum_by-append names_there (items_of_events xs) (items_of_events ys) in
      omega (arith, r, v, s, one, two)

  counted_node : (p : BlockPointer) (level : ℕ) (events : List Event) → Counted events → Counted (node p level ∷ events)
  counted_node p level events rest =
      let v : Visit = record { to = p; level = level } in
      let r : count_by leads_there (p ∷ reached_in events) ≡ cond (p.block == b) 1 0 + count_by leads_there (reached_in events) = count_cons leads_there p (reached_in events) in
      let s : count_by visits_there (v ∷ visits_in events) ≡ cond (p.block == b) 1 0 + count_by visits_there (visits_in events) = count_cons visits_there v (visits_in events) in
      omega (arith, r, s, rest)

  no_items : (ps : List BlockPointer) → items_of_events (map pointer ps) ≡ []
  no_items [] = refl
  no_items (p ∷ ps) = no_items ps

  no_visits : (ps : List BlockPointer) → visits_in (map pointer ps) ≡ []
  no_visits [] = refl
  no_visits (p ∷ ps) = no_visits ps

  counted_pointers : (leaf : ℕ) (bs : List ℕ) → count_by leads_there (reached_in (map pointer (held_by leaf bs))) ≡ count_by (λ c. c == b) bs
  counted_pointers leaf [] = refl
  counted_pointers leaf (c ∷ bs) =
      let p : BlockPointer = record { block = c; holder = leaf } in
      let r : count_by leads_there (p ∷ reached_in (map pointer (held_by leaf bs))) ≡ cond (c == b) 1 0 + count_by leads_there (reached_in (map pointer (held_by leaf bs))) = count_cons leads_there p (reached_in (map pointer (held_by leaf bs))) in
      let s : count_by (λ c. c == b) (c ∷ bs) ≡ cond (c == b) 1 0 + count_by (λ c. c == b) bs = count_cons (λ c. c == b) c bs in
      let rest = counted_pointers leaf bs in
      omega (arith, r, s, rest)

  counted_one : (o : Option ReiserItem) → Counted (events_of o)
  counted_one None = omega arith
  counted_one (Some i) =
      let bs : List ℕ = blocks_named i.head i.body in
      let r = counted_pointers i.leaf bs in
      let v : count_by visits_there (visits_in (map pointer (held_by i.leaf bs))) ≡ 0 = ap (count_by visits_there) (no_visits (held_by i.leaf bs)) in
      let s : sum_by names_there (i ∷ items_of_events (map pointer (held_by i.leaf bs))) ≡ names_there i + sum_by names_there (items_of_events (map pointer (held_by i.leaf bs))) = sum_by-cons names_there i (items_of_events (map pointer (held_by i.leaf bs))) in
      let none : sum_by names_there (items_of_events (map pointer (held_by i.leaf bs))) ≡ 0 = ap (sum_by names_there) (no_items (held_by i.leaf bs)) in
      omega (arith, r, v, s, none)

  counted_leaf : (leaf : ℕ) (bytes : List ℕ) (i k : ℕ) → Counted (leaf_events leaf bytes i k)
  counted_leaf leaf bytes i zero = omega arith
  counted_leaf leaf bytes i (suc k) = counted_both (events_of (item_at leaf bytes i)) (leaf_events leaf bytes (suc i) k) (counted_one (item_at leaf bytes i)) (counted_leaf leaf bytes (suc i) k)

  -- below a node each block is reached as often as it is visited and as items name it
  pub counted_inside : (image : Image) (n level holder at : ℕ) → Counted (node_events image n level holder at)
  unfolding node_events
  counted_inside image n zero holder at = counted_node (record { block = at; holder = holder }) zero [] (omega arith)
  counted_inside image n (suc zero) holder at = counted_node (record { block = at; holder = holder }) (suc zero) (if nat_lt at n && is_leaf (block_at image at) then leaf_events at (block_at image at) 0 (count (block_at image at)) else []) (by (nat_lt at n && is_leaf (block_at image at)))
    where
      by : (t : Bool) → Counted (if t then leaf_events at (block_at image at) 0 (count (block_at image at)) else [])
      by true = counted_leaf at (block_at image at) 0 (count (block_at image at))
      by false = omega arith
  counted_inside image n (suc (suc level)) holder at =
      counted_node (record { block = at; holder = holder }) (suc (suc level))
      (if nat_lt at n && is_inner (suc (suc level)) (block_at image at) then at_children (node_events image n (suc level) at) (block_at image at) 0 (pointer_count (block_at image at)) else [])
      (by (λ c. counted_inside image n (suc level) at c) (nat_lt at n && is_inner (suc (suc level)) (block_at image at)))
    where
      by : ((c : ℕ) → Counted (node_events image n (suc level) at c)) → (t : Bool) → Counted (if t then at_children (node_events image n (suc level) at) (block_at image at) 0 (pointer_count (block_at image at)) else [])
      by below true = at_each Counted (omega arith) counted_both (node_events image n (suc level) at) below (block_at image at) 0 (pointer_count (block_at image at))
      by below false = omega arith

  -- how often an item names a block that is no hole: as its pointers do
  pub named_as_pointers : (i : ReiserItem) → i.head.kind ≡ Indirect → is_save_link i.head ≡ false → b ≢ 0 → names_there i ≡ count_by (λ c. c == b) (pointers i.body)
  named_as_pointers i kind own some =
      let test : (is_indirect i.head.kind && not (is_save_link i.head)) ≡ true = ap (λ (k : ItemKind). is_indirect k && not (is_save_link i.head)) kind ∙ ap not own in
      ap (λ (t : Bool). count_by (λ c. c == b) (if t then filter is_no_hole (pointers i.body) else [])) test
      ∙ (count_filter (λ c. c == b) is_no_hole (pointers i.body)
      ∙ count_same (λ c. is_no_hole c && (c == b)) (λ c. c == b) (pointers i.body) (λ c. both_ways (is_no_hole c && (c == b)) (c == b) (λ h. (and_parts (is_no_hole c) (c == b) h).1)
      (λ h. and_from (is_no_hole c) (c == b) (ap is_no_hole (eqb-true c b h) ∙ ap not (ne_eqb b 0 some)) h)))
