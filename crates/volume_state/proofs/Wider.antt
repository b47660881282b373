-- A tree by a map that begins with another, where its nodes lie by the beginning. The chunk tree of an opened volume is met by its whole
-- map as by the chunks in the superblock.
use Rattle.volume_state.proofs.Imports.{◌≡◌, ⊎_elim, inl, inr, ℕ, zero, suc, ◌+◌, ◌-◌, ◌*◌, ◌/◌, ◌%◌, ◌<◌, eqb, Bool, true, false, ◌&&◌, List, [], ◌∷◌, ◌++◌, Contains, Option, Some, None, is_some, refl, sym, ◌∙◌, ap, subst, arith, append_assoc, true≢false, if◌then◌else◌, option_map, and_parts, nat_tests, append-nil, All-cons, All-head, All-nil, All-tail, Image, BtrRefusal, none_left, none_right, AreInBlocks, IsInBlocks, chunk_in, range_of, with_chunk, with_items, ChunkAt, TreeEvent, TreeItem, items_in_events, leaf_events, may_be_bare, node, node_events, nodes_in, unless_damaged, are_mapped, block_of_place, blocks_at, holds, is_mapped, node_at, place, second_place, at_address, order_damages, pointer_damages, met, met_faults, wrong, MapRange, NodePointer, Tree, holds_bounds, mapped_at, HoldsNodeOf}
use Rattle.std.specs.List.{All, flat_map}
use Rattle.reiser_bitmap.specs.refusals.declared.rule.BtrRule.{BtrRule}
use Rattle.reiser_bitmap.specs.refusals.declared.rule.BtrRule.TheVariants.{Unmapped}
use Rattle.btr_node.specs.Inner.{children_in}
use Rattle.btr_node.specs.Leaf.{items_in}
use Rattle.btr_node.specs.declared.child.Child.{Child}
use Rattle.btr_reader_walk.proofs.Events.{nodes_in-append}
use Rattle.btr_reader_walk.proofs.Walking.{breaks, mapped_breaks, unmapped_breaks}
use Rattle.btr_node.specs.NodeSize.{IsNodeSize}
use Rattle.btr_reader_walk.proofs.Subtrees.{to}
use Rattle.volume_state.proofs.Lying.{held_so}
use Rattle.volume_state.proofs.Placed.{no_some}

none_broken : (address : ℕ) (rules : List BtrRule) → at_address address rules ≡ [] → rules ≡ []
none_broken address [] is = refl
none_broken address (rule ∷ rules) is = absurd (cc is)

-- ---- places
place_first : (early late : List MapRange) (a p : ℕ) → place early a ≡ Some p → place (early ++ late) a ≡ Some p
place_first [] late a p is = absurd (no_some p is)
place_first (r ∷ early) late a p is = one (holds r a) (place_first early late a p) is
  where
    one : (t : Bool) → (place early a ≡ Some p → place (early ++ late) a ≡ Some p)
        → (if t then Some (r.physical + (a - r.logical)) else place early a) ≡ Some p → (if t then Some (r.physical + (a - r.logical)) else place (early ++ late) a) ≡ Some p
    one true rest there = there
    one false rest there = rest there

-- the same of second copies
second_first : (early late : List MapRange) (a p : ℕ) → second_place early a ≡ Some p → second_place (early ++ late) a ≡ Some p
second_first [] late a p is = absurd (no_some p is)
second_first (r ∷ early) late a p is = one (holds r a) (second_first early late a p) is
  where
    one : (t : Bool) → (second_place early a ≡ Some p → second_place (early ++ late) a ≡ Some p)
        → (if t then option_map (λ at. at + (a - r.logical)) r.mirror else second_place early a) ≡ Some p → (if t then option_map (λ at. at + (a - r.logical)) r.mirror else second_place (early ++ late) a) ≡ Some p
    one true rest there = there
    one false rest there = rest there

-- where an address has a place, its range is one of the first
second_same : (early late : List MapRange) (a : ℕ) → is_some (place early a) ≡ true → second_place (early ++ late) a ≡ second_place early a
second_same [] late a some = absurd (true≢false (sym some))
second_same (r ∷ early) late a some = one (holds r a) (second_same early late a) some
  where
    one : (t : Bool) → (is_some (place early a) ≡ true → second_place (early ++ late) a ≡ second_place early a) → is_some (if t then Some (r.physical + (a - r.logical)) else place early a) ≡ true
        → (if t then option_map (λ at. at + (a - r.logical)) r.mirror else second_place (early ++ late) a) ≡ (if t then option_map (λ at. at + (a - r.logical)) r.mirror else second_place early a)
    one true rest there = refl
    one false rest there = rest there

some_of : (o : Option ℕ) → is_some o ≡ true → (p : ℕ) × (o ≡ Some p)
some_of None some = absurd (true≢false (sym some))
some_of (Some p) some = (p, refl)

some_or : (t : Bool) (x : ℕ) (o : Option ℕ) → is_some o ≡ true → is_some (if t then Some x else o) ≡ true
some_or true x o some = refl
some_or false x o some = some

-- where a block has a place each of its bytes has one
some_byte : (ranges : List MapRange) (a j : ℕ) → AreInBlocks ranges → a % 4096 ≡ 0 → j < 4096 → is_some (place ranges a) ≡ true → is_some (place ranges (a + j)) ≡ true
some_byte [] a j all at low some = some
some_byte (r ∷ ranges) a j all at low some = one (holds r a) (some_byte ranges a j (All-tail IsInBlocks r ranges all) at low) refl some
  where
    one : (t : Bool) → (is_some (place ranges a) ≡ true → is_some (place ranges (a + j)) ≡ true) → holds r a ≡ t → is_some (if t then Some (r.physical + (a - r.logical)) else place ranges a) ≡ true → is_some (place (r ∷ ranges) (a + j)) ≡ true
    one true rest held there =
        let whole : IsInBlocks r = All-head IsInBlocks r ranges all in
        let bounds = holds_bounds r a held in
        let same : holds r (a + j) ≡ true = held_so r (a + j) (omega (arith, bounds.0)) (omega (arith, bounds.1, whole.logical, whole.length, at, low)) in
        ap (λ (t : Bool). is_some (if t then Some (r.physical + (a + j - r.logical)) else place ranges (a + j))) same
    one false rest held there = some_or (holds r (a + j)) (r.physical + (a + j - r.logical)) (place ranges (a + j)) (rest there)

-- ---- nodes
mapped_blocks : (ranges : List MapRange) (size a : ℕ) → is_mapped ranges size a ≡ true → (a % 4096 ≡ 0) × (are_mapped ranges (size / 4096) a ≡ true)
unfolding is_mapped
mapped_blocks ranges size a mapped =
    let parts = and_parts (eqb (a % 4096) 0) (are_mapped ranges (size / 4096) a) mapped in
    (grind (arith, nat_tests, parts.0), parts.1)

mapped_again : (ranges : List MapRange) (size a : ℕ) → a % 4096 ≡ 0 → are_mapped ranges (size / 4096) a ≡ true → is_mapped ranges size a ≡ true
unfolding is_mapped
mapped_again ranges size a at mapped =
    let begins : eqb (a % 4096) 0 ≡ true = grind (arith, nat_tests, at) in
    ap (λ (t : Bool). t && are_mapped ranges (size / 4096) a) begins ∙ mapped

flat_map_same : {X Y : Type 0} (P : X → Type 0) (f g : X → List Y) → ((x : X) → P x → g x ≡ f x) → (xs : List X) → All P xs → flat_map g xs ≡ flat_map f xs
flat_map_same P f g each [] all = refl
flat_map_same P f g each (x ∷ xs) all =
    ap (λ z. z ++ flat_map g xs) (each x (All-head P x xs all)) ∙ ap (λ z. f x ++ z) (flat_map_same P f g each xs (All-tail P x xs all))

module _ (image : Image) (early late : List MapRange) where
  abbrev wide : List MapRange
  wide = early ++ late

  place_same : (a : ℕ) → is_some (place early a) ≡ true → place wide a ≡ place early a
  place_same a some = let there = some_of (place early a) some in place_first early late a there.0 there.1 ∙ sym there.1

  mapped_wide : (n a : ℕ) → are_mapped early n a ≡ true → are_mapped wide n a ≡ true
  mapped_wide zero a mapped = refl
  mapped_wide (suc n) a mapped =
      let parts = and_parts (is_some (place early a)) (are_mapped early n (a + 4096)) mapped in
      ap (λ (o : Option ℕ). is_some o && are_mapped wide n (a + 4096)) (place_same a parts.0)
      ∙ (ap (λ (t : Bool). t && are_mapped wide n (a + 4096)) parts.0 ∙ mapped_wide n (a + 4096) parts.1)

  blocks_same : (n a : ℕ) → are_mapped early n a ≡ true → blocks_at image wide n a ≡ blocks_at image early n a
  blocks_same zero a mapped = refl
  blocks_same (suc n) a mapped =
      let parts = and_parts (is_some (place early a)) (are_mapped early n (a + 4096)) mapped in
      ap (λ (o : Option ℕ). block_of_place image o ++ blocks_at image wide n (a + 4096)) (place_same a parts.0)
      ∙ ap (λ (z : List ℕ). block_of_place image (place early a) ++ z) (blocks_same n (a + 4096) parts.1)

  node_same : (size a : ℕ) → is_mapped early size a ≡ true → node_at image wide size a ≡ node_at image early size a
  unfolding node_at
  node_same size a mapped = blocks_same (size / 4096) a (mapped_blocks early size a mapped).1

  -- ---- a tree whose nodes lie by the beginning of the map
  module _ (t : Tree) where
    -- the node does
    abbrev IsIn : NodePointer → Type 0
    IsIn p = is_mapped early t.form.nodesize p.address ≡ true

    breaks_same : (p : NodePointer) → IsIn p → breaks image wide t p ≡ breaks image early t p
    breaks_same p inside =
        let bytes : List ℕ = node_at image early t.form.nodesize p.address in
        let parts = mapped_blocks early t.form.nodesize p.address inside in
        let there : is_mapped wide t.form.nodesize p.address ≡ true = mapped_again wide t.form.nodesize p.address parts.0 (mapped_wide (t.form.nodesize / 4096) p.address parts.1) in
        sym (mapped_breaks image wide t p bytes there (sym (node_same t.form.nodesize p.address inside))) ∙ mapped_breaks image early t p bytes inside refl

    abbrev old : ℕ → ℕ → ℕ → List TreeEvent
    old level a g = node_events image early t.form t.owner (may_be_bare t.root) level a g

    abbrev new : ℕ → ℕ → ℕ → List TreeEvent
    new level a g = node_events image wide t.form t.owner (may_be_bare t.root) level a g

    all_first : (xs ys : List NodePointer) → All IsIn (xs ++ ys) → All IsIn xs
    all_first [] ys all = All-nil IsIn
    all_first (x ∷ xs) ys all = All-cons IsIn x xs (All-head IsIn x (xs ++ ys) all) (all_first xs ys (All-tail IsIn x (xs ++ ys) all))

    all_second : (xs ys : List NodePointer) → All IsIn (xs ++ ys) → All IsIn ys
    all_second [] ys all = all
    all_second (x ∷ xs) ys all = all_second xs ys (All-tail IsIn x (xs ++ ys) all)

    children_same : (f g : Child → List TreeEvent) → ((c : Child) → All IsIn (nodes_in (f c)) → g c ≡ f c) → (children : List Child) → All IsIn (nodes_in (flat_map f children)) → flat_map g children ≡ flat_map f children
    children_same f g each [] all = refl
    children_same f g each (c ∷ cs) all =
        let parts = subst (λ z. All IsIn z) (nodes_in-append (f c) (flat_map f cs)) all in
        ap (λ z. z ++ flat_map g cs) (each c (all_first (nodes_in (f c)) (nodes_in (flat_map f cs)) parts))
        ∙ ap (λ z. f c ++ z) (children_same f g each cs (all_second (nodes_in (f c)) (nodes_in (flat_map f cs)) parts))

    unless_same : (d : List BtrRule) (xs ys : List TreeEvent) → (All IsIn (nodes_in xs) → ys ≡ xs) → All IsIn (nodes_in (unless_damaged d xs)) → unless_damaged d ys ≡ unless_damaged d xs
    unless_same [] xs ys same all = same all
    unless_same (rule ∷ rules) xs ys same all = refl

    events_same : (level a g : ℕ) → All IsIn (nodes_in (old level a g)) → new level a g ≡ old level a g
    unfolding node_events
    events_same zero a g all =
        let p : NodePointer = to a zero g in
        let here = All-head IsIn p _ all in
        ap (λ (d : List BtrRule). node p ∷ unless_damaged d (leaf_events a (items_in (node_at image wide t.form.nodesize a)))) (breaks_same p here)
        ∙ ap (λ (bytes : List ℕ). node p ∷ unless_damaged (breaks image early t p) (leaf_events a (items_in bytes))) (node_same t.form.nodesize a here)
    events_same (suc level) a g all =
        let p : NodePointer = to a (suc level) g in
        let f : Child → List TreeEvent = λ c. old level c.address c.generation in
        let h : Child → List TreeEvent = λ c. new level c.address c.generation in
        let here = All-head IsIn p _ all in
        let children : List Child = children_in (node_at image early t.form.nodesize a) in
        ap (λ (d : List BtrRule). node p ∷ unless_damaged d (flat_map h (children_in (node_at image wide t.form.nodesize a)))) (breaks_same p here)
        ∙ (ap (λ (bytes : List ℕ). node p ∷ unless_damaged (breaks image early t p) (flat_map h (children_in bytes))) (node_same t.form.nodesize a here)
        ∙ ap (λ (z : List TreeEvent). node p ∷ z)
        (unless_same (breaks image early t p) (flat_map f children) (flat_map h children)
        (children_same f h (λ c. events_same level c.address c.generation) children)
        (All-tail IsIn p _ all)))

    -- a node with which nothing is wrong does
    mapped_of : (p : NodePointer) → breaks image early t p ≡ [] → IsIn p
    mapped_of p sound = by (is_mapped early t.form.nodesize p.address) refl
      where
        by : (b : Bool) → is_mapped early t.form.nodesize p.address ≡ b → b ≡ true
        by true is = refl
        by false is = absurd (omega (arith, (subst (λ (rules : List BtrRule). Contains rules Unmapped) sound (unmapped_breaks image early t p is)).1))

    all_in : (ps : List NodePointer) → flat_map (pointer_damages image early t.form t.owner (may_be_bare t.root)) ps ≡ [] → All IsIn ps
    all_in [] sound = All-nil IsIn
    all_in (p ∷ ps) sound =
        let faults : NodePointer → List BtrRefusal = pointer_damages image early t.form t.owner (may_be_bare t.root) in
        All-cons IsIn p ps (mapped_of p (none_broken p.address (breaks image early t p) (none_left (faults p) (flat_map faults ps) sound))) (all_in ps (none_right (faults p) (flat_map faults ps) sound))

    module _ (sound : wrong image early t ≡ []) where
      none_met : met_faults image early t (met image early t) ≡ []
      none_met = none_left (met_faults image early t (met image early t)) (order_damages None (items_in_events (met image early t))) sound

      all_met : All IsIn (nodes_in (met image early t))
      all_met = all_in (nodes_in (met image early t)) none_met

      pub met_wide : met image wide t ≡ met image early t
      met_wide = events_same t.root.level t.root.address t.root.generation all_met

      -- nothing is wrong by the whole map
      pub sound_wide : wrong image wide t ≡ []
      sound_wide =
          let faults : NodePointer → List BtrRefusal = pointer_damages image early t.form t.owner (may_be_bare t.root) in
          let others : NodePointer → List BtrRefusal = pointer_damages image wide t.form t.owner (may_be_bare t.root) in
          ap (λ (events : List TreeEvent). met_faults image wide t events ++ order_damages None (items_in_events events)) met_wide
          ∙ (ap (λ (refusals : List BtrRefusal). refusals ++ order_damages None (items_in_events (met image early t)))
          (flat_map_same IsIn faults others (λ p inside. ap (at_address p.address) (breaks_same p inside)) (nodes_in (met image early t)) all_met)
          ∙ sound)

      -- the same blocks hold a node
      pub holds_wide : (b : ℕ) → HoldsNodeOf image early t b → HoldsNodeOf image wide t b
      holds_wide b holding = record {
        node = holding.node;
        among = subst (λ (events : List TreeEvent). Contains (nodes_in events) holding.node) (sym met_wide) holding.among;
        lies = record { k = holding.lies.k; within = holding.lies.within; at = holding.lies.at; place_is = ⊎_elim (λ is. inl (place_first early late (holding.node.address + holding.lies.k) holding.lies.at is)) (λ is. inr (second_first early late (holding.node.address + holding.lies.k) holding.lies.at is)) holding.lies.place_is; block = holding.lies.block };
      }

      module _ (blocks : AreInBlocks early) (size : IsNodeSize t.form.nodesize) where
        some_there : (p : NodePointer) (k : ℕ) → IsIn p → k < t.form.nodesize → is_some (place early (p.address + k)) ≡ true
        some_there p k inside within =
            let parts = mapped_blocks early t.form.nodesize p.address inside in
            let below : k / 4096 < t.form.nodesize / 4096 = omega (arith, within, size) in
            let block = mapped_at early (t.form.nodesize / 4096) (k / 4096) p.address below parts.1 in
            let same : p.address + 4096 * (k / 4096) + k % 4096 ≡ p.address + k = omega arith in
            subst (λ (a : ℕ). is_some (place early a) ≡ true) same (some_byte early (p.address + 4096 * (k / 4096)) (k % 4096) blocks (omega (arith, parts.0)) (omega arith) block)

        pub holds_early : (b : ℕ) → HoldsNodeOf image wide t b → HoldsNodeOf image early t b
        holds_early b holding =
            let among : Contains (nodes_in (met image early t)) holding.node = subst (λ (events : List TreeEvent). Contains (nodes_in events) holding.node) met_wide holding.among in
            let inside : IsIn holding.node = subst IsIn among.2 (all_met among.0 holding.node among.1) in
            let k : ℕ = holding.lies.k in
            let some : is_some (place early (holding.node.address + k)) ≡ true = some_there holding.node k inside holding.lies.within in
            record {
              node = holding.node;
              among = among;
              lies = record { k = k; within = holding.lies.within; at = holding.lies.at; place_is = ⊎_elim (λ is. inl (sym (place_same (holding.node.address + k) some) ∙ is)) (λ is. inr (sym (second_same early late (holding.node.address + k) some) ∙ is)) holding.lies.place_is; block = holding.lies.block };
            }

-- ---- the map of an opened volume
with_one : (ranges : List MapRange) (o : Option (Option ChunkAt)) → (late : List MapRange) × (with_chunk ranges o ≡ ranges ++ late)
with_one ranges None = ([], sym (append-nil ranges))
with_one ranges (Some None) = ([], sym (append-nil ranges))
with_one ranges (Some (Some c)) = (range_of c ∷ [], refl)

-- it begins with that of the array
pub begins : (boot : List ChunkAt) (ranges : List MapRange) (items : List TreeItem) → (late : List MapRange) × (with_items boot ranges items ≡ ranges ++ late)
begins boot ranges [] = ([], sym (append-nil ranges))
begins boot ranges (i ∷ items) =
    let one = with_one ranges (chunk_in boot i.key i.body) in
    let rest = begins boot (with_chunk ranges (chunk_in boot i.key i.body)) items in
    (one.0 ++ rest.0, rest.1 ∙ (ap (λ (z : List MapRange). z ++ rest.0) one.1 ∙ append_assoc ranges one.0 rest.0))
