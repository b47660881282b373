-- A level of a tree, one node after the other.
use Rattle.btr_tree.proofs.Imports.{◌≡◌, ℕ, zero, suc, ◌+◌, ◌-◌, ◌*◌, ◌<◌, ◌≤◌, min, Bool, List, [], ◌∷◌, ◌++◌, length, map, take, drop, get_or, Some, None, refl, sym, ◌∙◌, ap, subst, arith, append_assoc, length-append, ⊎_elim, flat_map, slice_get, div_ceil, mul-suc, mul_comm, cases_lt, div_ceil_times, append-nil, map-append, take_all, take_more, length-map, length-drop, length_push, get_or_append_left, get_or-drop, flat_map-append, All-nil, mul-le, slice_get_within, slice_get-get_or, get_or_from_slice_get, Image, MapRange, Item, IsNodeSize, Child, ChildrenGiveItems, Made, AreSlots, StandBy, IsParent, pointer_to, first_key, fan_out, AreRoots, AreWhole, IsExtended, HasSubtreeRoots, IsRaised, nodes_below, pointers_to, child_pointer, NodePointer, IsPermutation, IsPermutation-refl, IsPermutation-trans, IsPermutation-append_left}
use Rattle.btr_tree.proofs.Meeting.{perm_more, below_append}
use Rattle.btr_tree.proofs.Wholes.{whole_none}
use Rattle.btr_tree.proofs.Raising.{flat, flat-is, part_roots, roots_more, parent_met, stand_fewer}

-- how many nodes hold so many children
pub filled_count : (n fan k : ℕ) → 0 < fan → n ≤ fan * k → fan * k < n + fan → k ≡ div_ceil n fan
filled_count n fan k some enough tight =
    let times : (n ≤ div_ceil n fan * fan) × (div_ceil n fan * fan < n + fan) = div_ceil_times n fan some in
    let d : ℕ = div_ceil n fan in
    let same : fan * k ≡ k * fan = mul_comm fan k in
    ⊎_elim (λ (less : k < d). absurd (omega (arith, one_more k d fan less, times.1, same)))
    (λ (rest : d ≤ k). ⊎_elim (λ (more : d < k). absurd (omega (arith, one_more d k fan more, times.0, same))) (λ (end : k ≤ d). let e : k ≡ d = omega arith in e) (cases_lt d k))
    (cases_lt k d)
  where
    one_more : (a b fan : ℕ) → a < b → a * fan + fan ≤ b * fan
    one_more a b fan h =
        let step : suc a * fan ≤ b * fan = mul-le (suc a) fan b fan (omega arith) (omega arith) in
        omega (arith, step, mul_comm (suc a) fan, mul-suc fan a, mul_comm a fan)

-- more nodes leave roots as they are
pub stand_front : (image : Image) (ranges : List MapRange) (n : ℕ) (slots : List ℕ) (nodes more : List (List ℕ)) → StandBy image ranges n slots (nodes ++ more) → StandBy image ranges n slots nodes
stand_front image ranges n slots nodes more stand = record {
  mapped = λ i h. stand.mapped i (omega (arith, length-append nodes more, h));
  nodes_are = λ i h. stand.nodes_are i (omega (arith, length-append nodes more, h)) ∙ get_or_append_left nodes more [] i h;
}

pub roots_extended : (old new : Made) (level : ℕ) (children : List Child) (lists : List (List Item)) → IsExtended old new → AreRoots old level children lists → AreRoots new level children lists
roots_extended old new level children lists ext roots =
    subst (λ (x : Made). AreRoots x level children lists) (sym ext.is)
    (record { keys = roots.keys; full = roots.full; one_generation = roots.one_generation; subtrees = λ image ranges bare stand. roots.subtrees image ranges bare (stand_front image ranges old.form.nodesize old.slots old.nodes ext.more stand); whole = λ image ranges bare stand. let all : AreWhole image ranges old bare level children = roots.whole image ranges bare (stand_front image ranges old.form.nodesize old.slots old.nodes ext.more stand) in record { nodes = all.nodes; firsts = all.firsts } })

pub extended_none : (old : Made) → IsExtended old old
extended_none old = record { more = []; draft = old.draft; is = ap (λ ns. let x : Made = record old { nodes = ns } in x) (sym (append-nil old.nodes)) }

pub extended_parent : (old mid new : Made) (level : ℕ) (part : List Child) (child : Child) → IsExtended old mid → IsParent mid level part child new → IsExtended old new
extended_parent old mid new level part child ext parent = record {
  more = ext.more ++ parent.bytes ∷ [];
  draft = parent.draft;
  is =
      parent.is
      ∙ (ap (λ (x : Made). let y : Made = record x { nodes = x.nodes ++ parent.bytes ∷ []; draft = parent.draft } in y) ext.is
      ∙ ap (λ ns. let y : Made = record old { nodes = ns; draft = parent.draft } in y) (append_assoc old.nodes ext.more (parent.bytes ∷ [])));
}

-- While a level is made: the nodes so far hold the first children, each node full.
pub record IsRaising (old : Made) (children : List Child) (level : ℕ) (now : Made) (parents : List Child) (start : ℕ) : Type 0 where
  pub extended : IsExtended old now
  pub within : start ≤ length children
  pub fill : start ≡ min (fan_out old.form.nodesize * length parents) (length children)
  pub tight : fan_out old.form.nodesize * length parents < length children + fan_out old.form.nodesize
  pub made : length now.nodes ≡ length old.nodes + length parents
  pub few : length now.nodes ≤ length now.slots
  pub roots : (below : ℕ) (lists : List (List Item)) → level ≡ suc below → AreRoots old below children lists → HasSubtreeRoots now level parents (flat (take start lists))
  pub pointers : map (child_pointer level) parents ≡ pointers_to old.generation level (length old.nodes) (length parents) old.slots
  pub nodes : (below : ℕ) (lists : List (List Item)) → level ≡ suc below → AreRoots old below children lists → (image : Image) (ranges : List MapRange) (bare : Bool) → StandBy image ranges now.form.nodesize now.slots now.nodes
      → IsPermutation (nodes_below image ranges now bare level parents) (map (child_pointer level) parents ++ nodes_below image ranges now bare below (take start children))

flat_nothing : flat [] ≡ []
unfolding flat
flat_nothing = refl

flat-push : (lists : List (List Item)) (items : List Item) → flat (lists ++ items ∷ []) ≡ flat lists ++ items
unfolding flat
flat-push lists items = flat_map-append (λ is. is) lists (items ∷ []) ∙ ap (λ is. flat_map (λ is. is) lists ++ is) (append-nil items)

flat-append : (first second : List (List Item)) → flat (first ++ second) ≡ flat first ++ flat second
unfolding flat
flat-append first second = flat_map-append (λ is. is) first second

take_on : {X : Type 0} (s n e : ℕ) (xs : List X) → s + n ≡ e → take e xs ≡ take s xs ++ take n (drop s xs)
take_on zero n e xs at = ap (λ k. take k xs) (let same : e ≡ n = omega arith in same)
take_on (suc s) zero zero [] at = refl
take_on (suc s) zero (suc e) [] at = refl
take_on (suc s) (suc n) zero [] at = absurd (omega arith)
take_on (suc s) (suc n) (suc e) [] at = refl
take_on (suc s) n zero (x ∷ xs) at = absurd (omega arith)
take_on (suc s) n (suc e) (x ∷ xs) at = ap (λ ys. x ∷ ys) (take_on s n e xs (omega arith))

pub raising_begins : (old : Made) (children : List Child) (level : ℕ) → 0 < fan_out old.form.nodesize → length old.nodes ≤ length old.slots → IsRaising old children level old [] 0
raising_begins old children level wide few = record {
  extended = extended_none old;
  within = omega arith;
  fill = none (fan_out old.form.nodesize) (length children);
  tight = none' (fan_out old.form.nodesize) (length children) wide;
  made = omega arith;
  few = few;
  roots = λ below lists is roots. record {
    lists = [];
    roots = record { keys = refl; full = All-nil (λ (items : List Item). 1 ≤ length items); one_generation = All-nil (λ (c : Child). c.generation ≡ old.generation); subtrees = λ image ranges bare stand. tt; whole = λ image ranges bare stand. whole_none image ranges old bare level };
    items_are = sym flat_nothing;
  };
  pointers = refl;
  nodes = λ below lists is roots image ranges bare stand. IsPermutation-refl [];
}
  where
    zeroth : (fan : ℕ) → fan * 0 ≡ 0
    zeroth fan = omega (arith, mul_comm fan 0)

    none : (fan n : ℕ) → 0 ≡ min (fan * 0) n
    none fan n = omega (arith, zeroth fan)

    none' : (fan n : ℕ) → 0 < fan → fan * 0 < n + fan
    none' fan n wide = omega (arith, zeroth fan)

more_met : {X : Type 0} (old new ps qs bs cs ds : List X) (p : X) → IsPermutation old (ps ++ bs) → new ≡ old ++ p ∷ cs → qs ≡ ps ++ p ∷ [] → ds ≡ bs ++ cs → IsPermutation new (qs ++ ds)
more_met old new ps qs bs cs ds p so_far a b c =
    subst (λ zs. IsPermutation zs (qs ++ ds)) (sym a)
    (subst (λ zs. IsPermutation (old ++ p ∷ cs) (zs ++ ds)) (sym b)
    (subst (λ zs. IsPermutation (old ++ p ∷ cs) ((ps ++ p ∷ []) ++ zs)) (sym c)
    (IsPermutation-trans (old ++ p ∷ cs) ((ps ++ bs) ++ p ∷ cs) ((ps ++ p ∷ []) ++ (bs ++ cs)) (IsPermutation-append_left (p ∷ cs) old (ps ++ bs) so_far) (perm_more ps bs cs p))))

pointers_more : (old now new : Made) (level : ℕ) (parents part : List Child) (child : Child) → IsExtended old now → length now.nodes ≡ length old.nodes + length parents
    → map (child_pointer level) parents ≡ pointers_to old.generation level (length old.nodes) (length parents) old.slots → IsParent now level part child new
    → map (child_pointer level) (parents ++ child ∷ []) ≡ pointers_to old.generation level (length old.nodes) (length (parents ++ child ∷ [])) old.slots
pointers_more old now new level parents part child ext made so_far parent =
    let n : ℕ = length parents in
    let slots : now.slots ≡ old.slots = ap (λ (x : Made). x.slots) ext.is in
    let next : slice_get old.slots (length old.nodes + n) ≡ Some parent.address = ap (slice_get old.slots) (sym made) ∙ (ap (λ ss. slice_get ss (length now.nodes)) (sym slots) ∙ parent.next) in
    let inside = slice_get_within old.slots (length old.nodes + n) parent.address next in
    let at : get_or (drop (length old.nodes) old.slots) n 0 ≡ parent.address = get_or-drop (length old.nodes) old.slots n 0 ∙ get_or_from_slice_get old.slots (length old.nodes + n) parent.address 0 next in
    let one : child_pointer level child ≡ pointer_to old.generation level parent.address =
    ap (child_pointer level) parent.child_is ∙ ap (λ (x : Made). pointer_to x.generation level parent.address) ext.is in
    let taken : take (length (parents ++ child ∷ [])) (drop (length old.nodes) old.slots) ≡ take n (drop (length old.nodes) old.slots) ++ parent.address ∷ [] =
    ap (λ (k : ℕ). take k (drop (length old.nodes) old.slots)) (length_push parents child)
    ∙ (take_more (drop (length old.nodes) old.slots) n 0 (omega (arith, inside, length-drop (length old.nodes) old.slots)) ∙ ap (λ (a : ℕ). take n (drop (length old.nodes) old.slots) ++ a ∷ []) at) in
    map-append (child_pointer level) parents (child ∷ [])
    ∙ (ap (λ ps. ps ++ child_pointer level child ∷ []) so_far
    ∙ (ap (λ (p : NodePointer). pointers_to old.generation level (length old.nodes) n old.slots ++ p ∷ []) one
    ∙ sym (ap (map (pointer_to old.generation level)) taken ∙ map-append (pointer_to old.generation level) (take n (drop (length old.nodes) old.slots)) (parent.address ∷ []))))

pub raising_goes_on : (law : ChildrenGiveItems) (old now new : Made) (children parents part : List Child) (level start end : ℕ) (child : Child)
    → IsRaising old children level now parents start → start < length children
    → end ≡ min (length children) (start + fan_out old.form.nodesize) → 1 ≤ end - start → part ≡ take (end - start) (drop start children) → length part ≡ end - start → IsParent now level part child new
    → IsRaising old children level new (parents ++ child ∷ []) end
raising_goes_on law old now new children parents part level start end child so_far more end_is some part_is long parent =
    let fan : ℕ = fan_out old.form.nodesize in
    let k : ℕ = length parents in
    let next : fan * (k + 1) ≡ fan * k + fan = one_more fan k in
    let full : fan * k ≡ start = omega (arith, so_far.fill) in
    let count : length (parents ++ child ∷ []) ≡ k + 1 = length_push parents child in
    let times : fan * length (parents ++ child ∷ []) ≡ fan * k + fan = ap (λ (j : ℕ). fan * j) count ∙ next in
    let inside = slice_get_within now.slots (length now.nodes) parent.address parent.next in
    record {
      extended = extended_parent old now new level part child so_far.extended parent;
      within = omega arith;
      fill = omega (arith, times, full, end_is);
      tight = omega (arith, times, full);
      made = omega (arith, so_far.made, ap (λ (x : Made). length x.nodes) parent.is, length_push now.nodes parent.bytes, count);
      few = omega (arith, inside, ap (λ (x : Made). length x.nodes) parent.is, length_push now.nodes parent.bytes, ap (λ (x : Made). length x.slots) parent.is);
      roots = λ below lists is roots.
          let before = so_far.roots below lists is roots in
          let part_lists : List (List Item) = take (end - start) (drop start lists) in
          let part_now : AreRoots now below part part_lists =
          subst (λ cs. AreRoots now below cs part_lists) (sym part_is) (part_roots now below start (end - start) children lists (roots_extended old now below children lists so_far.extended roots)) in
          let parent' : IsParent now (suc below) part child new = subst (λ (l : ℕ). IsParent now l part child new) is parent in
          let roots' : AreRoots now (suc below) parents before.lists = subst (λ (l : ℕ). AreRoots now l parents before.lists) is before.roots in
          record {
            lists = before.lists ++ flat part_lists ∷ [];
            roots = subst (λ (l : ℕ). AreRoots new l (parents ++ child ∷ []) (before.lists ++ flat part_lists ∷ [])) (sym is)
                (roots_more law now below part part_lists child new (omega arith) part_now parent' parents before.lists roots');
            items_are =
                flat-is (before.lists ++ flat part_lists ∷ [])
                ∙ (flat-push before.lists (flat part_lists)
                ∙ (ap (λ is. is ++ flat part_lists) (sym (flat-is before.lists) ∙ before.items_are)
                ∙ sym (ap flat (take_on start (end - start) end lists (omega arith)) ∙ flat-append (take start lists) part_lists)));
          };
      pointers = pointers_more old now new level parents part child so_far.extended so_far.made so_far.pointers parent;
      nodes = λ below lists is roots image ranges bare stand.
          let before : List Child = take start children in
          let parent' : IsParent now (suc below) part child new = subst (λ (l : ℕ). IsParent now l part child new) is parent in
          let stand_new : StandBy image ranges now.form.nodesize now.slots (now.nodes ++ parent'.bytes ∷ []) = subst (λ (x : Made). StandBy image ranges x.form.nodesize x.slots x.nodes) parent'.is stand in
          let stand_now : StandBy image ranges now.form.nodesize now.slots now.nodes = stand_fewer image ranges now.form.nodesize now.slots now.nodes parent'.bytes stand_new in
          let part_lists : List (List Item) = take (end - start) (drop start lists) in
          let part_now : AreRoots now below part part_lists =
          subst (λ cs. AreRoots now below cs part_lists) (sym part_is) (part_roots now below start (end - start) children lists (roots_extended old now below children lists so_far.extended roots)) in
          let so_far' : IsPermutation (nodes_below image ranges now bare level parents) (map (child_pointer level) parents ++ nodes_below image ranges now bare below before) = so_far.nodes below lists is roots image ranges bare stand_now in
          let one : nodes_below image ranges now bare level (child ∷ []) ≡ child_pointer level child ∷ nodes_below image ranges now bare below part =
          subst (λ (l : ℕ). nodes_below image ranges now bare l (child ∷ []) ≡ child_pointer l child ∷ nodes_below image ranges now bare below part) (sym is)
          (parent_met law now below part part_lists child new (omega arith) part_now parent' image ranges bare stand_new) in
          let all : nodes_below image ranges now bare below (take end children) ≡ nodes_below image ranges now bare below before ++ nodes_below image ranges now bare below part =
          ap (nodes_below image ranges now bare below) (take_on start (end - start) end children (omega arith) ∙ ap (λ cs. before ++ cs) (sym part_is)) ∙ below_append image ranges now bare below before part in
          let step : IsPermutation (nodes_below image ranges now bare level (parents ++ child ∷ [])) (map (child_pointer level) (parents ++ child ∷ []) ++ nodes_below image ranges now bare below (take end children)) =
          more_met (nodes_below image ranges now bare level parents) (nodes_below image ranges now bare level (parents ++ child ∷ [])) (map (child_pointer level) parents) (map (child_pointer level) (parents ++ child ∷ []))
          (nodes_below image ranges now bare below before) (nodes_below image ranges now bare below part) (nodes_below image ranges now bare below (take end children)) (child_pointer level child) so_far'
          (below_append image ranges now bare level parents (child ∷ []) ∙ ap (λ ps. nodes_below image ranges now bare level parents ++ ps) one) (map-append (child_pointer level) parents (child ∷ [])) all in
          subst (λ (x : Made). IsPermutation (nodes_below image ranges x bare level (parents ++ child ∷ [])) (map (child_pointer level) (parents ++ child ∷ []) ++ nodes_below image ranges x bare below (take end children))) (sym parent.is) step;
    }
  where
    one_more : (fan k : ℕ) → fan * (k + 1) ≡ fan * k + fan
    one_more fan k = let step : k + 1 ≡ suc k = omega arith in rw step (mul-suc fan k)

pub raising_ends : (old now : Made) (children parents : List Child) (level start : ℕ) → 0 < fan_out old.form.nodesize → IsRaising old children level now parents start → length children ≤ start
    → IsRaised old children level now parents
raising_ends old now children parents level start wide so_far end = record {
  extended = so_far.extended;
  count = filled_count (length children) (fan_out old.form.nodesize) (length parents) wide (omega (arith, so_far.fill, end)) so_far.tight;
  made = so_far.made;
  few = so_far.few;
  roots = λ below items is has.
      let before = so_far.roots below has.lists is has.roots in
      let many : length has.lists ≡ length children = omega (arith, ap length has.roots.keys, length-map children (λ (c : Child). c.key), length-map has.lists first_key) in
      record {
        lists = before.lists;
        roots = before.roots;
        items_are = before.items_are ∙ (ap flat (take_all start has.lists (omega arith)) ∙ (sym (flat-is has.lists) ∙ has.items_are));
      };
  pointers = so_far.pointers;
  nodes = λ below items is has image ranges bare stand.
      subst (λ cs. IsPermutation (nodes_below image ranges now bare level parents) (map (child_pointer level) parents ++ nodes_below image ranges now bare below cs)) (take_all start children end)
      (so_far.nodes below has.lists is has.roots image ranges bare stand);
}

-- while children are left, a node is missing
pub raising_short : (old now : Made) (children parents : List Child) (level start : ℕ) → 0 < fan_out old.form.nodesize → IsRaising old children level now parents start → start < length children
    → slice_get now.slots (length now.nodes) ≡ None → length old.slots < length old.nodes + div_ceil (length children) (fan_out old.form.nodesize)
raising_short old now children parents level start wide so_far more none =
    let n : ℕ = length children in
    let fan : ℕ = fan_out old.form.nodesize in
    let k : ℕ = length parents in
    let full : fan * k ≡ start = omega (arith, so_far.fill) in
    let times : (n ≤ div_ceil n fan * fan) × (div_ceil n fan * fan < n + fan) = div_ceil_times n fan wide in
    let fewer : k < div_ceil n fan =
    ⊎_elim (λ (h : k < div_ceil n fan). h)
    (λ (h : div_ceil n fan ≤ k). absurd (omega (arith, mul-le (div_ceil n fan) fan k fan h (omega arith), mul_comm fan k, full, times.0, more)))
    (cases_lt k (div_ceil n fan)) in
    let spent : length now.slots ≤ length now.nodes =
    ⊎_elim (λ (h : length now.nodes < length now.slots). absurd (let clash : Some (get_or now.slots (length now.nodes) 0) ≡ None = sym (slice_get-get_or now.slots (length now.nodes) 0 h) ∙ none in cc)) (λ (h : length now.slots ≤ length now.nodes). h)
    (cases_lt (length now.nodes) (length now.slots)) in
    omega (arith, fewer, spent, so_far.made, ap (λ (x : Made). length x.slots) so_far.extended.is)
