-- A level of a tree from the one below it.
use Rattle.btr_tree.proofs.Imports.{◌≡◌, ℕ, zero, suc, ◌+◌, ◌*◌, ◌/◌, ◌%◌, ◌^◌, ◌<◌, ◌≤◌, leb, ltb, eqb, Bool, true, List, [], ◌∷◌, ◌++◌, length, map, take, drop, get_or, None, refl, sym, ◌∙◌, ap, subst, arith, ⊎_elim, All, flat_map, and_from, le-leb, lt-ltb, eq-eqb, take-append-drop, take_more, map-append, take-map, drop-map, length_push, get_or_append_left, get_or_push, get_or-take, get_or-drop, length-take, length-drop, Image, MapRange, IsBtrfsInner, children_in, first_keys, Item, IsNodeSize, Ascends, ascends, Child, first_ascends, second_ascends, IsSubtree, AreSubtrees, ChildrenGiveItems, Key, get_or_from_slice_get, slice_get_within, holds, identity, are_mapped, is_mapped, node_at, want, child_pointer, Form, NodePointer, Made, AreSlots, slot, StandBy, pointer_to, IsParent, first_key, AreRoots, nodes_below, AreWhole, nodes_in, pointer_events, IsExact, IsWhole, HasFirstKey, first_key_in, All-nil, All-cons}
use Rattle.btr_tree.proofs.Standing.{all_push}
use Rattle.btr_tree.proofs.Meeting.{inner_met, below_one}
use Rattle.btr_tree.proofs.Wholes.{Node, First, first_child, whole_part, whole_append}

-- the keys of the first children ascend, and of any part
pub front_ascends : (part : List Child) (i : ℕ) (d : Child) → Ascends (first_keys part) → i < length part → Ascends (first_keys (take i part) ++ (get_or part i d).key ∷ [])
front_ascends part i d h inside =
    let cut : first_keys part ≡ first_keys (take (i + 1) part) ++ first_keys (drop (i + 1) part) =
    sym (ap first_keys (take-append-drop (i + 1) part)) ∙ map-append (λ (c : Child). c.key) (take (i + 1) part) (drop (i + 1) part) in
    let one : first_keys (take (i + 1) part) ≡ first_keys (take i part) ++ (get_or part i d).key ∷ [] =
    ap first_keys (take_more part i d inside) ∙ map-append (λ (c : Child). c.key) (take i part) (get_or part i d ∷ []) in
    sym (ap ascends one) ∙ first_ascends (first_keys (take (i + 1) part)) (first_keys (drop (i + 1) part)) (sym (ap ascends cut) ∙ h)

pub part_ascends : (children : List Child) (s n : ℕ) → Ascends (first_keys children) → Ascends (first_keys (take n (drop s children)))
part_ascends children s n h =
    let rest : List Child = drop s children in
    let cut : first_keys children ≡ first_keys (take s children) ++ first_keys rest = sym (ap first_keys (take-append-drop s children)) ∙ map-append (λ (c : Child). c.key) (take s children) rest in
    let cut' : first_keys rest ≡ first_keys (take n rest) ++ first_keys (drop n rest) = sym (ap first_keys (take-append-drop n rest)) ∙ map-append (λ (c : Child). c.key) (take n rest) (drop n rest) in
    first_ascends (first_keys (take n rest)) (first_keys (drop n rest)) (sym (ap ascends cut') ∙ second_ascends (first_keys (take s children)) (first_keys rest) (sym (ap ascends cut) ∙ h))

-- where more nodes stand, the fewer do
pub stand_fewer : (image : Image) (ranges : List MapRange) (n : ℕ) (slots : List ℕ) (nodes : List (List ℕ)) (bytes : List ℕ) → StandBy image ranges n slots (nodes ++ bytes ∷ []) → StandBy image ranges n slots nodes
stand_fewer image ranges n slots nodes bytes stand = record {
  mapped = λ i h. stand.mapped i (omega (arith, length_push nodes bytes, h));
  nodes_are = λ i h. stand.nodes_are i (omega (arith, length_push nodes bytes, h)) ∙ get_or_append_left nodes (bytes ∷ []) [] i h;
}

pub stand_last : (image : Image) (ranges : List MapRange) (n : ℕ) (slots : List ℕ) (nodes : List (List ℕ)) (bytes : List ℕ) → StandBy image ranges n slots (nodes ++ bytes ∷ [])
    → node_at image ranges n (slot slots (length nodes)) ≡ bytes
stand_last image ranges n slots nodes bytes stand = stand.nodes_are (length nodes) (omega (arith, length_push nodes bytes)) ∙ get_or_push nodes bytes [] (length nodes) refl

pub stand_mapped : (image : Image) (ranges : List MapRange) (n : ℕ) (slots : List ℕ) (nodes : List (List ℕ)) (bytes : List ℕ) → StandBy image ranges n slots (nodes ++ bytes ∷ [])
    → is_mapped ranges n (slot slots (length nodes)) ≡ true
stand_mapped image ranges n slots nodes bytes stand = stand.mapped (length nodes) (omega (arith, length_push nodes bytes))

module _ (image : Image) (ranges : List MapRange) (form : Form) (owner : ℕ) (bare : Bool) where
  abbrev Are : List NodePointer → List (List Item) → Type 0
  Are = AreSubtrees image ranges form owner bare

  subtrees_push : (ps : List NodePointer) (lists : List (List Item)) (p : NodePointer) (items : List Item) → Are ps lists → IsSubtree image ranges form owner bare p items → Are (ps ++ p ∷ []) (lists ++ items ∷ [])
  subtrees_push [] [] p items are is = (is, tt)
  subtrees_push [] (l ∷ lists) p items are is = absurd are
  subtrees_push (q ∷ ps) [] p items are is = absurd are
  subtrees_push (q ∷ ps) (l ∷ lists) p items are is = (are.0, subtrees_push ps lists p items are.1 is)

  subtrees_take : (n : ℕ) (ps : List NodePointer) (lists : List (List Item)) → Are ps lists → Are (take n ps) (take n lists)
  subtrees_take zero ps lists are = tt
  subtrees_take (suc n) [] [] are = tt
  subtrees_take (suc n) [] (l ∷ lists) are = absurd are
  subtrees_take (suc n) (q ∷ ps) [] are = absurd are
  subtrees_take (suc n) (q ∷ ps) (l ∷ lists) are = (are.0, subtrees_take n ps lists are.1)

  subtrees_drop : (n : ℕ) (ps : List NodePointer) (lists : List (List Item)) → Are ps lists → Are (drop n ps) (drop n lists)
  subtrees_drop zero ps lists are = are
  subtrees_drop (suc n) [] [] are = tt
  subtrees_drop (suc n) [] (l ∷ lists) are = absurd are
  subtrees_drop (suc n) (q ∷ ps) [] are = absurd are
  subtrees_drop (suc n) (q ∷ ps) (l ∷ lists) are = subtrees_drop n ps lists are.1

-- a part of some roots
pub part_roots : (m : Made) (level s n : ℕ) (children : List Child) (lists : List (List Item)) → AreRoots m level children lists → AreRoots m level (take n (drop s children)) (take n (drop s lists))
part_roots m level s n children lists roots = record {
  keys =
      sym (take-map (λ (c : Child). c.key) n (drop s children)) ∙ (ap (take n) (sym (drop-map (λ (c : Child). c.key) s children) ∙ (ap (drop s) roots.keys ∙ drop-map first_key s lists)) ∙ take-map first_key n (drop s lists));
  full = λ k d h.
      let few : k < n = omega (arith, h, length-take n (drop s lists)) in
      let inside : s + k < length lists = omega (arith, h, length-take n (drop s lists), length-drop s lists) in
      let at : get_or (take n (drop s lists)) k d ≡ get_or lists (s + k) d = get_or-take n (drop s lists) k d few ∙ get_or-drop s lists k d in
      subst (λ (items : List Item). 1 ≤ length items) (sym at) (roots.full (s + k) d inside);
  one_generation = λ k d h.
      let few : k < n = omega (arith, h, length-take n (drop s children)) in
      let inside : s + k < length children = omega (arith, h, length-take n (drop s children), length-drop s children) in
      let at : get_or (take n (drop s children)) k d ≡ get_or children (s + k) d = get_or-take n (drop s children) k d few ∙ get_or-drop s children k d in
      subst (λ (c : Child). c.generation ≡ m.generation) (sym at) (roots.one_generation (s + k) d inside);
  subtrees = λ image ranges bare stand.
      let ps : List NodePointer = map (child_pointer level) children in
      let same : take n (drop s ps) ≡ map (child_pointer level) (take n (drop s children)) = ap (take n) (drop-map (child_pointer level) s children) ∙ take-map (child_pointer level) n (drop s children) in
      subst (λ qs. AreSubtrees image ranges m.form m.owner bare qs (take n (drop s lists))) same
      (subtrees_take image ranges m.form m.owner bare n (drop s ps) (drop s lists) (subtrees_drop image ranges m.form m.owner bare s ps lists (roots.subtrees image ranges bare stand)));
  whole = λ image ranges bare stand. whole_part image ranges m bare level s n children (roots.whole image ranges bare stand);
}

-- one more root
record IsOneRoot (m : Made) (level : ℕ) (child : Child) (items : List Item) : Type 0 where
  key : child.key ≡ first_key items
  some : 1 ≤ length items
  subtree : (image : Image) (ranges : List MapRange) (bare : Bool) → StandBy image ranges m.form.nodesize m.slots m.nodes → IsSubtree image ranges m.form m.owner bare (child_pointer level child) items

unfoldable pub flat : List (List Item) → List Item
flat lists = flat_map (λ items. items) lists

pub flat-is : (lists : List (List Item)) → flat_map (λ items. items) lists ≡ flat lists
unfolding flat
flat-is lists = refl

head_key : (part : List Child) (lists : List (List Item)) (d : Child) → first_keys part ≡ map first_key lists → All (λ items. 1 ≤ length items) lists → 1 ≤ length part
    → ((get_or part 0 d).key ≡ first_key (flat lists)) × (1 ≤ length (flat lists))
unfolding flat
head_key [] lists d keys full some = absurd (omega arith)
head_key (c ∷ part) [] d keys full some = absurd (omega (arith, ap length keys))
head_key (c ∷ part) ([] ∷ lists) d keys full some = absurd (let none : 1 ≤ length {A = Item} [] = full 0 [] (omega arith) in omega arith)
head_key (c ∷ part) ((i ∷ items) ∷ lists) d keys full some = (cc, omega arith)

module _ (law : ChildrenGiveItems) (m : Made) (level : ℕ) (part : List Child) (lists : List (List Item)) (child : Child) (new : Made) (some : 1 ≤ length part) (roots : AreRoots m level part lists) (parent : IsParent m (suc level) part child new) where
  abbrev p : NodePointer
  p = pointer_to m.generation (suc level) parent.address

  abbrev grown : Made
  grown = record m { nodes = m.nodes ++ parent.bytes ∷ []; draft = parent.draft }

  slot_is : slot m.slots (length m.nodes) ≡ parent.address
  slot_is = get_or_from_slice_get m.slots (length m.nodes) parent.address 0 parent.next

  mapped : (image : Image) (ranges : List MapRange) → StandBy image ranges m.form.nodesize m.slots (m.nodes ++ parent.bytes ∷ []) → is_mapped ranges m.form.nodesize parent.address ≡ true
  mapped image ranges stand = subst (λ (a : ℕ). is_mapped ranges m.form.nodesize a ≡ true) slot_is (stand_mapped image ranges m.form.nodesize m.slots m.nodes parent.bytes stand)

  below_parent : (image : Image) (ranges : List MapRange) (bare : Bool) → StandBy image ranges m.form.nodesize m.slots (m.nodes ++ parent.bytes ∷ []) → IsSubtree image ranges m.form m.owner bare p (flat lists)
  unfolding flat
  below_parent image ranges bare stand =
      let node : node_at image ranges m.form.nodesize parent.address ≡ parent.bytes =
      sym (ap (node_at image ranges m.form.nodesize) slot_is) ∙ stand_last image ranges m.form.nodesize m.slots m.nodes parent.bytes stand in
      let inner : IsBtrfsInner (want m.form m.owner p) (node_at image ranges m.form.nodesize parent.address) = subst (IsBtrfsInner (want m.form m.owner p)) (sym node) parent.inner in
      let links : children_in (node_at image ranges m.form.nodesize parent.address) ≡ part = ap children_in node ∙ parent.links in
      let are : AreSubtrees image ranges m.form m.owner bare (map (child_pointer level) (children_in (node_at image ranges m.form.nodesize parent.address))) lists =
      subst (λ cs. AreSubtrees image ranges m.form m.owner bare (map (child_pointer level) cs) lists) (sym links)
      (roots.subtrees image ranges bare (stand_fewer image ranges m.form.nodesize m.slots m.nodes parent.bytes stand)) in
      law image ranges m.form m.owner bare p level lists refl (mapped image ranges stand) inner are

  -- the walk of a parent meets the parent, and then what its children meet
  pub parent_met : (image : Image) (ranges : List MapRange) (bare : Bool) → StandBy image ranges m.form.nodesize m.slots (m.nodes ++ parent.bytes ∷ [])
      → nodes_below image ranges m bare (suc level) (child ∷ []) ≡ child_pointer (suc level) child ∷ nodes_below image ranges m bare level part
  parent_met image ranges bare stand =
      let node : node_at image ranges m.form.nodesize parent.address ≡ parent.bytes =
      sym (ap (node_at image ranges m.form.nodesize) slot_is) ∙ stand_last image ranges m.form.nodesize m.slots m.nodes parent.bytes stand in
      let met = inner_met image ranges m.form m.owner bare level m.generation parent.address (flat lists) part (below_parent image ranges bare stand) (ap children_in node ∙ parent.links) in
      let is : child_pointer (suc level) child ≡ p = ap (child_pointer (suc level)) parent.child_is in
      below_one image ranges m bare (suc level) child
      ∙ (ap (λ (q : NodePointer). nodes_in (pointer_events image ranges m.form m.owner bare q)) is ∙ (met ∙ ap (λ (q : NodePointer). q ∷ nodes_below image ranges m bare level part) (sym is)))

  -- the parent is whole, as those below it
  parent_whole : (image : Image) (ranges : List MapRange) (bare : Bool) → StandBy image ranges m.form.nodesize m.slots (m.nodes ++ parent.bytes ∷ []) → AreWhole image ranges m bare (suc level) (child ∷ [])
  parent_whole image ranges bare stand =
      let below : AreWhole image ranges m bare level part = roots.whole image ranges bare (stand_fewer image ranges m.form.nodesize m.slots m.nodes parent.bytes stand) in
      let node : node_at image ranges m.form.nodesize parent.address ≡ parent.bytes =
      sym (ap (node_at image ranges m.form.nodesize) slot_is) ∙ stand_last image ranges m.form.nodesize m.slots m.nodes parent.bytes stand in
      let links : children_in (node_at image ranges m.form.nodesize parent.address) ≡ part = ap children_in node ∙ parent.links in
      let is : child_pointer (suc level) child ≡ p = ap (child_pointer (suc level)) parent.child_is in
      let here : IsWhole image ranges m.form m.owner m.chunk_tree p = record {
        exact = subst (IsExact m.form.nodesize (want m.form m.owner p) m.chunk_tree) (sym node) parent.exact;
        firsts = λ inner. subst (All (HasFirstKey image ranges m.form.nodesize)) (sym links) below.firsts;
      } in
      let key : child.key ≡ first_key_in (node_at image ranges m.form.nodesize child.address) =
      ap (λ (c : Child). c.key) parent.child_is
      ∙ (ap (λ cs. (get_or cs 0 child).key) (sym parent.links)
      ∙ (sym (first_child parent.bytes child (omega (arith, some, ap length parent.links)))
      ∙ sym (ap (λ (c : Child). first_key_in (node_at image ranges m.form.nodesize c.address)) parent.child_is ∙ ap first_key_in node))) in
      record {
        nodes = subst (All (Node image ranges m bare level)) (sym (parent_met image ranges bare stand))
            (All-cons (Node image ranges m bare level) (child_pointer (suc level) child) (nodes_below image ranges m bare level part) (subst (Node image ranges m bare level) (sym is) here) below.nodes);
        firsts = All-cons (First image ranges m bare level) child [] key (All-nil (First image ranges m bare level));
      }

  one_root : IsOneRoot grown (suc level) child (flat lists)
  one_root =
      let head = head_key part lists child roots.keys roots.full some in
      record {
        key = ap (λ (c : Child). c.key) parent.child_is ∙ head.0;
        some = head.1;
        subtree = λ image ranges bare stand.
            subst (λ (q : NodePointer). IsSubtree image ranges m.form m.owner bare q (flat lists)) (sym (ap (child_pointer (suc level)) parent.child_is)) (below_parent image ranges bare stand);
      }

  pub roots_more : (parents : List Child) (plists : List (List Item)) → AreRoots m (suc level) parents plists → AreRoots new (suc level) (parents ++ child ∷ []) (plists ++ flat lists ∷ [])
  roots_more parents plists so_far =
      subst (λ (x : Made). AreRoots x (suc level) (parents ++ child ∷ []) (plists ++ flat lists ∷ [])) (sym parent.is)
      (record {
        keys =
            map-append (λ (c : Child). c.key) parents (child ∷ [])
            ∙ (ap (λ ks. ks ++ child.key ∷ []) so_far.keys ∙ (ap (λ (k : Key). map first_key plists ++ k ∷ []) one_root.key ∙ sym (map-append first_key plists (flat lists ∷ []))));
        full = all_push (λ items. 1 ≤ length items) plists (flat lists) so_far.full one_root.some;
        one_generation = all_push (λ c. c.generation ≡ m.generation) parents child so_far.one_generation (ap (λ (c : Child). c.generation) parent.child_is);
        subtrees = λ image ranges bare stand.
            subst (λ qs. AreSubtrees image ranges m.form m.owner bare qs (plists ++ flat lists ∷ [])) (sym (map-append (child_pointer (suc level)) parents (child ∷ [])))
            (subtrees_push image ranges m.form m.owner bare (map (child_pointer (suc level)) parents) plists (child_pointer (suc level) child) (flat lists)
            (so_far.subtrees image ranges bare (stand_fewer image ranges m.form.nodesize m.slots m.nodes parent.bytes stand)) (one_root.subtree image ranges bare stand));
        whole = λ image ranges bare stand.
            let before : AreWhole image ranges m bare (suc level) parents = so_far.whole image ranges bare (stand_fewer image ranges m.form.nodesize m.slots m.nodes parent.bytes stand) in
            let all : AreWhole image ranges m bare (suc level) (parents ++ child ∷ []) = whole_append image ranges m bare (suc level) parents (child ∷ []) before (parent_whole image ranges bare stand) in
            record { nodes = all.nodes; firsts = all.firsts };
      })
