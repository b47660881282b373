-- The nodes that a walk meets.
use Rattle.btr_tree.proofs.Imports.{◌≡◌, ℕ, suc, ◌+◌, Bool, List, [], ◌∷◌, ◌++◌, length, map, refl, sym, ◌∙◌, ap, subst, arith, append_assoc, flat_map, sum, IsPermutation, append-nil, map-append, flat_map-append, IsPermutation-append_left, IsPermutation-append_right, IsPermutation-append_comm, sum_by-cons, Image, MapRange, BtrRefusal, BtrRule, children_in, Item, items_in, Child, Form, NodePointer, node_at, child_pointer, node_damages, TreeEvent, leaf_events, unless_damaged, node_events, nodes_in, pointer_events, at_address, IsSubtree, nodes_in-append, leaf_nodes, Made, pointer_to, nodes_below, pointers_to, level_pointers}

module _ (image : Image) (ranges : List MapRange) (form : Form) (owner : ℕ) (bare : Bool) where
  abbrev met : NodePointer → List NodePointer
  met p = nodes_in (pointer_events image ranges form owner bare p)

  -- a leaf meets itself alone
  pub leaf_met : (g a : ℕ) → met (pointer_to g 0 a) ≡ pointer_to g 0 a ∷ []
  unfolding node_events
  leaf_met g a = ap (λ ps. pointer_to g 0 a ∷ ps) (none (node_damages image ranges form owner bare (pointer_to g 0 a)))
    where
      none : (d : List BtrRule) → nodes_in (unless_damaged d (leaf_events a (items_in (node_at image ranges form.nodesize a)))) ≡ []
      none [] = leaf_nodes a (items_in (node_at image ranges form.nodesize a))
      none (rule ∷ rules) = refl

  flat_nodes : (f : Child → List TreeEvent) (children : List Child) → nodes_in (flat_map f children) ≡ flat_map (λ c. nodes_in (f c)) children
  flat_nodes f [] = refl
  flat_nodes f (c ∷ cs) = nodes_in-append (f c) (flat_map f cs) ∙ ap (λ ps. nodes_in (f c) ++ ps) (flat_nodes f cs)

  over_pointers : (level : ℕ) (children : List Child) → flat_map (λ c. nodes_in (node_events image ranges form owner bare level c.address c.generation)) children ≡ flat_map met (map (child_pointer level) children)
  over_pointers level [] = refl
  over_pointers level (c ∷ cs) = ap (λ ps. nodes_in (node_events image ranges form owner bare level c.address c.generation) ++ ps) (over_pointers level cs)

  -- a node with nothing wrong below it breaks no rule
  no_damage : (level g a : ℕ) (items : List Item) → IsSubtree image ranges form owner bare (pointer_to g (suc level) a) items → node_damages image ranges form owner bare (pointer_to g (suc level) a) ≡ []
  unfolding node_events
  no_damage level g a items is = first_none a (node_damages image ranges form owner bare (pointer_to g (suc level) a)) _ is.sound
    where
      first_none : (a : ℕ) (d : List BtrRule) (rest : List BtrRefusal) → at_address a d ++ rest ≡ [] → d ≡ []
      first_none a [] rest none = refl
      first_none a (rule ∷ rules) rest none = absurd (omega (arith, ap length none))

  -- an inner node meets itself, and then what its children meet
  pub inner_met : (level g a : ℕ) (items : List Item) (part : List Child) → IsSubtree image ranges form owner bare (pointer_to g (suc level) a) items → children_in (node_at image ranges form.nodesize a) ≡ part
      → met (pointer_to g (suc level) a) ≡ pointer_to g (suc level) a ∷ flat_map met (map (child_pointer level) part)
  unfolding node_events
  inner_met level g a items part is links =
      let p : NodePointer = pointer_to g (suc level) a in
      let below : Child → List TreeEvent = λ c. node_events image ranges form owner bare level c.address c.generation in
      ap (λ (d : List BtrRule). p ∷ nodes_in (unless_damaged d (flat_map below (children_in (node_at image ranges form.nodesize a))))) (no_damage level g a items is)
      ∙ ap (λ ps. p ∷ ps) (ap (λ cs. nodes_in (flat_map below cs)) links ∙ (flat_nodes below part ∙ over_pointers level part))

-- one more node behind those of its level
pub perm_more : {X : Type 0} (ps bs cs : List X) (p : X) → IsPermutation ((ps ++ bs) ++ p ∷ cs) ((ps ++ p ∷ []) ++ (bs ++ cs))
perm_more ps bs cs p =
    let moved : IsPermutation (bs ++ p ∷ cs) ((p ∷ []) ++ (bs ++ cs)) =
    subst (λ zs. IsPermutation zs ((p ∷ []) ++ (bs ++ cs))) (append_assoc bs (p ∷ []) cs)
    (subst (IsPermutation ((bs ++ p ∷ []) ++ cs)) (append_assoc (p ∷ []) bs cs)
    (IsPermutation-append_left cs (bs ++ p ∷ []) ((p ∷ []) ++ bs) (IsPermutation-append_comm bs (p ∷ [])))) in
    subst (λ zs. IsPermutation zs ((ps ++ p ∷ []) ++ (bs ++ cs))) (sym (append_assoc ps bs (p ∷ cs)))
    (subst (IsPermutation (ps ++ (bs ++ p ∷ cs))) (sym (append_assoc ps (p ∷ []) (bs ++ cs))) (IsPermutation-append_right ps (bs ++ p ∷ cs) ((p ∷ []) ++ (bs ++ cs)) moved))

pub below_append : (image : Image) (ranges : List MapRange) (m : Made) (bare : Bool) (level : ℕ) (xs ys : List Child) → nodes_below image ranges m bare level (xs ++ ys) ≡ nodes_below image ranges m bare level xs ++ nodes_below image ranges m bare level ys
below_append image ranges m bare level xs ys =
    let met : NodePointer → List NodePointer = λ p. nodes_in (pointer_events image ranges m.form m.owner bare p) in
    ap (flat_map met) (map-append (child_pointer level) xs ys) ∙ flat_map-append met (map (child_pointer level) xs) (map (child_pointer level) ys)

pub below_one : (image : Image) (ranges : List MapRange) (m : Made) (bare : Bool) (level : ℕ) (c : Child) → nodes_below image ranges m bare level (c ∷ []) ≡ nodes_in (pointer_events image ranges m.form m.owner bare (child_pointer level c))
below_one image ranges m bare level c = append-nil (nodes_in (pointer_events image ranges m.form m.owner bare (child_pointer level c)))

-- one level more
pub levels_more : (generation level skip : ℕ) (slots sizes : List ℕ) (n : ℕ)
    → level_pointers generation level skip slots (sizes ++ n ∷ []) ≡ level_pointers generation level skip slots sizes ++ pointers_to generation (level + length sizes) (skip + sum sizes) n slots
levels_more generation level skip slots [] n =
    append-nil (pointers_to generation level skip n slots) ∙ ap (λ (l : ℕ). pointers_to generation l skip n slots) (let e : level ≡ level + 0 = omega arith in e)
    ∙ ap (λ (k : ℕ). pointers_to generation (level + 0) k n slots) (let e : skip ≡ skip + 0 = omega arith in e)
levels_more generation level skip slots (m ∷ sizes) n =
    ap (λ ps. pointers_to generation level skip m slots ++ ps) (levels_more generation (suc level) (skip + m) slots sizes n)
    ∙ (sym (append_assoc (pointers_to generation level skip m slots) (level_pointers generation (suc level) (skip + m) slots sizes) (pointers_to generation (suc level + length sizes) (skip + m + sum sizes) n slots))
    ∙ (ap (λ (l : ℕ). level_pointers generation level skip slots (m ∷ sizes) ++ pointers_to generation l (skip + m + sum sizes) n slots) (let e : suc level + length sizes ≡ level + length (m ∷ sizes) = omega arith in e)
    ∙ ap (λ (k : ℕ). level_pointers generation level skip slots (m ∷ sizes) ++ pointers_to generation (level + length (m ∷ sizes)) k n slots)
    (let e : skip + m + sum sizes ≡ skip + sum (m ∷ sizes) = omega (arith, sum_by-cons (λ x. x) m sizes) in e)))
