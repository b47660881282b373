-- A stack of pointers as its top goes and as a node's children come.
use Rattle.btr_reader_walk.proofs.Imports.{◌≡◌, ℕ, zero, suc, ◌+◌, ◌*◌, ◌≤◌, ◌<◌, eqb, nat_le, Bool, true, false, ◌||◌, List, [], ◌∷◌, ◌++◌, Option, Some, None, length, map, reverse, refl, sym, ◌∙◌, ap, arith, append_assoc, inl, inr, flat_map, append-nil, reverse-append, nat_tests, Child, both, joined, NodeEntry, child_entry, stacked, is_stack, is_node_size, weight, stack_weight}
use Rattle.std.proofs.lemmas.Nat.{mul-le}
use Rattle.std.specs.Option.{option_to_list}
use Rattle.std.proofs.Math.Nat.{suc-mul}
use Rattle.btr_node.specs.NodeSize.{IsNodeSize}

pub stack_push : {A : Type 0} (f : NodeEntry → List A) (ps : List NodeEntry) (p : NodeEntry) → stacked f (ps ++ p ∷ []) ≡ f p ++ stacked f ps
stack_push f [] p = sym (append-nil (f p))
stack_push f (q ∷ ps) p = ap (λ z. z ++ f q) (stack_push f ps p) ∙ append_assoc (f p) (stacked f ps) (f q)

-- the children of a node, the first one last
abbrev pub turned : ℕ → List Child → List NodeEntry
turned level cs = reverse (map (child_entry level) cs)

turned_more : (level : ℕ) (c : Child) (cs : List Child) → turned level (c ∷ cs) ≡ turned level cs ++ child_entry level c ∷ []
turned_more level c cs = reverse-append (child_entry level c ∷ []) (map (child_entry level) cs)

-- with one child more on top
on_top : (ps : List NodeEntry) (level : ℕ) (c : Child) (cs : List Child) → ps ++ turned level (c ∷ cs) ≡ (ps ++ turned level cs) ++ child_entry level c ∷ []
on_top ps level c cs = ap (λ (z : List NodeEntry). ps ++ z) (turned_more level c cs) ∙ sym (append_assoc ps (turned level cs) (child_entry level c ∷ []))

pub stack_children : {A : Type 0} (f : NodeEntry → List A) (ps : List NodeEntry) (level : ℕ) (cs : List Child)
    → stacked f (ps ++ turned level cs) ≡ flat_map (λ c. f (child_entry level c)) cs ++ stacked f ps
stack_children f ps level [] = ap (stacked f) (append-nil ps)
stack_children f ps level (c ∷ cs) =
    ap (stacked f) (on_top ps level c cs)
    ∙ (stack_push f (ps ++ turned level cs) (child_entry level c)
    ∙ (ap (λ z. f (child_entry level c) ++ z) (stack_children f ps level cs)
    ∙ sym (append_assoc (f (child_entry level c)) (flat_map (λ d. f (child_entry level d)) cs) (stacked f ps))))

length-one : (ps : List NodeEntry) (p : NodeEntry) → length (ps ++ p ∷ []) ≡ length ps + 1
length-one [] p = omega arith
length-one (q ∷ ps) p = omega (arith, length-one ps p)

pub length-turned : (ps : List NodeEntry) (level : ℕ) (cs : List Child) → length (ps ++ turned level cs) ≡ length ps + length cs
length-turned ps level [] = ap (λ (z : List NodeEntry). length z) (append-nil ps) ∙ omega arith
length-turned ps level (c ∷ cs) =
    ap (λ (z : List NodeEntry). length z) (on_top ps level c cs)
    ∙ (length-one (ps ++ turned level cs) (child_entry level c) ∙ omega (arith, length-turned ps level cs))

pub weight_push : (n : ℕ) (ps : List NodeEntry) (p : NodeEntry) → stack_weight n (ps ++ p ∷ []) ≡ weight n p.pointer.level + stack_weight n ps
weight_push n [] p = refl
weight_push n (q ∷ ps) p = omega (arith, weight_push n ps p)

pub weight_children : (n : ℕ) (ps : List NodeEntry) (level : ℕ) (cs : List Child) → stack_weight n (ps ++ turned level cs) ≡ length cs * weight n level + stack_weight n ps
weight_children n ps level [] = ap (stack_weight n) (append-nil ps) ∙ omega arith
weight_children n ps level (c ∷ cs) =
    ap (stack_weight n) (on_top ps level c cs)
    ∙ (weight_push n (ps ++ turned level cs) (child_entry level c)
    ∙ omega (arith, weight_children n ps level cs, suc-mul (length cs) (weight n level)))

-- all children of a node weigh less than the node
pub children_lighter : (n count level : ℕ) → count ≤ n → count * weight n level < weight n (suc level)
children_lighter n count level few = omega (arith, mul-le count (weight n level) n (weight n level) few (omega arith))

le_test : (a b : ℕ) → nat_le a b ≡ true → a ≤ b
le_test a b h = grind (arith, nat_tests, h)

test_le : (a b : ℕ) → a ≤ b → nat_le a b ≡ true
test_le a b h = grind (arith, nat_tests, h)

-- the top of a stack, and what is below it
pub stack_top : (limit fan i : ℕ) (ps : List NodeEntry) (p : NodeEntry) → is_stack limit fan i (ps ++ p ∷ []) ≡ true → i + length ps + p.pointer.level * fan ≤ limit
stack_top limit fan i [] p h = omega (arith, le_test (i + p.pointer.level * fan) limit (both (nat_le (i + p.pointer.level * fan) limit) true h).0)
stack_top limit fan i (q ∷ ps) p h =
    omega (arith, stack_top limit fan (suc i) ps p (both (nat_le (i + q.pointer.level * fan) limit) (is_stack limit fan (suc i) (ps ++ p ∷ [])) h).1)

pub stack_below : (limit fan i : ℕ) (ps : List NodeEntry) (p : NodeEntry) → is_stack limit fan i (ps ++ p ∷ []) ≡ true → is_stack limit fan i ps ≡ true
stack_below limit fan i [] p h = refl
stack_below limit fan i (q ∷ ps) p h =
    let parts = both (nat_le (i + q.pointer.level * fan) limit) (is_stack limit fan (suc i) (ps ++ p ∷ [])) h in
    joined (nat_le (i + q.pointer.level * fan) limit) (is_stack limit fan (suc i) ps) parts.0 (stack_below limit fan (suc i) ps p parts.1)

pub stack_popped : (limit fan : ℕ) (old new : List NodeEntry) (o : Option NodeEntry) → old ≡ new ++ option_to_list o → is_stack limit fan 0 old ≡ true → is_stack limit fan 0 new ≡ true
stack_popped limit fan old new None is h = ap (is_stack limit fan 0) (sym (is ∙ append-nil new)) ∙ h
stack_popped limit fan old new (Some e) is h = stack_below limit fan 0 new e (ap (is_stack limit fan 0) (sym is) ∙ h)

stack_more : (limit fan i : ℕ) (ps : List NodeEntry) (p : NodeEntry) → is_stack limit fan i ps ≡ true → i + length ps + p.pointer.level * fan ≤ limit → is_stack limit fan i (ps ++ p ∷ []) ≡ true
stack_more limit fan i [] p h room = joined (nat_le (i + p.pointer.level * fan) limit) true (test_le (i + p.pointer.level * fan) limit (omega (arith, room))) refl
stack_more limit fan i (q ∷ ps) p h room =
    let parts = both (nat_le (i + q.pointer.level * fan) limit) (is_stack limit fan (suc i) ps) h in
    joined (nat_le (i + q.pointer.level * fan) limit) (is_stack limit fan (suc i) (ps ++ p ∷ [])) parts.0 (stack_more limit fan (suc i) ps p parts.1 (omega (arith, room)))

pub stack_with_children : (limit fan level : ℕ) (ps : List NodeEntry) (cs : List Child) → is_stack limit fan 0 ps ≡ true → length ps + suc level * fan ≤ limit → length cs ≤ fan
    → is_stack limit fan 0 (ps ++ turned level cs) ≡ true
stack_with_children limit fan level ps [] h room few = ap (is_stack limit fan 0) (append-nil ps) ∙ h
stack_with_children limit fan level ps (c ∷ cs) h room few =
    ap (is_stack limit fan 0) (on_top ps level c cs)
    ∙ stack_more limit fan 0 (ps ++ turned level cs) (child_entry level c) (stack_with_children limit fan level ps cs h room (omega (arith, few)))
    (omega (arith, room, few, length-turned ps level cs, suc-mul level fan))

eq_test : (a b : ℕ) → eqb a b ≡ true → a ≡ b
eq_test a b h = grind (arith, nat_tests, h)

by_tests : (n : ℕ) (a b c d e : Bool) → eqb n 4096 ≡ a → eqb n 8192 ≡ b → eqb n 16384 ≡ c → eqb n 32768 ≡ d → eqb n 65536 ≡ e → (a || (b || (c || (d || e)))) ≡ true → IsNodeSize n
by_tests n true b c d e ta tb tc td te h = inl (eq_test n 4096 ta)
by_tests n false true c d e ta tb tc td te h = inr (inl (eq_test n 8192 tb))
by_tests n false false true d e ta tb tc td te h = inr (inr (inl (eq_test n 16384 tc)))
by_tests n false false false true e ta tb tc td te h = inr (inr (inr (inl (eq_test n 32768 td))))
by_tests n false false false false e ta tb tc td te h = inr (inr (inr (inr (eq_test n 65536 (te ∙ h)))))

pub sized : (n : ℕ) → is_node_size n ≡ true → IsNodeSize n
sized n h = by_tests n (eqb n 4096) (eqb n 8192) (eqb n 16384) (eqb n 32768) (eqb n 65536) refl refl refl refl refl h
