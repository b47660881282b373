-- What a node that was read breaks, and its children on the stack.
use Rattle.btr_reader_walk.proofs.Imports.{◌≡◌, ℕ, zero, suc, ◌+◌, ◌-◌, ◌≤◌, ◌<◌, eqb, nat_lt, Bool, true, false, ◌||◌, List, [], ◌∷◌, ◌++◌, length, drop, get_or, map, reverse, Contains, if◌then◌else◌, ◌⊎◌, inl, inr, refl, sym, ◌∙◌, ap, subst, arith, append_assoc, drop_more, reverse-append, length-map, Contains-append_left, Contains-append_right, nat_tests, BtrRule, NodeHead, nritems, behind_head, items_in, heads_in, item_of, item_layout, HasInnerLayout, children_in, child_layout, broken, leaf_damages, inner_damages, Child, Expect, length-records_in, NodeEntry, child_entries, child_entry, content_damages, fan_out}
use Rattle.btr_node.specs.btrfs_format.declared.size.TheConstants.{ITEM_SIZE, KEY_PTR_SIZE}
use Rattle.btr_reader_walk.proofs.Events.{none_both}

pub count_items : (bytes : List ℕ) → length (items_in bytes) ≡ nritems bytes
unfolding items_in heads_in
count_items bytes =
    length-map (heads_in bytes) (item_of (behind_head bytes))
    ∙ length-records_in ITEM_SIZE item_layout (nritems bytes) (behind_head bytes)

pub count_children : (bytes : List ℕ) → length (children_in bytes) ≡ nritems bytes
unfolding children_in
count_children bytes = length-records_in KEY_PTR_SIZE child_layout (nritems bytes) (behind_head bytes)

pub few_children : (bytes : List ℕ) → HasInnerLayout bytes → length (children_in bytes) ≤ fan_out (length bytes)
few_children bytes layout = omega (arith, layout, count_children bytes)

abbrev at_level : Expect → Bool → List ℕ → Bool → List BtrRule
at_level want bare bytes leaf = if leaf then leaf_damages want bytes ++ broken (bare || nat_lt 0 (nritems bytes)) NodeHead else inner_damages want bytes

pub leaf_contents : (want : Expect) (bare : Bool) (bytes : List ℕ) → want.level ≡ 0
    → content_damages want bare bytes ≡ leaf_damages want bytes ++ broken (bare || nat_lt 0 (nritems bytes)) NodeHead
leaf_contents want bare bytes leaf =
    let e : eqb want.level 0 ≡ true = grind (arith, nat_tests, leaf) in
    ap (at_level want bare bytes) e

pub leaf_bad : (want : Expect) (bare : Bool) (bytes : List ℕ) (rule : BtrRule) → want.level ≡ 0 → Contains (leaf_damages want bytes) rule → Contains (content_damages want bare bytes) rule
leaf_bad want bare bytes rule leaf bad =
    subst (λ (rules : List BtrRule). Contains rules rule) (sym (leaf_contents want bare bytes leaf)) (Contains-append_left _ _ rule bad)

broken_in : (test : Bool) → test ≡ false → Contains (broken test NodeHead) NodeHead
broken_in test e = rw e (0, omega arith, refl)

either : (bare some : Bool) → bare ≡ false → some ≡ false → (bare || some) ≡ false
either bare some b s = rw (b, s) refl

some_of : (n : ℕ) → n ≡ 0 → nat_lt 0 n ≡ false
some_of n e = grind (arith, nat_tests, e)

pub leaf_empty : (want : Expect) (bare : Bool) (bytes : List ℕ) → want.level ≡ 0 → bare ≡ false → length (items_in bytes) ≡ 0 → Contains (content_damages want bare bytes) NodeHead
leaf_empty want bare bytes leaf full none =
    subst (λ (rules : List BtrRule). Contains rules NodeHead) (sym (leaf_contents want bare bytes leaf))
    (Contains-append_right (leaf_damages want bytes) _ NodeHead
    (broken_in (bare || nat_lt 0 (nritems bytes)) (either bare (nat_lt 0 (nritems bytes)) full (some_of (nritems bytes) (sym (count_items bytes) ∙ none)))))

some_test : (n k : ℕ) → n ≡ k → 0 < n → nat_lt 0 k ≡ true
some_test n k e h = grind (arith, nat_tests, e, h)

or_right : (bare some : Bool) → some ≡ true → (bare || some) ≡ true
or_right true some e = refl
or_right false some e = e

or_left : (bare some : Bool) → bare ≡ true → (bare || some) ≡ true
or_left bare some e = rw e refl

pub leaf_right : (want : Expect) (bare : Bool) (bytes : List ℕ) → want.level ≡ 0 → leaf_damages want bytes ≡ [] → (bare ≡ true) ⊎ (0 < length (items_in bytes)) → content_damages want bare bytes ≡ []
leaf_right want bare bytes leaf none (inl b) = leaf_contents want bare bytes leaf ∙ none_both (leaf_damages want bytes) _ none (ap (λ t. broken t NodeHead) (or_left bare (nat_lt 0 (nritems bytes)) b))
leaf_right want bare bytes leaf none (inr h) =
    leaf_contents want bare bytes leaf
    ∙ none_both (leaf_damages want bytes) _ none (ap (λ t. broken t NodeHead) (or_right bare (nat_lt 0 (nritems bytes)) (some_test (length (items_in bytes)) (nritems bytes) (count_items bytes) h)))

-- a child more on the stack
pub pushed_more : (node : List Child) (left level : ℕ) (child : Child) (before pending : List NodeEntry) → 0 < left → left ≤ length node → child ≡ get_or node (left - 1) child
    → pending ≡ before ++ reverse (map (child_entry level) (drop left node))
    → pending ++ child_entry level child ∷ [] ≡ before ++ reverse (map (child_entry level) (drop (left - 1) node))
pushed_more node left level child before pending some few is are =
    let here : left - 1 + 1 ≡ left = omega arith in
    let next : drop (left - 1) node ≡ child ∷ drop left node =
    drop_more node (left - 1) child (omega arith) ∙ (ap (λ c. c ∷ drop (left - 1 + 1) node) (sym is) ∙ ap (λ k. child ∷ drop k node) here) in
    let later : List NodeEntry = map (child_entry level) (drop left node) in
    let turned : reverse (child_entry level child ∷ later) ≡ reverse later ++ child_entry level child ∷ [] = reverse-append (child_entry level child ∷ []) later in
    ap (λ z. z ++ child_entry level child ∷ []) are
    ∙ (append_assoc before (reverse later) (child_entry level child ∷ [])
    ∙ ap (λ (z : List NodeEntry). before ++ z) (sym turned ∙ ap (λ cs. reverse (map (child_entry level) cs)) (sym next)))
