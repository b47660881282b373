-- Steps of a walk over items.
use Rattle.btr_check_walk.proofs.Imports.{◌≡◌, ℕ, ◌+◌, ◌<◌, Bool, true, false, List, [], ◌∷◌, ◌++◌, length, map, take, drop, get_or, Option, Some, None, Contains, Result, MatchResult, ◌⊎◌, if◌then◌else◌, refl, sym, ◌∙◌, ap, subst, arith, append_assoc, ap₂, inl, inr, append-nil, map-append, take-append-drop, take_more, Contains-append_left, Contains-append_right, MatchResult-weaker, last_after-append, none_both, order_damages-append, BtrRefusal, Key, Item, TreeItem, in_leaf, at_address, is_above, order_damages, last_after, Trees, part_number, BreaksTrees, TellsPart, EndsWalk, InOrder, IsRefused, Stands, Answer, KeyOrder}
use Rattle.btr_check_rules.specs.btr_reader.refusals.declared.refusal.BtrRefusal.TheVariants.{BadBtrfs}
use Rattle.command_answers.specs.declared.answer.Answer.TheVariants as answers
use Rattle.btr_check_walk.proofs.Told.{tells_weaker}

-- what is wrong with the order of an item's key
abbrev order_at : Bool → TreeItem → List BtrRefusal
order_at above i = at_address i.leaf (if above then [] else KeyOrder ∷ []) ++ []

is_at : (last : Option Key) (items : List TreeItem) (i : TreeItem) (b : Bool) → last ≡ last_after None items → is_above last i.key ≡ b → is_above (last_after None items) i.key ≡ b
is_at last items i b last_is is = ap (λ (l : Option Key). is_above l i.key) (sym last_is) ∙ is

in_order : (last : Option Key) (items : List TreeItem) (i : TreeItem) → last ≡ last_after None items → InOrder items → is_above last i.key ≡ true → InOrder (items ++ i ∷ [])
in_order last items i last_is order above =
    order_damages-append None items (i ∷ []) ∙ none_both (order_damages None items) _ order (ap (λ (b : Bool). order_at b i) (is_at last items i true last_is above))

out_of_order : (last : Option Key) (items : List TreeItem) (i : TreeItem) → last ≡ last_after None items → is_above last i.key ≡ false
    → Contains (order_damages None (items ++ i ∷ [])) (BadBtrfs i.leaf KeyOrder)
out_of_order last items i last_is low =
    let r : BtrRefusal = BadBtrfs i.leaf KeyOrder in
    let here : Contains (order_at (is_above (last_after None items) i.key) i) r =
    subst (λ (b : Bool). Contains (order_at b i) r) (sym (is_at last items i false last_is low)) (0, omega arith, refl) in
    subst (λ (z : List BtrRefusal). Contains z r) (sym (order_damages-append None items (i ∷ []))) (Contains-append_right (order_damages None items) _ r here)

-- an item whose key is not above the last one
pub refused_order : (holds : List TreeItem → Type 0) (refuses : List TreeItem → ℕ → ℕ → Type 0) (last : Option Key) (items : List TreeItem) (i : TreeItem) → Stands holds last items → is_above last i.key ≡ false
    → EndsWalk (order_damages None (items ++ i ∷ [])) refuses (items ++ i ∷ []) (answers.NotSound (part_number Trees) i.leaf)
refused_order holds refuses last items i stands low = inl (refl, (BadBtrfs i.leaf KeyOrder, out_of_order last items i stands.last_is low, refl))

-- an item that the visitor was given
pub given_one : {T : Type 0} (r : Result T Answer) (holds after : List TreeItem → Type 0) (refuses : List TreeItem → ℕ → ℕ → Type 0) (last : Option Key) (items : List TreeItem) (i : TreeItem)
    → Stands holds last items → is_above last i.key ≡ true
    → (holds items → InOrder (items ++ i ∷ []) → MatchResult r (λ _. after (items ++ i ∷ [])) (TellsPart (refuses (items ++ i ∷ []))))
    → MatchResult r (λ _. Stands after (Some i.key) (items ++ i ∷ [])) (EndsWalk (order_damages None (items ++ i ∷ [])) refuses (items ++ i ∷ []))
given_one r holds after refuses last items i stands above visited =
    let now : List TreeItem = items ++ i ∷ [] in
    let order : InOrder now = in_order last items i stands.last_is stands.order above in
    MatchResult-weaker r (visited stands.held order)
    (λ x held. record { held = held; last_is = sym (last_after-append None items (i ∷ [])); order = order })
    (tells_weaker (refuses now) (λ part a. BreaksTrees (order_damages None now) part a ⊎ IsRefused refuses now part a) (λ part a refused. inr (now, [], sym (append-nil now), order, refused)))

-- what ends a walk ends it where more items would come, too
pub ends_before : (before after : List BtrRefusal) (refuses : List TreeItem → ℕ → ℕ → Type 0) (items more : List TreeItem) → ((r : BtrRefusal) → Contains before r → Contains after r)
    → (e : Answer) → EndsWalk before refuses items e → EndsWalk after refuses (items ++ more) e
ends_before before after refuses items more within =
    tells_weaker (λ part a. BreaksTrees before part a ⊎ IsRefused refuses items part a) (λ part a. BreaksTrees after part a ⊎ IsRefused refuses (items ++ more) part a)
    (λ part a. elim [
      | inl breaks ↦ inl (breaks.0, (breaks.1.0, within breaks.1.0 breaks.1.1, breaks.1.2))
      | inr refused ↦ inr (refused.0, refused.1 ++ more, ap (λ (z : List TreeItem). z ++ more) refused.2 ∙ append_assoc refused.0 refused.1 more, refused.3, refused.4)
    ])

-- the same where only the order of keys was broken so far
pub ends_order : (refuses : List TreeItem → ℕ → ℕ → Type 0) (items more : List TreeItem) (e : Answer) → EndsWalk (order_damages None items) refuses items e
    → EndsWalk (order_damages None (items ++ more)) refuses (items ++ more) e
ends_order refuses items more e =
    ends_before (order_damages None items) (order_damages None (items ++ more)) refuses items more
    (λ r has. subst (λ (z : List BtrRefusal). Contains z r) (sym (order_damages-append None items more)) (Contains-append_left (order_damages None items) (order_damages (last_after None items) more) r has)) e

-- ---- the items of a leaf, after others

abbrev pub with_first : ℕ → List Item → List TreeItem → ℕ → List TreeItem
with_first address xs items i = items ++ map (in_leaf address) (take i xs)

pub first_more : (address : ℕ) (xs : List Item) (items : List TreeItem) (i : ℕ) (x : Item) → i < length xs → get_or xs i x ≡ x
    → with_first address xs items i ++ in_leaf address x ∷ [] ≡ with_first address xs items (i + 1)
first_more address xs items i x lt is =
    append_assoc items (map (in_leaf address) (take i xs)) (in_leaf address x ∷ [])
    ∙ ap (λ (z : List TreeItem). items ++ z)
    (ap (λ (y : Item). map (in_leaf address) (take i xs) ++ in_leaf address y ∷ []) (sym is)
    ∙ (sym (map-append (in_leaf address) (take i xs) (get_or xs i x ∷ [])) ∙ ap (map (in_leaf address)) (sym (take_more xs i x lt))))

pub first_all : (address : ℕ) (xs : List Item) (items : List TreeItem) (i : ℕ) → with_first address xs items i ++ map (in_leaf address) (drop i xs) ≡ items ++ map (in_leaf address) xs
first_all address xs items i =
    append_assoc items (map (in_leaf address) (take i xs)) (map (in_leaf address) (drop i xs))
    ∙ ap (λ (z : List TreeItem). items ++ z) (sym (map-append (in_leaf address) (take i xs) (drop i xs)) ∙ ap (map (in_leaf address)) (take-append-drop i xs))

pub leaf_item : (view xs : List Item) (i : ℕ) (key : Key) (body : List ℕ) → view ≡ xs → ((other : Item) → key ≡ (get_or view i other).0) → ((other : Item) → body ≡ (get_or view i other).1)
    → get_or xs i (key, body) ≡ (key, body)
leaf_item view xs i key body seen key_is body_is =
    subst (λ (z : List Item). get_or z i (key, body) ≡ (key, body)) seen (ap₂ (λ (k : Key) (b : List ℕ). (k, b)) (sym (key_is (key, body))) (sym (body_is (key, body))))

-- a walk that ended in a leaf ended before the end of the leaf
pub leaf_ends : (refuses : List TreeItem → ℕ → ℕ → Type 0) (address : ℕ) (xs : List Item) (items : List TreeItem) (i : ℕ) (x : Item) → i < length xs → get_or xs i x ≡ x
    → (e : Answer) → EndsWalk (order_damages None (with_first address xs items i ++ in_leaf address x ∷ [])) refuses (with_first address xs items i ++ in_leaf address x ∷ []) e
    → EndsWalk (order_damages None (items ++ map (in_leaf address) xs)) refuses (items ++ map (in_leaf address) xs) e
leaf_ends refuses address xs items i x lt is e ends =
    let by : List TreeItem → Type 0 = λ z. EndsWalk (order_damages None z) refuses z e in
    subst by (first_all address xs items (i + 1))
    (ends_order refuses (with_first address xs items (i + 1)) (map (in_leaf address) (drop (i + 1) xs)) e (subst by (first_more address xs items i x lt is) ends))
