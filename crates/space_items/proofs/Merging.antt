-- Lists of items, put together by their keys.
use Rattle.space_items.proofs.Imports.{◌≡◌, ◌≢◌, ◌≤◌, ◌<◌, ◌⊎◌, ℕ, zero, suc, ◌+◌, ◌-◌, List, [], ◌∷◌, ◌++◌, length, take, drop, get_or, Some, refl, sym, ap, subst, ◌∙◌, append_assoc, arith, ⊎_elim, inl, inr, slice_get, slice_range, IsTotalOrder, nat_cmp, ordering_then, ordering_reverse, Ordering, Less, Equal, Greater, cases_eq, nat_cmp_total, on_total, then_total, length-drop, take_all, slice_get-get_or, Key, key_cmp, IsBefore, Item, merged, item_cmp}
use Rattle.std.proofs.lemmas.Map.Lookups.{exact_unsigned}
use Rattle.btr_item_list.proofs.Joining.{no_item, range_push}
use Rattle.space_items.proofs.Merges.{merge-nil, merge-less, merge-greater}

pub key_total : IsTotalOrder key_cmp
key_total = then_total (on_total (λ (k : Key). k.objectid) nat_cmp_total) (then_total (on_total (λ (k : Key). k.kind) nat_cmp_total) (on_total (λ (k : Key). k.offset) nat_cmp_total))

-- one key is before another, or they are equal, or the other is before it
cases_Ordering : (o : Ordering) → (o ≡ Less) ⊎ ((o ≡ Equal) ⊎ (o ≡ Greater))
cases_Ordering Less = inl refl
cases_Ordering Equal = inr (inl refl)
cases_Ordering Greater = inr (inr refl)

then_equal : (a b : Ordering) → ordering_then a b ≡ Equal → (a ≡ Equal) × (b ≡ Equal)
then_equal Less b e = absurd cc
then_equal Equal b e = (refl, e)
then_equal Greater b e = absurd cc

pub same_kind : (a b : Key) → key_cmp a b ≡ Equal → a.kind ≡ b.kind
same_kind a b e = exact_unsigned a.kind b.kind (then_equal (nat_cmp a.kind b.kind) (nat_cmp a.offset b.offset) (then_equal (nat_cmp a.objectid b.objectid) _ e).1).0

-- those of the other list that are before it
pub merged_behind : (x : Item) (xs ys : List Item) (n : ℕ) → n ≤ length ys → ((k : ℕ) (d : Item) → k < n → IsBefore (get_or ys k d).0 x.0) → merged (x ∷ xs) ys ≡ take n ys ++ merged (x ∷ xs) (drop n ys)
merged_behind x xs ys zero within before = refl
merged_behind x xs [] (suc n) within before = absurd (omega (arith, within))
merged_behind x xs (y ∷ ys) (suc n) within before =
    merge-greater item_cmp x xs y ys (key_total.antisymm x.0 y.0 ∙ ap ordering_reverse (before 0 y (omega arith)))
    ∙ ap (λ (l : List Item). y ∷ l) (merged_behind x xs ys n (omega (arith, within)) (λ k d h. before (suc k) d (omega (arith, h))))

-- an item that is behind none of the other list, and has a kind of its own
pub merged_ahead : (x : Item) (xs ys : List Item) → ((d : Item) → 0 < length ys → IsBefore (get_or ys 0 d).0 x.0 → ⊥) → ((d : Item) → 0 < length ys → (get_or ys 0 d).0.kind ≢ x.0.kind) → merged (x ∷ xs) ys ≡ x ∷ merged xs ys
merged_ahead x xs [] low apart = ap (λ (l : List Item). x ∷ l) (sym (merge-nil item_cmp xs))
merged_ahead x xs (y ∷ ys) low apart =
    ⊎_elim (λ (less : key_cmp x.0 y.0 ≡ Less). merge-less item_cmp x xs y ys less)
    (λ rest. ⊎_elim (λ (equal : key_cmp x.0 y.0 ≡ Equal). absurd (apart y (omega arith) (sym (same_kind x.0 y.0 equal))))
    (λ (greater : key_cmp x.0 y.0 ≡ Greater). absurd (low y (omega arith) (key_total.antisymm y.0 x.0 ∙ ap ordering_reverse greater)))
    rest)
    (cases_Ordering (key_cmp x.0 y.0))

-- one item more of a range of another list
pub range_more : (initial old new more : List Item) (first i : ℕ) (key : Key) (body : List ℕ) → first ≤ i → i < length more → old ≡ initial ++ slice_range more first i
    → ((item : Item) → slice_get more i ≡ Some item → key ≡ item.0) → ((item : Item) → slice_get more i ≡ Some item → body ≡ item.1) → new ≡ old ++ (key, body) ∷ []
    → new ≡ initial ++ slice_range more first (i + 1)
range_more initial old new more first i key body low within built key_is body_is new_is =
    let item : Item = get_or more i no_item in
    let there = slice_get-get_or more i no_item within in
    new_is ∙ (ap (λ (l : List Item). l ++ (key, body) ∷ []) built ∙ (append_assoc initial (slice_range more first i) ((key, body) ∷ [])
    ∙ ap (λ (l : List Item). initial ++ l) (ap (λ (k : Key). slice_range more first i ++ (k, body) ∷ []) (key_is item there) ∙ (ap (λ (b : List ℕ). slice_range more first i ++ (item.0, b) ∷ []) (body_is item there)
    ∙ sym (range_push first i more no_item low within)))))

-- all of them from one on
pub range_all : (more : List Item) (first i : ℕ) → length more ≤ i → slice_range more first i ≡ drop first more
range_all more first i past = take_all (i - first) (drop first more) (omega (arith, length-drop first more, past))

-- what is told of an item, by its place
pub key_at : (items : List Item) (i : ℕ) (key : Key) → i < length items → ((item : Item) → slice_get items i ≡ Some item → key ≡ item.0) → (d : Item) → key ≡ (get_or items i d).0
key_at items i key within is d = is (get_or items i d) (slice_get-get_or items i d within)

-- one more that is before a key
pub before_more : (items : List Item) (first i : ℕ) (key own : Key) → ((k : ℕ) (d : Item) → first ≤ k → k < i → IsBefore (get_or items k d).0 key) → ((d : Item) → own ≡ (get_or items i d).0) → IsBefore own key
    → (k : ℕ) (d : Item) → first ≤ k → k < i + 1 → IsBefore (get_or items k d).0 key
before_more items first i key own before is this k d low high =
    ⊎_elim (λ (same : k ≡ i). subst (λ (n : ℕ). IsBefore (get_or items n d).0 key) (sym same) (subst (λ (own : Key). IsBefore own key) (is d) this))
    (λ (other : k ≡ i → ⊥). before k d low (omega arith))
    (cases_eq k i)
