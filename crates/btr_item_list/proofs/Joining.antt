-- Records of one offset become one item.
use Rattle.btr_item_list.proofs.Imports.{◌≡◌, ◌≢◌, ◌<◌, ◌≤◌, ℕ, zero, suc, ◌+◌, ◌-◌, List, [], ◌∷◌, ◌++◌, length, map, take, drop, get_or, Some, refl, sym, ap, subst, ◌∙◌, append_assoc, get_or-drop, arith, slice_get, slice_range, flat_map, append-nil, length-drop, drop-drop, Key, Item, ascending, offset_of, joined, joined_item}
use Rattle.std.proofs.lemmas.Option.{slice_get-get_or}
use Rattle.btr_node.specs.btr_keys.Key.{make_key}
use Rattle.btr_item_list.proofs.Sorting.{Sorted, ascending_sorted, ascending_of_sorted, grouped_ascending}
use Rattle.btr_item_list.proofs.Runs.{first_run, sorted_drop}

pub no_item : Item
no_item = (make_key 0 0 0, [])

pub flat_push : {A B : Type 0} (f : A → List B) (xs : List A) (x : A) → flat_map f (xs ++ x ∷ []) ≡ flat_map f xs ++ f x
flat_push f [] x = append-nil (f x)
flat_push {A} {B} f (y ∷ ys) x = ap (λ (l : List B). f y ++ l) (flat_push f ys x) ∙ sym (append_assoc (f y) (flat_map f ys) (f x))

-- one element more of a list
pub take_push : {A : Type 0} (n : ℕ) (xs : List A) (d : A) → n < length xs → take (suc n) xs ≡ take n xs ++ get_or xs n d ∷ []
take_push n [] d within = absurd (omega (arith, within))
take_push zero (x ∷ xs) d within = refl
take_push {A} (suc n) (x ∷ xs) d within = ap (λ (l : List A). x ∷ l) (take_push n xs d (omega (arith, within)))

pub range_push : {A : Type 0} (a i : ℕ) (xs : List A) (d : A) → a ≤ i → i < length xs → slice_range xs a (i + 1) ≡ slice_range xs a i ++ get_or xs i d ∷ []
range_push {A} a i xs d low within =
    let long = length-drop a xs in
    let more : i + 1 - a ≡ suc (i - a) = omega (arith, low) in
    let at : a + (i - a) ≡ i = omega (arith, low) in
    ap (λ (n : ℕ). take n (drop a xs)) more
    ∙ (take_push (i - a) (drop a xs) d (omega (arith, long, low, within))
    ∙ ap (λ (x : A). take (i - a) (drop a xs) ++ x ∷ []) (get_or-drop a xs (i - a) d ∙ ap (λ (n : ℕ). get_or xs n d) at))

pub gathered : (xs : List Item) (a i : ℕ) (body new part : List ℕ) → a ≤ i → i < length xs → body ≡ flat_map (λ j. j.1) (slice_range xs a i) → new ≡ body ++ part
    → ((item : Item) → slice_get xs i ≡ Some item → part ≡ item.1) → new ≡ flat_map (λ j. j.1) (slice_range xs a (i + 1))
gathered xs a i body new part low within built is part_is =
    let own = part_is (get_or xs i no_item) (slice_get-get_or xs i no_item within) in
    is ∙ (ap (λ (l : List ℕ). l ++ part) built ∙ (ap (λ (l : List ℕ). flat_map (λ j. j.1) (slice_range xs a i) ++ l) own
    ∙ (sym (flat_push (λ (j : Item). j.1) (slice_range xs a i) (get_or xs i no_item)) ∙ ap (flat_map (λ (j : Item). j.1)) (sym (range_push a i xs no_item low within)))))

-- the item of a run of records
pub run_added : (objectid kind : ℕ) (records old new : List Item) (next end offset : ℕ) (body : List ℕ) → records ≡ ascending offset_of records → next < end → end ≤ length records
    → ((k : ℕ) (d : Item) → next ≤ k → k < end → offset_of (get_or records k d) ≡ offset_of (get_or records next d))
    → ((d : Item) → end < length records → offset_of (get_or records end d) ≢ offset_of (get_or records next d))
    → body ≡ flat_map (λ j. j.1) (slice_range records next end)
    → ((d : Item) → offset ≡ offset_of (get_or records next d))
    → new ≡ old ++ (make_key objectid kind offset, body) ∷ []
    → new ++ joined objectid kind (drop end records) ≡ old ++ joined objectid kind (drop next records)
run_added objectid kind records old new next end offset body sorted_is some within same apart body_is offset_is new_is =
    let sorted : Sorted offset_of records = subst (Sorted offset_of) (sym sorted_is) (ascending_sorted offset_of records) in
    let long = length-drop next records in
    let m : ℕ = end - next in
    let at_end : next + m ≡ end = omega (arith, some) in
    let rest : drop m (drop next records) ≡ drop end records = drop-drop m next records ∙ ap (λ (n : ℕ). drop n records) at_end in
    let first = first_run offset_of offset m (drop next records) (sorted_drop offset_of next records sorted) (omega (arith, some)) (omega (arith, long, within, some))
    (λ k d less. ap offset_of (get_or-drop next records k d) ∙ (same (next + k) d (omega arith) (omega (arith, less, some)) ∙ sym (offset_is d)))
    (λ d less is. apart d (omega (arith, less, long, some)) (ap (λ (n : ℕ). offset_of (get_or records n d)) (sym at_end) ∙ (sym (ap offset_of (get_or-drop next records m d)) ∙ (is ∙ offset_is d)))) in
    ap (λ (l : List Item). l ++ joined objectid kind (drop end records)) new_is
    ∙ (append_assoc old ((make_key objectid kind offset, body) ∷ []) (joined objectid kind (drop end records))
    ∙ ap (λ (l : List Item). old ++ l)
    (ap (λ (b : List ℕ). (make_key objectid kind offset, b) ∷ joined objectid kind (drop end records)) body_is
    ∙ (ap (λ (l : List Item). (make_key objectid kind offset, flat_map (λ j. j.1) (slice_range records next end)) ∷ joined objectid kind l) (sym rest)
    ∙ sym (ap (map (joined_item objectid kind)) first))))

-- records in order, and what they make
pub order_again : (old new : List Item) → new ≡ ascending offset_of old → new ≡ ascending offset_of new
order_again old new is = is ∙ sym (ap (ascending offset_of) is ∙ ascending_of_sorted offset_of (ascending offset_of old) (ascending_sorted offset_of old))

pub joined_again : (objectid kind : ℕ) (old new : List Item) → new ≡ ascending offset_of old → joined objectid kind new ≡ joined objectid kind old
joined_again objectid kind old new is = ap (joined objectid kind) is ∙ ap (map (joined_item objectid kind)) (grouped_ascending offset_of old)

-- one more item of another list
pub appended_more : (initial old new more : List Item) (i : ℕ) (key : Key) (body : List ℕ) → i < length more → old ≡ initial ++ take i more
    → ((item : Item) → slice_get more i ≡ Some item → key ≡ item.0) → ((item : Item) → slice_get more i ≡ Some item → body ≡ item.1) → new ≡ old ++ (key, body) ∷ [] → new ≡ initial ++ take (i + 1) more
appended_more initial old new more i key body within built key_is body_is new_is =
    let item : Item = get_or more i no_item in
    let there = slice_get-get_or more i no_item within in
    let one : i + 1 ≡ suc i = omega arith in
    new_is ∙ (ap (λ (l : List Item). l ++ (key, body) ∷ []) built ∙ (append_assoc initial (take i more) ((key, body) ∷ [])
    ∙ ap (λ (l : List Item). initial ++ l) (ap (λ (k : Key). take i more ++ (k, body) ∷ []) (key_is item there) ∙ (ap (λ (b : List ℕ). take i more ++ (item.0, b) ∷ []) (body_is item there)
    ∙ (sym (take_push i more no_item within) ∙ ap (λ (n : ℕ). take n more) (sym one))))))
