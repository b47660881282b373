-- What stands in a leaf.
use Rattle.btr_node.proofs.Imports.{◌≡◌, ◌≤◌, ◌<◌, ℕ, zero, suc, ◌+◌, ◌*◌, Bool, true, false, ◌&&◌, List, ◌∷◌, length, drop, get_or, map, refl, sym, ap, ◌∙◌, arith, length-drop, Decides, nat_le, nat_tests, Decides-and, Decides-like, get_or-map, length-map, HEADER_SIZE, ITEM_SIZE, key_layout, Key, IsWithin, has_areas, nritems, behind_head, Item, item_layout, item_of, head_at, heads_in, items_in, keys_of, HasLeafLayout, has_leaf_layout, records_in}
use Rattle.btr_node.proofs.Apart.{areas_decide, le_decides}
use Rattle.btr_node.proofs.Rows.{length-records_in, record_at}

pub length-items_in : (bytes : List ℕ) → length (items_in bytes) ≡ nritems bytes
unfolding items_in heads_in
length-items_in bytes = length-map (heads_in bytes) (item_of (behind_head bytes)) ∙ length-records_in ITEM_SIZE item_layout (nritems bytes) (behind_head bytes)

pub item_at : (bytes : List ℕ) (i : ℕ) → i < nritems bytes → (other : Item) → get_or (items_in bytes) i other ≡ item_of (behind_head bytes) (head_at bytes i)
unfolding items_in heads_in
item_at bytes i lt other =
    let here = head_at bytes i in
    get_or-map (item_of (behind_head bytes)) (heads_in bytes) i here other (omega (arith, length-records_in ITEM_SIZE item_layout (nritems bytes) (behind_head bytes)))
    ∙ ap (item_of (behind_head bytes)) (record_at ITEM_SIZE item_layout (nritems bytes) i (behind_head bytes) here lt)

pub head_within : (bytes : List ℕ) → HasLeafLayout bytes → (i : ℕ) → i < nritems bytes → IsWithin (ITEM_SIZE * nritems bytes) (length (behind_head bytes)) (head_at bytes i)
unfolding heads_in
head_within bytes layout i lt =
    let here = head_at bytes i in
    rw (← record_at ITEM_SIZE item_layout (nritems bytes) i (behind_head bytes) here lt)
    (layout.areas.within i here (omega (arith, lt, length-records_in ITEM_SIZE item_layout (nritems bytes) (behind_head bytes))))

-- the keys are what the heads begin with
keys-records_in : (behind : List ℕ) (n : ℕ) (bytes : List ℕ) → map (λ (item : Item). item.0) (map (item_of behind) (records_in ITEM_SIZE item_layout n bytes)) ≡ records_in ITEM_SIZE key_layout n bytes
unfolding item_layout
keys-records_in behind zero bytes = refl
keys-records_in behind (suc n) bytes = ap (λ (keys : List Key). key_layout.read bytes ∷ keys) (keys-records_in behind n (drop ITEM_SIZE bytes))

pub keys_of-items_in : (bytes : List ℕ) → keys_of (items_in bytes) ≡ records_in ITEM_SIZE key_layout (nritems bytes) (behind_head bytes)
unfolding items_in heads_in
keys_of-items_in bytes = keys-records_in (behind_head bytes) (nritems bytes) (behind_head bytes)

pub leaf_layout_decides : (bytes : List ℕ) → Decides (has_leaf_layout bytes) (HasLeafLayout bytes)
unfolding has_leaf_layout
leaf_layout_decides bytes =
    Decides-like (has_leaf_layout bytes) (λ parts. record { heads = parts.0; areas = parts.1 }) (λ layout. (layout.heads, layout.areas))
    (Decides-and _ _ (le_decides (HEADER_SIZE + ITEM_SIZE * nritems bytes) (length bytes)) (areas_decide (ITEM_SIZE * nritems bytes) (length (behind_head bytes)) (heads_in bytes)))

-- the heads lie behind the node's head
pub heads_there : (bytes : List ℕ) → HasLeafLayout bytes → ITEM_SIZE * nritems bytes ≤ length (behind_head bytes)
heads_there bytes layout = omega (arith, layout.heads, length-drop HEADER_SIZE bytes)

pub head_there : (bytes : List ℕ) → HasLeafLayout bytes → (i : ℕ) → i < nritems bytes → ITEM_SIZE * i + ITEM_SIZE ≤ length (behind_head bytes)
head_there bytes layout i lt = omega (arith, heads_there bytes layout)

-- the test of a layout by its parts
pub layout_true : (bytes behind : List ℕ) (n : ℕ) (test : Bool) → n ≡ nritems bytes → behind ≡ behind_head bytes → HEADER_SIZE + ITEM_SIZE * n ≤ length bytes
    → test ≡ has_areas (ITEM_SIZE * n) (length behind) (records_in ITEM_SIZE item_layout n behind) → test ≡ has_leaf_layout bytes
unfolding has_leaf_layout heads_in
layout_true bytes behind n test is-n is-behind within told =
    let fits : nat_le (HEADER_SIZE + ITEM_SIZE * nritems bytes) (length bytes) ≡ true = (le_decides (HEADER_SIZE + ITEM_SIZE * nritems bytes) (length bytes)).1 (omega (arith, is-n)) in
    told
    ∙ ap (λ (k : ℕ). has_areas (ITEM_SIZE * k) (length behind) (records_in ITEM_SIZE item_layout k behind)) is-n
    ∙ ap (λ (s : List ℕ). has_areas (ITEM_SIZE * nritems bytes) (length s) (records_in ITEM_SIZE item_layout (nritems bytes) s)) is-behind
    ∙ ap (λ (b : Bool). b && has_areas (ITEM_SIZE * nritems bytes) (length (behind_head bytes)) (records_in ITEM_SIZE item_layout (nritems bytes) (behind_head bytes))) (sym fits)

pub layout_false : (bytes : List ℕ) (n : ℕ) → n ≡ nritems bytes → length bytes < HEADER_SIZE + ITEM_SIZE * n → nat_le (HEADER_SIZE + ITEM_SIZE * n) (length bytes) ≡ has_leaf_layout bytes
unfolding has_leaf_layout
layout_false bytes n is-n past =
    let fits : nat_le (HEADER_SIZE + ITEM_SIZE * n) (length bytes) ≡ false = grind (arith, nat_tests) in
    fits
    ∙ ap (λ (b : Bool). b && has_areas (ITEM_SIZE * nritems bytes) (length (behind_head bytes)) (heads_in bytes)) (sym fits)
    ∙ ap (λ (k : ℕ). nat_le (HEADER_SIZE + ITEM_SIZE * k) (length bytes) && has_areas (ITEM_SIZE * nritems bytes) (length (behind_head bytes)) (heads_in bytes)) is-n
