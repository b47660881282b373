-- What stands in an inner node.
use Rattle.btr_node.proofs.Imports.{◌≡◌, ◌≤◌, ◌<◌, ℕ, zero, suc, ◌+◌, ◌*◌, List, ◌∷◌, length, drop, get_or, map, refl, ap, arith, length-drop, Decides, Decides-and, Decides-ltb, Decides-like, HEADER_SIZE, KEY_PTR_SIZE, key_layout, Key, nritems, behind_head, HasHead, child_layout, child_at, children_in, first_keys, HasInnerLayout, has_inner_layout, has_inner_head, records_in, Child, Expect}
use Rattle.btr_node.proofs.Apart.{le_decides}
use Rattle.btr_node.proofs.Breaks.{head_decides}
use Rattle.btr_node.proofs.Rows.{length-records_in, record_at}

pub length-children_in : (bytes : List ℕ) → length (children_in bytes) ≡ nritems bytes
unfolding children_in
length-children_in bytes = length-records_in KEY_PTR_SIZE child_layout (nritems bytes) (behind_head bytes)

pub child_there : (bytes : List ℕ) (i : ℕ) → i < nritems bytes → (other : Child) → get_or (children_in bytes) i other ≡ child_at bytes i
unfolding children_in
child_there bytes i lt other = record_at KEY_PTR_SIZE child_layout (nritems bytes) i (behind_head bytes) other lt

-- the children lie behind the node's head
pub children_fit : (bytes : List ℕ) → HasInnerLayout bytes → KEY_PTR_SIZE * nritems bytes ≤ length (behind_head bytes)
children_fit bytes layout = omega (arith, layout, length-drop HEADER_SIZE bytes)

pub child_fits : (bytes : List ℕ) → HasInnerLayout bytes → (i : ℕ) → i < nritems bytes → KEY_PTR_SIZE * i + KEY_PTR_SIZE ≤ length (behind_head bytes)
child_fits bytes layout i lt = omega (arith, children_fit bytes layout)

-- the keys are what the children begin with
keys-children : (n : ℕ) (bytes : List ℕ) → map (λ (child : Child). child.key) (records_in KEY_PTR_SIZE child_layout n bytes) ≡ records_in KEY_PTR_SIZE key_layout n bytes
unfolding child_layout
keys-children zero bytes = refl
keys-children (suc n) bytes = ap (λ (keys : List Key). key_layout.read bytes ∷ keys) (keys-children n (drop KEY_PTR_SIZE bytes))

pub first_keys-children_in : (bytes : List ℕ) → first_keys (children_in bytes) ≡ records_in KEY_PTR_SIZE key_layout (nritems bytes) (behind_head bytes)
unfolding children_in
first_keys-children_in bytes = keys-children (nritems bytes) (behind_head bytes)

pub inner_layout_decides : (bytes : List ℕ) → Decides (has_inner_layout bytes) (HasInnerLayout bytes)
inner_layout_decides bytes = le_decides (HEADER_SIZE + KEY_PTR_SIZE * nritems bytes) (length bytes)

pub inner_head_decides : (want : Expect) (bytes : List ℕ) → Decides (has_inner_head want bytes) ((1 ≤ want.level) × (1 ≤ nritems bytes) × HasHead want bytes)
inner_head_decides want bytes =
    Decides-like (has_inner_head want bytes) (λ p. (p.0, p.1.0, p.1.1)) (λ p. (p.0, (p.1, p.2)))
    (Decides-and _ _ (Decides-ltb 0 want.level) (Decides-and _ _ (Decides-ltb 0 (nritems bytes)) (head_decides want bytes)))
