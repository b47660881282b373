-- What is written of a node can be written.
use Rattle.btr_tree.proofs.Imports.{◌≡◌, ◌≤◌, ◌<◌, ◌^◌, ℕ, ◌+◌, List, [], ◌∷◌, ◌++◌, length, true, Result, Ok, Err, refl, ap, ◌∙◌, arith, ◌↔◌, IsErr, OnOk, map-append, length_push, All-nil, All-push, sum_by_push, ITEM_SIZE, KEY_PTR_SIZE, Key, Draft, IsDraft, room, head_of, started_for, head_layout, child_layout, first_keys, Item, keys_of, IsNodeSize, ascends, Ascends, Child, Expect, size_within, bytes_of-parts}
use Rattle.btr_node.specs.btr_keys.Key.{key_layout}
use Rattle.btr_node.proofs.Holding.{head_spelled}

-- what was not refused was done
pub was_done : {T E : Type 0} (r : Result T E) (P Q : Type 0) → (IsErr r ↔ Q) → (Q → ⊥) → OnOk r P → P
was_done (Ok x) P Q full isnt h = h
was_done (Err e) P Q full isnt h = absurd (isnt (full.0 refl))

-- a node that was begun
pub begun_right : (n : ℕ) (want : Expect) (chunk_tree : List ℕ) → IsNodeSize n → length want.fsid ≡ 16 → want.address < 2 ^ 64 → length chunk_tree ≡ 16
    → want.generation < 2 ^ 64 → want.owner < 2 ^ 64 → want.level < 2 ^ 8 → IsDraft (started_for n want chunk_tree)
begun_right n want chunk_tree size fsid address tree generation owner level =
    let within = size_within n size in
    record {
      nodesize = size;
      fits = omega (arith, within.0);
      head = head_spelled n true want chunk_tree fsid address tree generation owner level;
      keys = All-nil (λ (i : Item). key_layout.fits i.0);
      links = All-nil child_layout.fits;
      leaf = λ leaf. refl;
      inner = λ inner. refl;
      item_order = refl;
      child_order = refl;
    }

counted : (draft : Draft) (items : List Item) (children : List Child) → IsDraft draft → length items + length children < 2 ^ 32
    → head_layout.fits (head_of (record draft { items = items; children = children }))
unfolding head_layout
counted draft items children right small = let h = right.head in ((h.0.0, small), h.1)

-- with one more item
pub item_right : (draft : Draft) (key : Key) (body : List ℕ) → IsDraft draft → draft.want.level ≡ 0 → ITEM_SIZE + length body ≤ room draft
    → key_layout.fits key → Ascends (keys_of draft.items ++ key ∷ []) → IsDraft (record draft { items = draft.items ++ (key, body) ∷ [] })
item_right draft key body right leaf fits spelled order =
    let size = size_within draft.nodesize right.nodesize in
    let none = ap length (right.leaf leaf) in
    let sum = sum_by_push (λ (i : Item). ITEM_SIZE + length i.1) draft.items (key, body) in
    let all : List Item = draft.items ++ (key, body) ∷ [] in
    record {
      nodesize = right.nodesize;
      fits = omega (arith, none, sum, right.fits);
      head = counted draft all draft.children right (omega (arith, none, size.1, bytes_of-parts all, sum, fits, right.fits));
      keys = All-push (λ (i : Item). key_layout.fits i.0) draft.items (key, body) right.keys spelled;
      links = right.links;
      leaf = right.leaf;
      inner = λ inner. absurd (omega arith);
      item_order = ap ascends (map-append (λ (i : Item). i.0) draft.items ((key, body) ∷ [])) ∙ order;
      child_order = right.child_order;
    }

-- with one more child
pub child_right : (draft : Draft) (child : Child) → IsDraft draft → 1 ≤ draft.want.level → KEY_PTR_SIZE ≤ room draft
    → child_layout.fits child → Ascends (first_keys draft.children ++ child.key ∷ []) → IsDraft (record draft { children = draft.children ++ child ∷ [] })
child_right draft child right inner fits spelled order =
    let size = size_within draft.nodesize right.nodesize in
    let none = ap length (right.inner inner) in
    let more = length_push draft.children child in
    let all : List Child = draft.children ++ child ∷ [] in
    record {
      nodesize = right.nodesize;
      fits = omega (arith, fits, more, right.fits, bytes_of-parts draft.items);
      head = counted draft draft.items all right (omega (arith, none, size.1, more, fits, right.fits));
      keys = right.keys;
      links = All-push child_layout.fits draft.children child right.links spelled;
      leaf = λ leaf. absurd (omega arith);
      inner = right.inner;
      item_order = right.item_order;
      child_order = ap ascends (map-append (λ (c : Child). c.key) draft.children (child ∷ [])) ∙ order;
    }
