-- What a writer holds, from step to step.
use Rattle.btr_node.proofs.Imports.{◌≡◌, ◌≤◌, ◌<◌, ◌^◌, ◌⊎◌, inl, inr, zero, suc, ℕ, ◌+◌, ◌-◌, ◌*◌, Bool, List, [], ◌∷◌, ◌++◌, length, drop, refl, sym, ap, ◌∙◌, arith, length-append, append-nil, drop-replicate, length-map, map-append, All-nil, All-push, sum_by_push, HEADER_SIZE, ITEM_SIZE, KEY_PTR_SIZE, key_layout, spelling, Key, Draft, IsDraft, room, contents, data_of, head_of, sealed, node_bytes, head_layout, behind_head, child_layout, first_keys, Item, item_layout, item_of, keys_of, IsNodeSize, ascends, Ascends, records_in, stored_items, stored_children, held, HoldsDraft, Child, Expect}
use Rattle.btr_node.proofs.NodeBack.{size_within, node_behind_head, length-node_bytes}
use Rattle.btr_node.proofs.Putting.{zeros, length-zeros, bytes_of-parts, data_of-append}
use Rattle.btr_node.proofs.ReadBack.{items_back, children_back}
use Rattle.btr_node.proofs.Rows.{length-records_in}

pub length-stored_items : (bytes : List ℕ) (n : ℕ) → length (stored_items bytes n) ≡ n
unfolding stored_items
length-stored_items bytes n = length-map (records_in ITEM_SIZE item_layout n (behind_head bytes)) (item_of (behind_head bytes)) ∙ length-records_in ITEM_SIZE item_layout n (behind_head bytes)

pub length-stored_children : (bytes : List ℕ) (n : ℕ) → length (stored_children bytes n) ≡ n
unfolding stored_children
length-stored_children bytes n = length-records_in KEY_PTR_SIZE child_layout n (behind_head bytes)

-- how much is left, by the writer's counts
pub record Room (bytes : List ℕ) (low items children : ℕ) (draft : Draft) : Type 0 where
  pub entries : ITEM_SIZE * items + KEY_PTR_SIZE * children ≤ low
  pub low_within : HEADER_SIZE + low ≤ length bytes
  pub small : length bytes ≤ 65536
  pub large : 4096 ≤ length bytes
  pub room_is : low - ITEM_SIZE * items - KEY_PTR_SIZE * children ≡ room draft

pub room_of : (bytes : List ℕ) (low : ℕ) (started : Bool) (want : Expect) (chunk_tree : List ℕ) (items children : ℕ)
    → HoldsDraft bytes low (held bytes started want chunk_tree items children) → Room bytes low items children (held bytes started want chunk_tree items children)
room_of bytes low started want chunk_tree items children holds =
    let draft : Draft = held bytes started want chunk_tree items children in
    let size = size_within (length bytes) holds.right.nodesize in
    let n-items : length draft.items ≡ items = length-stored_items bytes items in
    let n-children : length draft.children ≡ children = length-stored_children bytes children in
    let parts = bytes_of-parts draft.items in
    record {
      entries = omega (arith, n-items, n-children, parts, holds.placed, holds.right.fits);
      low_within = omega (arith, holds.placed);
      small = size.1;
      large = size.0;
      room_is = omega (arith, n-items, n-children, parts, holds.placed, holds.right.fits);
    }

-- the same draft with one more item
abbrev pub with_item : Draft → Key → List ℕ → Draft
with_item draft key body = record draft { items = draft.items ++ (key, body) ∷ [] }

abbrev pub with_child : Draft → Child → Draft
with_child draft child = record draft { children = draft.children ++ child ∷ [] }

head_counts : (draft : Draft) (items : List Item) (children : List Child) → IsDraft draft → length items + length children < 2 ^ 32
    → head_layout.fits (head_of (record draft { items = items; children = children }))
unfolding head_layout
head_counts draft items children right small = let h = right.head in ((h.0.0, small), h.1)

item_is_right : (draft : Draft) (key : Key) (body : List ℕ) → IsDraft draft → draft.want.level ≡ 0 → ITEM_SIZE + length body ≤ room draft
    → key_layout.fits key → Ascends (keys_of draft.items ++ key ∷ []) → IsDraft (with_item draft key body)
item_is_right draft key body right leaf fits spelled order =
    let size = size_within draft.nodesize right.nodesize in
    let none = ap length (right.leaf leaf) in
    let sum = sum_by_push (λ (i : Item). ITEM_SIZE + length i.1) draft.items (key, body) in
    let all : List Item = draft.items ++ (key, body) ∷ [] in
    record {
      nodesize = right.nodesize;
      fits = omega (arith, none, sum, right.fits);
      head = head_counts draft all draft.children right (omega (arith, none, size.1, bytes_of-parts all, sum, fits, right.fits));
      keys = All-push (λ (i : Item). key_layout.fits i.0) draft.items (key, body) right.keys spelled;
      links = right.links;
      leaf = right.leaf;
      inner = λ inner. absurd (omega arith);
      item_order = ap ascends (map-append (λ (i : Item). i.0) draft.items ((key, body) ∷ [])) ∙ order;
      child_order = right.child_order;
    }

child_is_right : (draft : Draft) (child : Child) → IsDraft draft → 1 ≤ draft.want.level → KEY_PTR_SIZE ≤ room draft
    → child_layout.fits child → Ascends (first_keys draft.children ++ child.key ∷ []) → IsDraft (with_child draft child)
child_is_right draft child right inner fits spelled order =
    let size = size_within draft.nodesize right.nodesize in
    let none = ap length (right.inner inner) in
    let all : List Child = draft.children ++ child ∷ [] in
    let more = length-append draft.children (child ∷ []) in
    record {
      nodesize = right.nodesize;
      fits = omega (arith, none, more, right.fits);
      head = head_counts draft draft.items all right (omega (arith, none, size.1, more, fits, right.fits));
      keys = right.keys;
      links = All-push child_layout.fits draft.children child right.links spelled;
      leaf = λ leaf. absurd (omega arith);
      inner = right.inner;
      item_order = right.item_order;
      child_order = ap ascends (map-append (λ (c : Child). c.key) draft.children (child ∷ [])) ∙ order;
    }

-- what a writer holds by what stands in its buffer
holds_as : (bytes : List ℕ) (low : ℕ) (a b : Draft) → a ≡ b → HoldsDraft bytes low b → HoldsDraft bytes low a
holds_as bytes low a b is holds = rw is holds

leaf_or_inner : (level : ℕ) → (level ≡ 0) ⊎ (1 ≤ level)
leaf_or_inner zero = inl refl
leaf_or_inner (suc n) = inr (omega arith)

no_children : (bytes : List ℕ) → stored_children bytes 0 ≡ []
unfolding stored_children
no_children bytes = refl

-- the items and the children in a buffer that holds a draft
items_are : (bytes : List ℕ) (low : ℕ) (draft : Draft) → HoldsDraft bytes low draft → length bytes ≡ draft.nodesize → stored_items bytes (length draft.items) ≡ draft.items
items_are bytes low draft holds size =
    let within = size_within draft.nodesize holds.right.nodesize in
    items_back bytes (length bytes - HEADER_SIZE) draft.items draft.children holds.filled (omega (arith, within.1)) (omega (arith, holds.right.fits)) holds.right.keys

children_are : (bytes : List ℕ) (low : ℕ) (draft : Draft) → HoldsDraft bytes low draft → (draft.want.level ≡ 0) ⊎ (1 ≤ draft.want.level)
    → stored_children bytes (length draft.children) ≡ draft.children
children_are bytes low draft holds (inl leaf) =
    let none : draft.children ≡ [] = holds.right.leaf leaf in
    ap (λ (cs : List Child). stored_children bytes (length cs)) none ∙ no_children bytes ∙ sym none
children_are bytes low draft holds (inr inner) =
    children_back bytes (length bytes - HEADER_SIZE) draft.children
    (holds.filled ∙ ap (λ items. contents (length bytes - HEADER_SIZE) items draft.children) (holds.right.inner inner)) holds.right.links

-- a buffer that holds a draft reads as it
pub held_is : (bytes : List ℕ) (low items children : ℕ) (draft : Draft) → HoldsDraft bytes low draft → length bytes ≡ draft.nodesize
    → length draft.items ≡ items → length draft.children ≡ children → held bytes draft.started draft.want draft.chunk_tree items children ≡ draft
held_is bytes low items children draft holds size n-items n-children =
    let is-items : stored_items bytes items ≡ draft.items = ap (stored_items bytes) (sym n-items) ∙ items_are bytes low draft holds size in
    let is-children : stored_children bytes children ≡ draft.children =
    ap (stored_children bytes) (sym n-children) ∙ children_are bytes low draft holds (leaf_or_inner draft.want.level) in
    λ i. record {
      nodesize = size i;
      started = draft.started;
      want = draft.want;
      chunk_tree = draft.chunk_tree;
      items = is-items i;
      children = is-children i;
    }

-- a buffer that was written so that it holds a draft
pub record Steps (bytes : List ℕ) (low : ℕ) (kept wanted : Draft) : Type 0 where
  pub holds : HoldsDraft bytes low kept
  pub is : kept ≡ wanted

steps : (bytes : List ℕ) (low items children : ℕ) (draft : Draft) → HoldsDraft bytes low draft → length bytes ≡ draft.nodesize
    → length draft.items ≡ items → length draft.children ≡ children
    → Steps bytes low (held bytes draft.started draft.want draft.chunk_tree items children) draft
steps bytes low items children draft holds size n-items n-children =
    let is = held_is bytes low items children draft holds size n-items n-children in
    record { holds = holds_as bytes low _ draft is holds; is = is }

-- an item more
pub push_steps : (bytes new : List ℕ) (low : ℕ) (started : Bool) (want : Expect) (chunk_tree : List ℕ) (items children : ℕ) (key : Key) (body : List ℕ)
    → HoldsDraft bytes low (held bytes started want chunk_tree items children) → want.level ≡ 0
    → ITEM_SIZE + length body ≤ room (held bytes started want chunk_tree items children)
    → key_layout.fits key → Ascends (keys_of (stored_items bytes items) ++ key ∷ []) → length new ≡ length bytes
    → behind_head new ≡ contents (length bytes - HEADER_SIZE) (stored_items bytes items ++ (key, body) ∷ []) []
    → Steps new (low - length body) (held new started want chunk_tree (items + 1) children) (with_item (held bytes started want chunk_tree items children) key body)
push_steps bytes new low started want chunk_tree items children key body holds leaf fits spelled order size filled =
    let draft : Draft = held bytes started want chunk_tree items children in
    let more : Draft = with_item draft key body in
    let none : draft.children ≡ [] = holds.right.leaf leaf in
    let known = room_of bytes low started want chunk_tree items children holds in
    steps new (low - length body) (items + 1) children more
    (record {
      right = item_is_right draft key body holds.right leaf fits spelled order;
      filled = filled ∙ ap (λ cs. contents (length bytes - HEADER_SIZE) more.items cs) (sym none) ∙ ap (λ k. contents (k - HEADER_SIZE) more.items draft.children) (sym size);
      placed = omega (arith, holds.placed, size, known.room_is, fits, ap length (data_of-append draft.items (key, body)), length-append body (data_of draft.items));
    })
    size (omega (arith, length-append draft.items ((key, body) ∷ []), length-stored_items bytes items)) (length-stored_children bytes children)

-- a child more
pub push_child_steps : (bytes new : List ℕ) (low : ℕ) (started : Bool) (want : Expect) (chunk_tree : List ℕ) (items children : ℕ) (child : Child)
    → HoldsDraft bytes low (held bytes started want chunk_tree items children) → 1 ≤ want.level
    → KEY_PTR_SIZE ≤ room (held bytes started want chunk_tree items children)
    → child_layout.fits child → Ascends (first_keys (stored_children bytes children) ++ child.key ∷ []) → length new ≡ length bytes
    → behind_head new ≡ contents (length bytes - HEADER_SIZE) [] (stored_children bytes children ++ child ∷ [])
    → Steps new low (held new started want chunk_tree items (children + 1)) (with_child (held bytes started want chunk_tree items children) child)
push_child_steps bytes new low started want chunk_tree items children child holds inner fits spelled order size filled =
    let draft : Draft = held bytes started want chunk_tree items children in
    let more : Draft = with_child draft child in
    let none : draft.items ≡ [] = holds.right.inner inner in
    steps new low items (children + 1) more
    (record {
      right = child_is_right draft child holds.right inner fits spelled order;
      filled = filled ∙ ap (λ is. contents (length bytes - HEADER_SIZE) is more.children) (sym none) ∙ ap (λ k. contents (k - HEADER_SIZE) draft.items more.children) (sym size);
      placed = holds.placed ∙ sym size;
    })
    size (length-stored_items bytes items) (omega (arith, length-append draft.children (child ∷ []), length-stored_children bytes children))

-- a head and a checksum, which change nothing behind them
pub finish_steps : (bytes new : List ℕ) (low : ℕ) (started : Bool) (want : Expect) (chunk_tree : List ℕ) (items children : ℕ)
    → HoldsDraft bytes low (held bytes started want chunk_tree items children)
    → new ≡ node_bytes (held bytes started want chunk_tree items children)
    → Steps new low (held new started want chunk_tree items children) (held bytes started want chunk_tree items children)
finish_steps bytes new low started want chunk_tree items children holds is =
    let draft : Draft = held bytes started want chunk_tree items children in
    let size : length new ≡ length bytes = ap length is ∙ length-node_bytes draft holds.right in
    steps new low items children draft
    (record {
      right = holds.right;
      filled = ap behind_head is ∙ node_behind_head draft holds.right ∙ ap (λ k. contents (k - HEADER_SIZE) draft.items draft.children) (sym size);
      placed = holds.placed ∙ sym size;
    })
    size (length-stored_items bytes items) (length-stored_children bytes children)

empty_contents : (n size : ℕ) → size ≡ n → behind_head (zeros n) ≡ contents (size - HEADER_SIZE) [] []
unfolding contents
empty_contents n size is =
    let left : n - HEADER_SIZE ≡ size - HEADER_SIZE - 0 = omega arith in
    drop-replicate {X = ℕ} HEADER_SIZE n 0 ∙ ap zeros left ∙ sym (append-nil (zeros (size - HEADER_SIZE - 0)))

-- a buffer of zeros holds an empty draft
pub start_steps : (bytes : List ℕ) (n low : ℕ) (started : Bool) (want : Expect) (chunk_tree : List ℕ) → bytes ≡ zeros n → IsNodeSize n → HEADER_SIZE + low ≡ n
    → head_layout.fits (head_of (record { nodesize = n; started = started; want = want; chunk_tree = chunk_tree; items = []; children = [] }))
    → Steps bytes low (held bytes started want chunk_tree 0 0) (record { nodesize = n; started = started; want = want; chunk_tree = chunk_tree; items = []; children = [] })
start_steps bytes n low started want chunk_tree is right placed fits =
    let within = size_within n right in
    let size : length bytes ≡ n = ap length is ∙ length-zeros n in
    steps bytes low 0 0 (record { nodesize = n; started = started; want = want; chunk_tree = chunk_tree; items = []; children = [] })
    (record {
      right = record {
        nodesize = right;
        fits = omega (arith, within.0);
        head = fits;
        keys = All-nil (λ (i : Item). key_layout.fits i.0);
        links = All-nil child_layout.fits;
        leaf = λ leaf. refl;
        inner = λ inner. refl;
        item_order = refl;
        child_order = refl;
      };
      filled = ap behind_head is ∙ empty_contents n (length bytes) size;
      placed = omega (arith, size, placed);
    })
    size refl refl

-- a head whose numbers fit has a spelling
pub head_spelled : (nodesize : ℕ) (started : Bool) (want : Expect) (chunk_tree : List ℕ) → length want.fsid ≡ 16 → want.address < 2 ^ 64 → length chunk_tree ≡ 16
    → want.generation < 2 ^ 64 → want.owner < 2 ^ 64 → want.level < 2 ^ 8
    → head_layout.fits (head_of (record { nodesize = nodesize; started = started; want = want; chunk_tree = chunk_tree; items = []; children = [] }))
unfolding head_layout
head_spelled nodesize started want chunk_tree fsid address tree generation owner level =
    (((((((((tt, fsid), address), refl), omega arith), tree), generation), owner), omega arith), level)

-- what stands in a buffer that was sealed
pub sealed_is : (bytes new : List ℕ) (low : ℕ) (started : Bool) (want : Expect) (chunk_tree : List ℕ) (items children : ℕ)
    → HoldsDraft bytes low (held bytes started want chunk_tree items children)
    → new ≡ sealed want.sums (spelling head_layout (record (head_of (held bytes started want chunk_tree items children)) { count = items + children }) ++ drop HEADER_SIZE bytes)
    → new ≡ node_bytes (held bytes started want chunk_tree items children)
unfolding node_bytes
sealed_is bytes new low started want chunk_tree items children holds is =
    let draft : Draft = held bytes started want chunk_tree items children in
    let counted : items + children ≡ length draft.items + length draft.children = omega (arith, length-stored_items bytes items, length-stored_children bytes children) in
    is
    ∙ ap (λ n. sealed want.sums (spelling head_layout (record (head_of draft) { count = n }) ++ drop HEADER_SIZE bytes)) counted
    ∙ ap (λ z. sealed want.sums (spelling head_layout (head_of draft) ++ z)) holds.filled
