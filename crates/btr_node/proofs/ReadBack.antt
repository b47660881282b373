-- What the bytes of a node read as.
use Rattle.btr_node.proofs.Imports.{◌≡◌, ◌≤◌, ◌<◌, ◌^◌, ℕ, suc, ◌+◌, ◌-◌, ◌*◌, List, [], ◌∷◌, ◌++◌, length, take, drop, map, slice_range, true, refl, sym, ap, ◌∙◌, arith, append_assoc, length-append, All, flat_map, append-nil, take_at, drop_at, All-nil, All-cons, All-head, All-tail, ITEM_SIZE, KEY_PTR_SIZE, key_layout, Layout, spelling, Reads, descends, HasAreas, draft_bytes, room_in, heads_of, data_of, contents, behind_head, child_layout, Item, item_layout, item_of, records_in, stored_items, stored_children, Child}
use Rattle.btr_node.proofs.Apart.{descends-has_areas, areas_decide, within_test}
use Rattle.btr_node.proofs.Putting.{zeros, length-zeros, length-heads_of, bytes_of-parts, head_below}
use Rattle.btr_node.proofs.Rows.{joined}
use Rattle.btr_node.proofs.Spelled.{item_size, child_size, item_reads, child_reads, length-records}

-- records that stand one after the other read as what they spell
pub records_back : {R : Type 0} (layout : Layout R R) (width : ℕ) → Reads layout (λ v. v) → ((v : R) → length (spelling layout v) ≡ width)
    → (vs : List R) (rest : List ℕ) → All layout.fits vs → records_in width layout (length vs) (flat_map (spelling layout) vs ++ rest) ≡ vs
records_back layout width reads size [] rest fits = refl
records_back layout width reads size (v ∷ vs) rest fits =
    let more : List ℕ = flat_map (spelling layout) vs ++ rest in
    let whole : flat_map (spelling layout) (v ∷ vs) ++ rest ≡ spelling layout v ++ more = append_assoc (spelling layout v) (flat_map (spelling layout) vs) rest in
    let first : layout.read (spelling layout v ++ more) ≡ v = ap layout.read (sym (reads.apart v more)) ∙ reads.back v more (All-head layout.fits v vs fits) in
    let behind : drop width (spelling layout v ++ more) ≡ more = drop_at (spelling layout v) more width (size v) in
    ap (records_in width layout (suc (length vs))) whole
    ∙ ap (λ w. w ∷ records_in width layout (length vs) (drop width (spelling layout v ++ more))) first
    ∙ ap (λ b. v ∷ records_in width layout (length vs) b) behind
    ∙ ap (λ ws. v ∷ ws) (records_back layout width reads size vs rest (All-tail layout.fits v vs fits))

-- the heads of items, and data that lies where they say
data_back : (end : ℕ) (items : List Item) (behind before after : List ℕ) → behind ≡ before ++ (data_of items ++ after) → length before + length (data_of items) ≡ end
    → map (item_of behind) (heads_of end items) ≡ items
data_back end [] behind before after is placed = refl
data_back end (item ∷ items) behind before after is placed =
    let begin : ℕ = end - length item.1 in
    let split : behind ≡ before ++ (data_of items ++ (item.1 ++ after)) = is ∙ ap (λ z. before ++ z) (append_assoc (data_of items) item.1 after) in
    let front : List ℕ = before ++ data_of items in
    let at : behind ≡ front ++ (item.1 ++ after) = split ∙ sym (append_assoc before (data_of items) (item.1 ++ after)) in
    let long : length front ≡ begin = omega (arith, length-append before (data_of items), length-append (data_of items) item.1) in
    let size : begin + length item.1 - begin ≡ length item.1 = omega arith in
    let body : slice_range behind begin (begin + length item.1) ≡ item.1 =
    ap (λ k. take k (drop begin behind)) size
    ∙ ap (λ s. take (length item.1) (drop begin s)) at
    ∙ ap (take (length item.1)) (drop_at front (item.1 ++ after) begin long)
    ∙ take_at item.1 after (length item.1) refl in
    ap (λ (b : List ℕ). (item.0, b) ∷ map (item_of behind) (heads_of begin items)) body
    ∙ ap (λ rest. item ∷ rest) (data_back begin items behind before (item.1 ++ after) split (omega (arith, length-append before (data_of items), long)))

heads_fit : (end : ℕ) (items : List Item) → end < 2 ^ 32 → length (data_of items) < 2 ^ 32 → All (λ item. key_layout.fits item.0) items → All item_layout.fits (heads_of end items)
unfolding item_layout
heads_fit end [] small sizes fits = All-nil item_layout.fits
heads_fit end (item ∷ items) small sizes fits =
    let key = All-head (λ (i : Item). key_layout.fits i.0) item items fits in
    All-cons item_layout.fits _ (heads_of (end - length item.1) items) (((tt, key), omega arith), omega (arith, length-append (data_of items) item.1))
    (heads_fit (end - length item.1) items (omega arith) (omega (arith, length-append (data_of items) item.1)) (All-tail (λ (i : Item). key_layout.fits i.0) item items fits))

heads_descend : (low end : ℕ) (items : List Item) → low + length (data_of items) ≤ end → descends low end (heads_of end items) ≡ true
heads_descend low end [] fits = refl
heads_descend low end (item ∷ items) fits =
    let long : length (data_of items ++ item.1) ≡ length (data_of items) + length item.1 = length-append (data_of items) item.1 in
    joined _ _ (within_test low end (head_below end item) (omega (arith, long)) (omega (arith, long))) (heads_descend low (end - length item.1) items (omega (arith, long)))

-- a node's contents have their size
pub length-contents : (n : ℕ) (items : List Item) (children : List Child) → draft_bytes items + KEY_PTR_SIZE * length children ≤ n → length (contents n items children) ≡ n
unfolding contents
length-contents n items children fits =
    let heads : List ℕ = flat_map (spelling item_layout) (heads_of n items) in
    let links : List ℕ = flat_map (spelling child_layout) children in
    let room : ℕ = room_in n items children in
    omega (arith, length-append heads (links ++ (zeros room ++ data_of items)), length-append links (zeros room ++ data_of items), length-append (zeros room) (data_of items), length-zeros room, length-records (spelling item_layout) ITEM_SIZE item_size (heads_of n items), length-heads_of n items, length-records (spelling child_layout) KEY_PTR_SIZE child_size children, bytes_of-parts items)

pub heads_back : (n : ℕ) (items : List Item) (children : List Child) → n < 2 ^ 32 → draft_bytes items + KEY_PTR_SIZE * length children ≤ n → All (λ item. key_layout.fits item.0) items
    → records_in ITEM_SIZE item_layout (length items) (contents n items children) ≡ heads_of n items
unfolding contents
heads_back n items children small fits keys =
    let rest : List ℕ = flat_map (spelling child_layout) children ++ (zeros (room_in n items children) ++ data_of items) in
    let spelled : List ℕ = flat_map (spelling item_layout) (heads_of n items) ++ rest in
    ap (λ k. records_in ITEM_SIZE item_layout k spelled) (sym (length-heads_of n items))
    ∙ records_back item_layout ITEM_SIZE item_reads item_size (heads_of n items) rest (heads_fit n items small (omega (arith, bytes_of-parts items)) keys)

pub items_back : (bytes : List ℕ) (n : ℕ) (items : List Item) (children : List Child) → behind_head bytes ≡ contents n items children → n < 2 ^ 32
    → draft_bytes items + KEY_PTR_SIZE * length children ≤ n → All (λ item. key_layout.fits item.0) items → stored_items bytes (length items) ≡ items
unfolding stored_items contents
items_back bytes n items children is small fits keys =
    let heads : List ℕ = flat_map (spelling item_layout) (heads_of n items) in
    let links : List ℕ = flat_map (spelling child_layout) children in
    let room : ℕ = room_in n items children in
    let before : List ℕ = heads ++ (links ++ zeros room) in
    let whole : contents n items children ≡ before ++ (data_of items ++ []) =
    ap (λ z. heads ++ z) (sym (append_assoc links (zeros room) (data_of items)))
    ∙ sym (append_assoc heads (links ++ zeros room) (data_of items))
    ∙ ap (λ z. before ++ z) (sym (append-nil (data_of items))) in
    let placed : length before + length (data_of items) ≡ n =
    omega (arith, length-contents n items children fits, ap length whole, length-append before (data_of items ++ []), length-append (data_of items) []) in
    ap (λ z. map (item_of z) (records_in ITEM_SIZE item_layout (length items) z)) is
    ∙ ap (map (item_of (contents n items children))) (heads_back n items children small fits keys)
    ∙ data_back n items (contents n items children) before [] whole placed

pub children_back : (bytes : List ℕ) (n : ℕ) (children : List Child) → behind_head bytes ≡ contents n [] children
    → All child_layout.fits children → stored_children bytes (length children) ≡ children
unfolding stored_children contents
children_back bytes n children is fits =
    ap (records_in KEY_PTR_SIZE child_layout (length children)) is ∙ records_back child_layout KEY_PTR_SIZE child_reads child_size children (zeros (room_in n [] children) ++ []) fits

-- the data of items lies behind the heads and apart
pub heads_have_areas : (low n : ℕ) (items : List Item) → low + length (data_of items) ≤ n → HasAreas low n (heads_of n items)
heads_have_areas low n items fits = (areas_decide low n (heads_of n items)).0 (descends-has_areas low n (heads_of n items) (heads_descend low n items fits))
