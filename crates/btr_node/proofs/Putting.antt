-- Entries that are put behind those that are there.
use Rattle.btr_node.proofs.Imports.{◌≡◌, ◌≤◌, ℕ, suc, ◌+◌, ◌-◌, ◌*◌, List, [], ◌∷◌, ◌++◌, length, take, drop, replicate, refl, sym, ap, ◌∙◌, arith, append_assoc, length-append, length-take, flat_map, append-nil, drop-drop, take_rest, replicate-append-replicate, take_at, drop_at, length-replicate, sum_by-append, sum_by-cons, CSUM_SIZE, HEADER_REST_SIZE, HEADER_SIZE, ITEM_SIZE, KEY_PTR_SIZE, Key, spelling, SumKind, kind_sum, draft_bytes, room_in, heads_of, data_of, contents, sealed, child_layout, Item, item_layout, Child, BtrItemHead}
use Rattle.std.proofs.lemmas.Grind.{flat_map-append}
use borrow.Rule.Slice.PartMut.{put_mid}
use Rattle.btr_node.proofs.Spelled.{item_size, child_size, length-records}

-- a part of a list, and other elements in its place
pub put_is : (at len : ℕ) (s A M B new : List ℕ) → s ≡ A ++ (M ++ B) → length A ≡ at → length M ≡ len → put_mid at len s new ≡ A ++ (new ++ B)
put_is at len s A M B new is a m =
    let front : take at s ≡ A = ap (take at) is ∙ take_at A (M ++ B) at a in
    let back : drop len (drop at s) ≡ B = ap (λ t. drop len (drop at t)) is ∙ ap (drop len) (drop_at A (M ++ B) at a) ∙ drop_at M B len m in
    ap (λ t. t ++ (new ++ drop len (drop at s))) front ∙ ap (λ t. A ++ (new ++ t)) back

abbrev pub zeros : ℕ → List ℕ
zeros n = replicate n 0

pub length-zeros : (n : ℕ) → length (zeros n) ≡ n
length-zeros n = length-replicate {A = ℕ} n 0

zeros_apart : (n a b : ℕ) → n ≡ a + b → zeros n ≡ zeros a ++ zeros b
zeros_apart n a b whole = ap zeros whole ∙ sym (replicate-append-replicate {A = ℕ} a b 0)

-- bytes in the place of the first zeros behind a front
put_first : (at width gap : ℕ) (s front rest new : List ℕ) → length front ≡ at → width ≤ gap → s ≡ front ++ (zeros gap ++ rest)
    → put_mid at (at + width - at) s new ≡ front ++ (new ++ (zeros (gap - width) ++ rest))
put_first at width gap s front rest new long fits is =
    let apart : s ≡ front ++ (zeros width ++ (zeros (gap - width) ++ rest)) =
    is ∙ ap (λ z. front ++ (z ++ rest)) (zeros_apart gap width (gap - width) (omega arith)) ∙ ap (λ z. front ++ z) (append_assoc (zeros width) (zeros (gap - width)) rest) in
    put_is at (at + width - at) s front (zeros width) (zeros (gap - width) ++ rest) new apart long (omega (arith, length-zeros width))

-- bytes in the place of the last zeros before a rest
put_last : (at low begin : ℕ) (s front rest new : List ℕ) → length front ≡ at → at + length new ≤ low → begin ≡ low - length new → s ≡ front ++ (zeros (low - at) ++ rest)
    → put_mid begin (low - begin) s new ≡ front ++ (zeros (low - at - length new) ++ (new ++ rest))
put_last at low begin s front rest new long fits is-begin is =
    let left : ℕ = low - at - length new in
    let apart : s ≡ (front ++ zeros left) ++ (zeros (length new) ++ rest) =
    is ∙ ap (λ z. front ++ (z ++ rest)) (zeros_apart (low - at) left (length new) (omega arith))
    ∙ ap (λ z. front ++ z) (append_assoc (zeros left) (zeros (length new)) rest)
    ∙ sym (append_assoc front (zeros left) (zeros (length new) ++ rest)) in
    put_is begin (low - begin) s (front ++ zeros left) (zeros (length new)) rest new apart
    (omega (arith, length-append front (zeros left), length-zeros left)) (omega (arith, length-zeros (length new)))
    ∙ append_assoc front (zeros left) (new ++ rest)

-- a child behind children
pub put_child_is : (n count : ℕ) (s new : List ℕ) (child : Child) (children : List Child)
    → KEY_PTR_SIZE * count + KEY_PTR_SIZE ≤ n → length children ≡ count → s ≡ contents n [] children → new ≡ spelling child_layout child
    → put_mid (KEY_PTR_SIZE * count) (KEY_PTR_SIZE * count + KEY_PTR_SIZE - KEY_PTR_SIZE * count) s new ≡ contents n [] (children ++ child ∷ [])
unfolding contents
put_child_is n count s new child children fits counted is spelled =
    let front : List ℕ = flat_map (spelling child_layout) children in
    let long : length front ≡ KEY_PTR_SIZE * count = length-records (spelling child_layout) KEY_PTR_SIZE child_size children ∙ ap (λ k. KEY_PTR_SIZE * k) counted in
    let gap : ℕ = room_in n [] children in
    let more : flat_map (spelling child_layout) (children ++ child ∷ []) ≡ front ++ spelling child_layout child =
    flat_map-append (spelling child_layout) children (child ∷ []) ∙ ap (λ z. front ++ z) (append-nil (spelling child_layout child)) in
    let rest : gap - KEY_PTR_SIZE ≡ room_in n [] (children ++ child ∷ []) = omega (arith, length-append children (child ∷ [])) in
    put_first (KEY_PTR_SIZE * count) KEY_PTR_SIZE gap s front [] new long (omega arith) is
    ∙ ap (λ z. front ++ (z ++ (zeros (gap - KEY_PTR_SIZE) ++ []))) spelled
    ∙ sym (append_assoc front (spelling child_layout child) (zeros (gap - KEY_PTR_SIZE) ++ []))
    ∙ ap (λ z. z ++ (zeros (gap - KEY_PTR_SIZE) ++ [])) (sym more)
    ∙ ap (λ k. flat_map (spelling child_layout) (children ++ child ∷ []) ++ (zeros k ++ [])) rest

-- an item's head, where the data above it begins at `end`
abbrev pub head_below : ℕ → Item → BtrItemHead
head_below end item = record { key = item.0; offset = end - length item.1; size = length item.1 }

heads_of-append : (end : ℕ) (items : List Item) (item : Item) → heads_of end (items ++ item ∷ []) ≡ heads_of end items ++ head_below (end - length (data_of items)) item ∷ []
heads_of-append end [] item =
    let same : end ≡ end - 0 = omega arith in
    ap (λ e. head_below e item ∷ []) same
heads_of-append end (first ∷ items) item =
    let below : end - length first.1 - length (data_of items) ≡ end - length (data_of items ++ first.1) = omega (arith, length-append (data_of items) first.1) in
    ap (λ heads. head_below end first ∷ heads)
    (heads_of-append (end - length first.1) items item
    ∙ ap (λ e. heads_of (end - length first.1) items ++ head_below e item ∷ []) below)

pub data_of-append : (items : List Item) (item : Item) → data_of (items ++ item ∷ []) ≡ item.1 ++ data_of items
data_of-append [] item = sym (append-nil item.1)
data_of-append (first ∷ items) item = ap (λ z. z ++ first.1) (data_of-append items item) ∙ append_assoc item.1 (data_of items) first.1

pub length-heads_of : (end : ℕ) (items : List Item) → length (heads_of end items) ≡ length items
length-heads_of end [] = refl
length-heads_of end (item ∷ items) = ap suc (length-heads_of (end - length item.1) items)

-- the bytes of items are those of their heads and of their data
pub bytes_of-parts : (items : List Item) → draft_bytes items ≡ ITEM_SIZE * length items + length (data_of items)
bytes_of-parts [] = refl
bytes_of-parts (item ∷ items) =
    omega (arith, sum_by-cons (λ (i : Item). ITEM_SIZE + length i.1) item items, bytes_of-parts items, length-append (data_of items) item.1)

-- An item behind items: first its data, in the place of the last zeros, and then its head, in the place of the first.
pub put_item_is : (n count low begin : ℕ) (s body new : List ℕ) (key : Key) (head : BtrItemHead) (items : List Item)
    → ITEM_SIZE * count + ITEM_SIZE + length body ≤ low → length items ≡ count → low + length (data_of items) ≡ n
    → begin ≡ low - length body → s ≡ contents n items [] → head ≡ head_below low (key, body) → new ≡ spelling item_layout head
    → put_mid (ITEM_SIZE * count) (ITEM_SIZE * count + ITEM_SIZE - ITEM_SIZE * count) (put_mid begin (low - begin) s body) new ≡ contents n (items ++ (key, body) ∷ []) []
unfolding contents
put_item_is n count low begin s body new key head items fits counted placed is-begin is is-head spelled =
    let all : List Item = items ++ (key, body) ∷ [] in
    let front : List ℕ = flat_map (spelling item_layout) (heads_of n items) in
    let long : length front ≡ ITEM_SIZE * count =
    length-records (spelling item_layout) ITEM_SIZE item_size (heads_of n items) ∙ ap (λ k. ITEM_SIZE * k) (length-heads_of n items ∙ counted) in
    let gap : ℕ = low - ITEM_SIZE * count - length body in
    let room : room_in n items [] ≡ low - ITEM_SIZE * count = omega (arith, bytes_of-parts items) in
    let before : s ≡ front ++ (zeros (low - ITEM_SIZE * count) ++ data_of items) = is ∙ ap (λ k. front ++ (zeros k ++ data_of items)) room in
    let between : List ℕ = put_mid begin (low - begin) s body in
    let with_data : between ≡ front ++ (zeros gap ++ (body ++ data_of items)) =
    put_last (ITEM_SIZE * count) low begin s front (data_of items) body long (omega arith) is-begin before in
    let low_is : low ≡ n - length (data_of items) = omega arith in
    let heads : flat_map (spelling item_layout) (heads_of n all) ≡ front ++ spelling item_layout head =
    ap (flat_map (spelling item_layout)) (heads_of-append n items (key, body) ∙ ap (λ e. heads_of n items ++ head_below e (key, body) ∷ []) (sym low_is) ∙ ap (λ h. heads_of n items ++ h ∷ []) (sym is-head))
    ∙ flat_map-append (spelling item_layout) (heads_of n items) (head ∷ []) ∙ ap (λ z. front ++ z) (append-nil (spelling item_layout head)) in
    let left : gap - ITEM_SIZE ≡ room_in n all [] =
    omega (arith, bytes_of-parts items, sum_by-append (λ (i : Item). ITEM_SIZE + length i.1) items ((key, body) ∷ [])) in
    put_first (ITEM_SIZE * count) ITEM_SIZE gap between front (body ++ data_of items) new long (omega arith) with_data
    ∙ ap (λ z. front ++ (z ++ (zeros (gap - ITEM_SIZE) ++ (body ++ data_of items)))) spelled
    ∙ sym (append_assoc front (spelling item_layout head) (zeros (gap - ITEM_SIZE) ++ (body ++ data_of items)))
    ∙ ap (λ z. z ++ (zeros (gap - ITEM_SIZE) ++ (body ++ data_of items))) (sym heads)
    ∙ ap (λ k. flat_map (spelling item_layout) (heads_of n all) ++ (zeros k ++ (body ++ data_of items))) left
    ∙ ap (λ z. flat_map (spelling item_layout) (heads_of n all) ++ (zeros (room_in n all []) ++ z)) (sym (data_of-append items (key, body)))

-- A head behind the checksum, and then the checksum.
pub put_head_is : (s new sum : List ℕ) (head : List ℕ) (sums : SumKind) → HEADER_SIZE ≤ length s → new ≡ head → length new ≡ HEADER_REST_SIZE
    → sum ≡ kind_sum sums (take (length (put_mid CSUM_SIZE HEADER_REST_SIZE s new) - CSUM_SIZE) (drop CSUM_SIZE (put_mid CSUM_SIZE HEADER_REST_SIZE s new)))
    → sum ++ drop CSUM_SIZE (put_mid CSUM_SIZE HEADER_REST_SIZE s new) ≡ sealed sums (head ++ drop HEADER_SIZE s)
unfolding sealed
put_head_is s new sum head sums fits is-head long is-sum =
    let between : List ℕ = put_mid CSUM_SIZE HEADER_REST_SIZE s new in
    let front : length (take CSUM_SIZE s) ≡ CSUM_SIZE = omega (arith, length-take CSUM_SIZE s) in
    let behind : drop CSUM_SIZE between ≡ new ++ drop HEADER_SIZE s =
    drop_at (take CSUM_SIZE s) (new ++ drop HEADER_REST_SIZE (drop CSUM_SIZE s)) CSUM_SIZE front ∙ ap (λ z. new ++ z) (drop-drop HEADER_REST_SIZE CSUM_SIZE s) in
    let told : drop CSUM_SIZE between ≡ head ++ drop HEADER_SIZE s = behind ∙ ap (λ z. z ++ drop HEADER_SIZE s) is-head in
    ap (λ z. z ++ drop CSUM_SIZE between) (is-sum ∙ ap (kind_sum sums) (take_rest between CSUM_SIZE ∙ told))
    ∙ ap (λ z. kind_sum sums (head ++ drop HEADER_SIZE s) ++ z) told

-- the place of the checksum
pub sum_place : (s new : List ℕ) → HEADER_SIZE ≤ length s → length (take CSUM_SIZE (put_mid CSUM_SIZE HEADER_REST_SIZE s new)) ≡ CSUM_SIZE
sum_place s new fits =
    omega (arith, length-take CSUM_SIZE (put_mid CSUM_SIZE HEADER_REST_SIZE s new), length-append (take CSUM_SIZE s) (new ++ drop HEADER_REST_SIZE (drop CSUM_SIZE s)), length-take CSUM_SIZE s)
