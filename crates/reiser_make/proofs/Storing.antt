-- Items of a leaf, one behind the other.
use Rattle.reiser_make.proofs.Imports.{◌≡◌, ◌≤◌, ◌<◌, ℕ, ◌+◌, ◌-◌, ◌*◌, Bool, true, false, List, [], ◌∷◌, ◌++◌, length, take, drop, replicate, refl, sym, ap, subst, ◌∙◌, arith, append_assoc, length-append, length-take, length-drop, sum_by, append-nil, take-take, sum_by-append, sum_by-cons, sum_by-take-le, ItemHead, body_bytes, bytes_taken, taken_by, key_bytes, head_bytes, heads_bytes, bodies, node_room, leaf_contents, Shape, items_behind, HasPutItems, NextFits, SampleItem, ItemPlace}
use Rattle.reiser_items.specs.reiser_node.declared.head.ItemKind.{ItemKind}
use borrow.Rule.Slice.PartMut.{put_mid}
use Rattle.reiser_make.proofs.Packing.{take_one_more, drop_one_more}
use Rattle.reiser_make.proofs.Placing.{zeros, put_first, put_last}

abbrev pub lengths : List SampleItem → ℕ
lengths items = sum_by (λ (i : SampleItem). i.head.length) items

abbrev head_as : ℕ → ℕ → ℕ → ItemKind → Bool → ℕ → ℕ → ItemHead
head_as dir object offset kind old count length = record { dir = dir; object = object; offset = offset; kind = kind; old = old; count = count; length = length }

head_sized : (dir object offset : ℕ) (kind : ItemKind) (old : Bool) (count len location : ℕ) → length (head_bytes (head_as dir object offset kind old count len) location) ≡ 24
head_sized dir object offset kind true count len location = refl
head_sized dir object offset kind false count len location = refl

pub head_size : (head : ItemHead) (location : ℕ) → length (head_bytes head location) ≡ 24
head_size head location = head_sized head.dir head.object head.offset head.kind head.old head.count head.length location

pub bodies-append : (s : Shape) (items : List SampleItem) (item : SampleItem) → bodies s (items ++ item ∷ []) ≡ body_bytes s item.head.old item.body ++ bodies s items
bodies-append s [] item = sym (append-nil (body_bytes s item.head.old item.body))
bodies-append s (first ∷ items) item =
    ap (λ z. z ++ body_bytes s first.head.old first.body) (bodies-append s items item)
    ∙ append_assoc (body_bytes s item.head.old item.body) (bodies s items) (body_bytes s first.head.old first.body)

heads-append : (end : ℕ) (items : List SampleItem) (item : SampleItem) → heads_bytes end (items ++ item ∷ []) ≡ heads_bytes end items ++ head_bytes item.head (end - lengths items - item.head.length)
heads-append end [] item =
    append-nil _ ∙ ap (λ n. head_bytes item.head (n - item.head.length)) (let same : end ≡ end - 0 = omega arith in same)
heads-append end (first ∷ items) item =
    let begin : ℕ = end - first.head.length in
    let below : begin - lengths items - item.head.length ≡ end - lengths (first ∷ items) - item.head.length =
    omega (arith, sum_by-cons (λ (i : SampleItem). i.head.length) first items) in
    ap (λ z. head_bytes first.head begin ++ z) (heads-append begin items item ∙ ap (λ n. heads_bytes begin items ++ head_bytes item.head n) below)
    ∙ sym (append_assoc (head_bytes first.head begin) (heads_bytes begin items) _)

length-heads : (end : ℕ) (items : List SampleItem) → length (heads_bytes end items) ≡ 24 * length items
length-heads end [] = refl
length-heads end (item ∷ items) =
    let begin : ℕ = end - item.head.length in
    omega (arith, length-append (head_bytes item.head begin) (heads_bytes begin items), head_size item.head begin, length-heads begin items)

taken_parts : (items : List SampleItem) → bytes_taken items ≡ 24 * length items + lengths items
taken_parts [] = refl
taken_parts (item ∷ items) = omega (arith, sum_by-cons taken_by item items, sum_by-cons (λ (i : SampleItem). i.head.length) item items, taken_parts items)

pub taken_more : (items : List SampleItem) (item : SampleItem) → bytes_taken (items ++ item ∷ []) ≡ bytes_taken items + taken_by item
taken_more items item = sum_by-append taken_by items (item ∷ []) ∙ omega arith

-- An item behind items: first its body, in the last zeros, and then its head, in the first.
pub put_item_is : (s : Shape) (i low begin body_len head_len : ℕ) (old body head : List ℕ) (item : SampleItem) (items : List SampleItem)
    → 24 * i + 24 + item.head.length ≤ low → low ≤ 4072 → length items ≡ i → low + length (bodies s items) ≡ 4072 → bytes_taken items + low ≡ 4072 + 24 * i
    → begin ≡ low - item.head.length → body_len ≡ item.head.length → head_len ≡ 24 → length body ≡ item.head.length
    → old ≡ leaf_contents s items → body ≡ body_bytes s item.head.old item.body → head ≡ head_bytes item.head (24 + begin)
    → put_mid (24 * i) head_len (put_mid begin body_len old body) head ≡ leaf_contents s (items ++ item ∷ [])
unfolding leaf_contents
put_item_is s i low begin body_len head_len old body head item items fits within counted placed room is-begin is-body_len is-head_len sized is is-body is-head =
    let all : List SampleItem = items ++ item ∷ [] in
    let heads : List ℕ = heads_bytes 4096 items in
    let rest : List ℕ = bodies s items in
    let long : length heads ≡ 24 * i = length-heads 4096 items ∙ ap (λ k. 24 * k) counted in
    let free : node_room - bytes_taken items ≡ low - 24 * i = omega (arith, room) in
    let before : old ≡ heads ++ (zeros (low - 24 * i) ++ rest) = is ∙ ap (λ k. heads ++ (zeros k ++ rest)) free in
    let gap : ℕ = low - 24 * i - item.head.length in
    let none : zeros (item.head.length - length body) ≡ [] = ap zeros (let z : item.head.length - length body ≡ 0 = omega (arith, sized) in z) in
    let full : body ++ zeros (item.head.length - length body) ≡ body = ap (λ z. body ++ z) none ∙ append-nil body in
    let bodied : put_mid begin body_len old body ≡ heads ++ (zeros gap ++ (body ++ rest)) =
    put_last (24 * i) low begin item.head.length body_len old heads rest body long (omega arith) is-begin (omega (arith, sized)) (omega (arith, sized, is-body_len)) before
    ∙ ap (λ z. heads ++ (zeros gap ++ (z ++ rest))) full in
    let place : 24 + begin ≡ 4096 - lengths items - item.head.length = omega (arith, is-begin, room, taken_parts items, counted) in
    let left : gap - 24 ≡ node_room - bytes_taken all = omega (arith, room, taken_more items item) in
    put_first (24 * i) 24 head_len gap (put_mid begin body_len old body) heads (body ++ rest) head long (omega arith) is-head_len bodied
    ∙ ap (λ z. heads ++ (z ++ (zeros (gap - 24) ++ (body ++ rest)))) (is-head ∙ ap (head_bytes item.head) place)
    ∙ sym (append_assoc heads (head_bytes item.head (4096 - lengths items - item.head.length)) (zeros (gap - 24) ++ (body ++ rest)))
    ∙ ap (λ z. z ++ (zeros (gap - 24) ++ (body ++ rest))) (sym (heads-append 4096 items item))
    ∙ ap (λ k. heads_bytes 4096 all ++ (zeros k ++ (body ++ rest))) left
    ∙ ap (λ z. heads_bytes 4096 all ++ (zeros (node_room - bytes_taken all) ++ (z ++ rest))) is-body
    ∙ ap (λ z. heads_bytes 4096 all ++ (zeros (node_room - bytes_taken all) ++ z)) (sym (bodies-append s items item))

pub stored_first : (s : Shape) (n : ℕ) → n ≡ node_room → replicate n 0 ≡ leaf_contents s []
unfolding leaf_contents
stored_first s n is = ap (λ k. replicate k 0) (let same : n ≡ node_room - bytes_taken [] = omega (arith, is) in same) ∙ sym (append-nil (replicate (node_room - bytes_taken []) 0))

pub put_first_place : (s : Shape) (all : List SampleItem) (at : ItemPlace) (low : ℕ) (behind : List ℕ) → all ≡ items_behind s at → low ≡ 4072 → behind ≡ leaf_contents s [] → HasPutItems s all 0 at low behind
put_first_place s all at low behind is full put = record { left = sym is; begin = omega (arith, full); room = omega (arith, full); bytes = put }

-- one item more stands in the leaf
pub put_one_more : (s : Shape) (all : List SampleItem) (i : ℕ) (at next : ItemPlace) (low begin : ℕ) (old new : List ℕ) (item : SampleItem)
    → i < length all → HasPutItems s all i at low old → items_behind s at ≡ item ∷ items_behind s next → begin + item.head.length ≡ low
    → ((items : List SampleItem) → length items ≡ i → low + length (bodies s items) ≡ 4072 → bytes_taken items + low ≡ 4072 + 24 * i → old ≡ leaf_contents s items → new ≡ leaf_contents s (items ++ item ∷ []))
    → ((items : List SampleItem) → low + length (bodies s items) ≡ 4072 → begin + length (bodies s (items ++ item ∷ [])) ≡ 4072)
    → HasPutItems s all (i + 1) next begin new
put_one_more s all i at next low begin old new item lt has is down bytes begins =
    let rest : drop i all ≡ item ∷ items_behind s next = sym has.left ∙ is in
    let more : take (i + 1) all ≡ take i all ++ item ∷ [] = take_one_more all i item (items_behind s next) (omega arith) rest in
    let count : length (take i all) ≡ i = omega (arith, length-take i all) in
    record {
      left = sym (drop_one_more all i item (items_behind s next) rest);
      begin = ap (λ z. begin + length (bodies s z)) more ∙ begins (take i all) has.begin;
      room = omega (arith, ap bytes_taken more, taken_more (take i all) item, has.room, down);
      bytes = bytes (take i all) count has.begin has.room has.bytes ∙ ap (leaf_contents s) (sym more);
    }

-- an item is left
pub not_done : (s : Shape) (all : List SampleItem) (i : ℕ) (at : ItemPlace) (low : ℕ) (old : List ℕ) → i < length all → HasPutItems s all i at low old → items_behind s at ≡ [] → ⊥
not_done s all i at low old lt has none = let size : length (drop i all) ≡ 0 = ap length (sym has.left ∙ none) in omega (arith, size, length-drop i all)

fits_next : (all : List SampleItem) (i count low : ℕ) (rest : List SampleItem) → drop i all ≡ rest → i < count → count ≤ length all → bytes_taken (take count all) ≤ 4072 → bytes_taken (take i all) + low ≡ 4072 + 24 * i → NextFits rest i low
fits_next all i count low [] is lt within fits room = tt
fits_next all i count low (item ∷ more) is lt within fits room =
    let whole : bytes_taken (take (i + 1) all) ≡ bytes_taken (take i all) + taken_by item = ap bytes_taken (take_one_more all i item more (omega arith) is) ∙ taken_more (take i all) item in
    let part : bytes_taken (take (i + 1) (take count all)) ≤ bytes_taken (take count all) = sum_by-take-le taken_by (take count all) (i + 1) in
    let same : take (i + 1) (take count all) ≡ take (i + 1) all = take-take (i + 1) count all (omega arith) in
    omega (arith, whole, subst (λ z. bytes_taken z ≤ bytes_taken (take count all)) same part, fits, room)

-- the next item has room
pub next_fits : (s : Shape) (all : List SampleItem) (i count : ℕ) (at : ItemPlace) (low : ℕ) (old : List ℕ) → HasPutItems s all i at low old → i < count → count ≤ length all → bytes_taken (take count all) ≤ 4072
    → NextFits (items_behind s at) i low
next_fits s all i count at low old has lt within fits =
    subst (λ z. NextFits z i low) (sym has.left) (fits_next all i count low (drop i all) refl lt within fits has.room)
