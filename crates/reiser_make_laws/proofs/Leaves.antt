-- A leaf that was written reads back.
use Rattle.reiser_make_laws.proofs.Imports.{◌≡◌, ℕ, zero, suc, ◌+◌, ◌-◌, ◌*◌, ◌≤◌, ◌<◌, List, [], ◌∷◌, ◌++◌, length, take, drop, replicate, get_or, refl, sym, ◌∙◌, ap, subst, arith, append_assoc, append-nil, length-append, length-take, length-drop, Some, None, All, Option, IsSome, slice_range, drop-cons, drop-append_seam, take-append_seam, take-length, take-append-drop, take_more, get_or-take, get_or-drop, length-replicate, sum_by-cons, sum_by-append, little_number-reads_back, field, head_at, head_of_kind, kind_at, level, count, head_place, body_length, location, body_end, body_at, IsItem, ItemHead, ItemKind, body_bytes, bytes_taken, taken_by, node_room, node_head, heads_bytes, head_bytes, bodies, leaf_bytes, leaf_contents, Shape, SampleItem, IsWritable, ReadsAs, LeavesReadBack}
use Rattle.reiser_make.proofs.Storing.{lengths, head_size}
use Rattle.reiser_make_laws.proofs.Heads.{HasRoomIn, field_behind, head_behind, head_reads, length_reads, location_reads}

heads_split : (end : ℕ) (xs ys : List SampleItem) → heads_bytes end (xs ++ ys) ≡ heads_bytes end xs ++ heads_bytes (end - lengths xs) ys
heads_split end [] ys = ap (λ n. heads_bytes n ys) (let same : end ≡ end - lengths [] = omega arith in same)
heads_split end (x ∷ xs) ys =
    let begin : ℕ = end - x.head.length in
    let below : begin - lengths xs ≡ end - lengths (x ∷ xs) = omega (arith, sum_by-cons (λ (i : SampleItem). i.head.length) x xs) in
    ap (λ z. head_bytes x.head begin ++ z) (heads_split begin xs ys ∙ ap (λ n. heads_bytes begin xs ++ heads_bytes n ys) below)
    ∙ sym (append_assoc (head_bytes x.head begin) (heads_bytes begin xs) (heads_bytes (end - lengths (x ∷ xs)) ys))

bodies_split : (s : Shape) (xs ys : List SampleItem) → bodies s (xs ++ ys) ≡ bodies s ys ++ bodies s xs
bodies_split s [] ys = sym (append-nil (bodies s ys))
bodies_split s (x ∷ xs) ys =
    let own : List ℕ = body_bytes s x.head.old x.body in
    ap (λ z. z ++ own) (bodies_split s xs ys) ∙ append_assoc (bodies s ys) (bodies s xs) own

length_heads : (end : ℕ) (xs : List SampleItem) → length (heads_bytes end xs) ≡ 24 * length xs
length_heads end [] = refl
length_heads end (x ∷ xs) =
    let begin : ℕ = end - x.head.length in
    omega (arith, length-append (head_bytes x.head begin) (heads_bytes begin xs), head_size x.head begin, length_heads begin xs)

abbrev AreWritable : Shape → List SampleItem → Type 0
AreWritable s items = All (IsWritable s) items

length_bodies : (s : Shape) (xs : List SampleItem) → AreWritable s xs → length (bodies s xs) ≡ lengths xs
length_bodies s [] right = refl
length_bodies s (x ∷ xs) right =
    let first : IsWritable s x = right 0 x (omega arith) in
    let own : List ℕ = body_bytes s x.head.old x.body in
    omega (arith, length-append (bodies s xs) own, first.body, length_bodies s xs (λ k d lt. right (suc k) d (omega (arith, lt))), sum_by-cons (λ (i : SampleItem). i.head.length) x xs)

taken_parts : (xs : List SampleItem) → bytes_taken xs ≡ 24 * length xs + lengths xs
taken_parts [] = refl
taken_parts (x ∷ xs) = omega (arith, sum_by-cons taken_by x xs, sum_by-cons (λ (i : SampleItem). i.head.length) x xs, taken_parts xs)

known_by : (bytes : List ℕ) (at : ℕ) (kind : Option ItemKind) (head : ItemHead) → head_of_kind bytes at kind ≡ Some head → IsSome kind
known_by bytes at None head is = cc
known_by bytes at (Some kind) head is = refl

pub drop_at : (n : ℕ) (front rest : List ℕ) → length front ≡ n → drop n (front ++ rest) ≡ rest
drop_at n front rest is = ap (λ m. drop m (front ++ rest)) (sym is) ∙ drop-append_seam front rest

pub take_at : (n : ℕ) (front rest : List ℕ) → length front ≡ n → take n (front ++ rest) ≡ front
take_at n front rest is = ap (λ m. take m (front ++ rest)) (sym is) ∙ take-append_seam front rest

module _ (s : Shape) (items : List SampleItem) (right : AreWritable s items) (room : bytes_taken items ≤ node_room) where
  abbrev bytes : List ℕ
  bytes = leaf_bytes s items

  abbrev front : List ℕ
  front = node_head 1 (length items) (node_room - bytes_taken items)

  abbrev gap : List ℕ
  gap = replicate (node_room - bytes_taken items) 0

  bytes_are : bytes ≡ front ++ (heads_bytes 4096 items ++ (gap ++ bodies s items))
  unfolding leaf_bytes leaf_contents
  bytes_are = refl

  few : 24 * length items + lengths items ≤ 4072
  few = omega (arith, room, taken_parts items)

  length_front : length front ≡ 24
  length_front = refl

  module _ (i : ℕ) (d : SampleItem) (lt : i < length items) where
    abbrev own : SampleItem
    own = get_or items i d

    abbrev before : List SampleItem
    before = take i items

    abbrev rest : List SampleItem
    rest = drop (suc i) items

    abbrev begin : ℕ
    begin = 4096 - lengths before - own.head.length

    split : items ≡ before ++ own ∷ rest
    split = sym (take-append-drop i items) ∙ ap (λ z. before ++ z) (drop-cons items i d lt)

    sizes : lengths items ≡ lengths before + (own.head.length + lengths rest)
    sizes = ap lengths split ∙ sum_by-append (λ (x : SampleItem). x.head.length) before (own ∷ rest) ∙ ap (λ n. lengths before + n) (sum_by-cons (λ (x : SampleItem). x.head.length) own rest)

    own_low : own.head.length ≤ 4072
    own_low = omega (arith, few, sizes)

    has_room : HasRoomIn own.head
    has_room = let r : IsWritable s own = right i d lt in record { dir = omega (arith, r.dir); object = omega (arith, r.object); offset = omega (arith, r.offset); count = omega (arith, r.count); length = omega (arith, own_low) }

    abbrev back : List ℕ
    back = heads_bytes begin rest ++ (gap ++ bodies s items)

    abbrev heads_before : List ℕ
    heads_before = heads_bytes 4096 before

    at_head : bytes ≡ (front ++ heads_before) ++ (head_bytes own.head begin ++ back)
    at_head =
        bytes_are
        ∙ ap (λ z. front ++ (z ++ (gap ++ bodies s items))) (ap (heads_bytes 4096) split ∙ heads_split 4096 before (own ∷ rest))
        ∙ ap (λ z. front ++ z) (append_assoc heads_before (head_bytes own.head begin ++ heads_bytes begin rest) (gap ++ bodies s items)
        ∙ ap (λ z. heads_before ++ z) (append_assoc (head_bytes own.head begin) (heads_bytes begin rest) (gap ++ bodies s items)))
        ∙ sym (append_assoc front heads_before (head_bytes own.head begin ++ back))

    place : length (front ++ heads_before) ≡ head_place i
    place = omega (arith, length-append front heads_before, length_front, length_heads 4096 before, length-take i items, lt)

    pub head_is : head_at bytes (head_place i) ≡ Some own.head
    head_is =
        ap (λ b. head_at b (head_place i)) at_head ∙ head_behind (head_place i) (front ++ heads_before) (head_bytes own.head begin ++ back) place
        ∙ head_reads own.head begin back has_room

    pub length_is : body_length bytes i ≡ own.head.length
    length_is =
        ap (λ b. field 2 b (head_place i + 18)) at_head ∙ field_behind 2 18 (head_place i) (front ++ heads_before) (head_bytes own.head begin ++ back) place
        ∙ length_reads own.head begin back has_room

    pub location_is : location bytes i ≡ begin
    location_is =
        ap (λ b. field 2 b (head_place i + 20)) at_head ∙ field_behind 2 20 (head_place i) (front ++ heads_before) (head_bytes own.head begin ++ back) place
        ∙ location_reads own.head begin back has_room (omega arith)

    abbrev own_body : List ℕ
    own_body = body_bytes s own.head.old own.body

    abbrev ahead : List ℕ
    ahead = front ++ (heads_bytes 4096 items ++ (gap ++ bodies s rest))

    right_rest : AreWritable s rest
    right_rest = λ k e low. subst (IsWritable s) (sym (get_or-drop (suc i) items k e)) (right (suc i + k) e (omega (arith, low, length-drop (suc i) items)))

    at_body : bytes ≡ ahead ++ (own_body ++ bodies s before)
    at_body =
        bytes_are
        ∙ ap (λ z. front ++ (heads_bytes 4096 items ++ (gap ++ z))) (ap (bodies s) split ∙ bodies_split s before (own ∷ rest) ∙ append_assoc (bodies s rest) own_body (bodies s before))
        ∙ ap (λ z. front ++ (heads_bytes 4096 items ++ z)) (sym (append_assoc gap (bodies s rest) (own_body ++ bodies s before)))
        ∙ ap (λ z. front ++ z) (sym (append_assoc (heads_bytes 4096 items) (gap ++ bodies s rest) (own_body ++ bodies s before)))
        ∙ sym (append_assoc front (heads_bytes 4096 items ++ (gap ++ bodies s rest)) (own_body ++ bodies s before))

    body_place : length ahead ≡ begin
    body_place =
        omega (
          arith,
          length-append front (heads_bytes 4096 items ++ (gap ++ bodies s rest)),
          length_front,
          length-append (heads_bytes 4096 items) (gap ++ bodies s rest),
          length_heads 4096 items,
          length-append gap (bodies s rest),
          length-replicate {A = ℕ} (node_room - bytes_taken items) 0,
          length_bodies s rest right_rest,
          taken_parts items,
          sizes,
          few,
        )

    pub body_is : body_at bytes i ≡ own_body
    body_is =
        let size : begin + own.head.length - begin ≡ own.head.length = omega arith in
        ap (λ n. slice_range bytes n (n + body_length bytes i)) location_is
        ∙ ap (λ n. slice_range bytes begin (begin + n)) length_is
        ∙ ap (λ n. take n (drop begin bytes)) size
        ∙ ap (take own.head.length) (ap (drop begin) at_body ∙ drop_at begin ahead (own_body ++ bodies s before) body_place)
        ∙ take_at own.head.length own_body (bodies s before) (right i d lt).body

  module _ (d : SampleItem) where
    -- the body of an item ends where that of the item before begins
    end_is : (i : ℕ) → i ≤ length items → body_end bytes i ≡ 4096 - lengths (take i items)
    end_is zero low = omega arith
    end_is (suc j) low =
        let more : lengths (take (j + 1) items) ≡ lengths (take j items) + (get_or items j d).head.length =
        ap lengths (take_more items j d (omega (arith, low))) ∙ sum_by-append (λ (x : SampleItem). x.head.length) (take j items) (get_or items j d ∷ []) ∙ omega arith in
        let next : take (suc j) items ≡ take (j + 1) items = ap (λ n. take n items) (let same : suc j ≡ j + 1 = omega arith in same) in
        location_is j d (omega (arith, low)) ∙ omega (arith, more, ap lengths next)

    pub item_is : (i : ℕ) → i < length items → IsItem bytes i
    item_is i lt = record {
      packed = omega (arith, location_is i d lt, length_is i d lt, end_is i (omega (arith, lt)), sizes i d lt, few);
      known = known_by bytes (head_place i) (kind_at bytes (head_place i)) (get_or items i d).head (head_is i d lt);
    }

    count_is : count bytes ≡ length items
    unfolding leaf_bytes
    count_is = little_number-reads_back 2 (length items) (drop 4 bytes) (omega (arith, few))

    level_is : level bytes ≡ 1
    unfolding leaf_bytes
    level_is = refl

    take_all : lengths (take (length items) items) ≡ lengths items
    take_all = ap lengths (take-length items)

    pub leaf_back : 1 ≤ length items → ReadsAs s items bytes
    leaf_back some = record {
      leaf = record {
        level = level_is;
        some = omega (arith, count_is, some);
        each = λ i low. item_is i (omega (arith, low, count_is));
        apart = omega (arith, count_is, ap (body_end bytes) count_is, end_is (length items) (omega arith), take_all, few);
      };
      count = count_is;
      heads = λ i e lt. head_is i e lt;
      bodies = λ i e lt. body_is i e lt;
    }

pub leaves_back : LeavesReadBack
leaves_back s [] right some room = absurd (omega (arith, some))
leaves_back s (x ∷ xs) right some room = leaf_back s (x ∷ xs) right room x some
