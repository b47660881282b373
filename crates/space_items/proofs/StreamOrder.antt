-- The items of the extent tree and of the checksum tree ascend, and are short.
use Rattle.space_items.proofs.Imports.{◌≡◌, ◌≤◌, ◌<◌, ℕ, zero, suc, ◌+◌, ◌-◌, ◌*◌, ◌^◌, min, List, [], ◌∷◌, ◌++◌, length, map, get_or, refl, sym, ap, subst, ◌∙◌, arith, length-append, All, AllPairs, div_ceil, flat_map, range_with_len, ordering_then, nat_cmp, Ordering, Less, mul-add, mul-le-mul_left, mul_comm, div_ceil_times, All-append, All-cons, All-head, All-nil, All-tail, All-weaker, AllPairs-cons, EXTENT_CSUM, EXTENT_CSUM_OBJECTID, Image, block_at, IsBefore, Item, kind_sum, kind_width, SumKind, Crc32c, Sha256, AreChunks, IsChunk, role_of, usable_end, sums_in_item, PlannedChunk, Piece, Plan, group_item, node_item, piece_item, used_in, extent_items, item_cmp, merged, AreNodes, ArePieces, IsSmallPiece, block_sum, run_items, sum_items, sums_item, TreeNode}
use Rattle.std.proofs.Common.{length-take}
use Rattle.std.proofs.lemmas.List.FromFn.{get_or-range_with_len, length-range_with_len}
use Rattle.space_items.specs.StreamLaws.{ExtentItemsFit, SumItemsFit}
use Rattle.space_items.proofs.BodyLengths.{length-group, length-node, length-piece}
use Rattle.space_items.proofs.Merges.{nat_equal, nat_less, rises-merge, all-merge}
use Rattle.space_items.proofs.Ordered.{Rise, item_total, rise_ascends}
use Rattle.space_items.proofs.Summing.{item_some}

all_of : {A : Type 0} (f : A → Item) (P : Item → Type 0) (xs : List A) → All (λ a. P (f a)) xs → All P (map f xs)
all_of f P [] all = All-nil P
all_of f P (x ∷ xs) all = All-cons P (f x) (map f xs) (All-head (λ a. P (f a)) x xs all) (all_of f P xs (All-tail (λ a. P (f a)) x xs all))

rise_of : {A : Type 0} (f : A → Item) (xs : List A) → AllPairs (λ a b. IsBefore (f a).0 (f b).0) xs → Rise (map f xs)
rise_of f [] up = λ i j d l h. absurd (omega (arith, h))
rise_of f (x ∷ xs) up =
    AllPairs-cons (λ a b. item_cmp a b ≡ Less) (f x) (map f xs) (all_of f (λ b. item_cmp (f x) b ≡ Less) xs (λ k d h. up 0 (suc k) d (omega arith) (omega (arith, h))))
    (rise_of f xs (λ i j d l h. up (suc i) (suc j) d (omega (arith, l)) (omega (arith, h))))

-- a lower objectid is before, whatever comes behind
less_first : (a b : ℕ) (o : Ordering) → a < b → ordering_then (nat_cmp a b) o ≡ Less
less_first a b o h = ap (λ (k : Ordering). ordering_then k o) (nat_less a b h)

-- The extent tree.

groups_rise : (plan : Plan) (blocks : ℕ) (chunks : List PlannedChunk) (used : PlannedChunk → ℕ) → AreChunks plan blocks chunks → Rise (map (λ c. group_item (used c) c) chunks)
groups_rise plan blocks chunks used are =
    rise_of (λ c. group_item (used c) c) chunks
    (λ i j d l h.
    let is : IsChunk (role_of plan blocks) (usable_end blocks) (get_or chunks i d) = are.each i d (omega (arith, l, h)) in
    let some = is.not_empty in
    let apart = are.ascending i j d l h in
    less_first (4096 * (get_or chunks i d).start) (4096 * (get_or chunks j d).start) _ (omega (arith, some, apart)))

pieces_rise : (pieces : List Piece) → ArePieces pieces → Rise (map piece_item pieces)
pieces_rise pieces are =
    rise_of piece_item pieces
    (λ i j d l h.
    let small : IsSmallPiece (get_or pieces i d) = are.small i d (omega (arith, l, h)) in
    let some = small.some in
    let apart = are.ascending i j d l h in
    less_first (4096 * (get_or pieces i d).place) (4096 * (get_or pieces j d).place) _ (omega (arith, some, apart)))

nodes_rise : (nodes : List TreeNode) → AreNodes nodes → Rise (map node_item nodes)
nodes_rise nodes are = rise_of node_item nodes (λ i j d l h. less_first (get_or nodes i d).address (get_or nodes j d).address _ (are.ascending i j d l h))

pub extent_items_fit : ExtentItemsFit
extent_items_fit plan blocks chunks pieces nodes nodesize are_chunks are_pieces are_nodes = record {
  ascend = rise_ascends (extent_items chunks pieces nodes nodesize)
      (rises-merge item_cmp item_total groups (merged others last) (groups_rise plan blocks chunks (used_in pieces nodes nodesize) are_chunks)
      (rises-merge item_cmp item_total others last (nodes_rise nodes are_nodes) (pieces_rise pieces are_pieces)));
  short = all-merge item_cmp (λ i. length i.1 ≤ 439) groups (merged others last)
      (all_of (λ c. group_item (used_in pieces nodes nodesize c) c) (λ i. length i.1 ≤ 439) chunks (λ k d h. let long = length-group (used_in pieces nodes nodesize (get_or chunks k d)) (get_or chunks k d) in omega (arith, long)))
      (all-merge item_cmp (λ i. length i.1 ≤ 439) others last (all_of node_item (λ i. length i.1 ≤ 439) nodes (λ k d h. let long = length-node (get_or nodes k d) in omega (arith, long)))
      (all_of piece_item (λ i. length i.1 ≤ 439) pieces (λ k d h. let long = length-piece (get_or pieces k d) in omega (arith, long))));
}
  where
    groups : List Item
    groups = map (λ c. group_item (used_in pieces nodes nodesize c) c) chunks

    others : List Item
    others = map node_item nodes

    last : List Item
    last = map piece_item pieces

-- The checksum tree.

-- an item with checksums of blocks from one on to before another
record IsSumAt (low high : ℕ) (i : Item) : Type 0 where
  objectid : i.0.objectid ≡ EXTENT_CSUM_OBJECTID
  kind : i.0.kind ≡ EXTENT_CSUM
  from : low ≤ i.0.offset
  to : i.0.offset < high

sum_before : (a b : Item) (low mid high : ℕ) → IsSumAt low mid a → IsSumAt mid high b → item_cmp a b ≡ Less
sum_before a b low mid high x y =
    let less : a.0.offset < b.0.offset = omega (arith, x.to, y.from) in
    let one = nat_equal a.0.objectid b.0.objectid (x.objectid ∙ sym y.objectid) in
    let two = nat_equal a.0.kind b.0.kind (x.kind ∙ sym y.kind) in
    ap (λ (k : Ordering). ordering_then k (ordering_then (nat_cmp a.0.kind b.0.kind) (nat_cmp a.0.offset b.0.offset))) one
    ∙ (ap (λ (k : Ordering). ordering_then k (nat_cmp a.0.offset b.0.offset)) two ∙ nat_less a.0.offset b.0.offset less)

rise_append : (xs ys : List Item) → Rise xs → Rise ys → All (λ x. All (λ y. item_cmp x y ≡ Less) ys) xs → Rise (xs ++ ys)
rise_append [] ys up also across = also
rise_append (x ∷ xs) ys up also across =
    AllPairs-cons (λ a b. item_cmp a b ≡ Less) x (xs ++ ys)
    (All-append (λ b. item_cmp x b ≡ Less) xs ys (λ k d h. up 0 (suc k) d (omega arith) (omega (arith, h))) (All-head (λ z. All (λ y. item_cmp z y ≡ Less) ys) x xs across))
    (rise_append xs ys (λ i j d l h. up (suc i) (suc j) d (omega (arith, l)) (omega (arith, h))) also (All-tail (λ z. All (λ y. item_cmp z y ≡ Less) ys) x xs across))

-- an item's checksums fit into a leaf
item_fits : (sums : SumKind) → kind_width sums * sums_in_item sums + 126 ≤ 4096
item_fits Crc32c = omega arith
item_fits Sha256 = omega arith

module _ (sums : SumKind) (image : Image) where
  abbrev item_at : ℕ → ℕ → ℕ → Item
  item_at first count i = sums_item sums image (first + sums_in_item sums * i) (min (sums_in_item sums) (count - sums_in_item sums * i))

  -- the i-th item of so many blocks has some
  part_within : (count i : ℕ) → i < div_ceil count (sums_in_item sums) → sums_in_item sums * i < count
  part_within count i h = by (sums_in_item sums) (item_some sums) h
    where
      by : (n : ℕ) → 0 < n → i < div_ceil count n → n * i < count
      by n some inside =
          let times = (div_ceil_times count n some).1 in
          let low : n * (i + 1) ≤ n * div_ceil count n = mul-le-mul_left n (omega (arith, inside)) in
          let turned = mul_comm n (div_ceil count n) in
          let step = mul-add n i 1 in
          let one : n * 1 ≡ n = omega arith in
          omega (arith, times, low, turned, step, one)

  part_rises : (i j : ℕ) → i < j → sums_in_item sums * i < sums_in_item sums * j
  part_rises i j h = by (sums_in_item sums) (item_some sums)
    where
      by : (n : ℕ) → 0 < n → n * i < n * j
      by n some =
          let low : n * (i + 1) ≤ n * j = mul-le-mul_left n (omega (arith, h)) in
          let step = mul-add n i 1 in
          let one : n * 1 ≡ n = omega arith in
          omega (arith, some, low, step, one)

  number_at : (count k d : ℕ) → k < div_ceil count (sums_in_item sums) → get_or (range_with_len 0 (div_ceil count (sums_in_item sums))) k d ≡ k
  number_at count k d h = get_or-range_with_len 0 (div_ceil count (sums_in_item sums)) k d h ∙ plus k
    where
      plus : (n : ℕ) → 0 + n ≡ n
      plus n = omega arith

  runs_at : (first count : ℕ) → All (IsSumAt (4096 * first) (4096 * (first + count))) (run_items sums image first count)
  runs_at first count =
      all_of (item_at first count) (IsSumAt (4096 * first) (4096 * (first + count))) (range_with_len 0 (div_ceil count (sums_in_item sums)))
      (λ k d h.
      let long = length-range_with_len 0 (div_ceil count (sums_in_item sums)) in
      let here : k < div_ceil count (sums_in_item sums) = omega (arith, h, long) in
      let in_it = part_within count k here in
      subst (λ (i : ℕ). IsSumAt (4096 * first) (4096 * (first + count)) (item_at first count i)) (sym (number_at count k d here))
      (record { objectid = refl; kind = refl; from = omega arith; to = omega (arith, in_it) }))

  runs_rise : (first count : ℕ) → Rise (run_items sums image first count)
  runs_rise first count =
      rise_of (item_at first count) (range_with_len 0 (div_ceil count (sums_in_item sums)))
      (λ i j d l h.
      let long = length-range_with_len 0 (div_ceil count (sums_in_item sums)) in
      let high : j < div_ceil count (sums_in_item sums) = omega (arith, h, long) in
      let low : i < div_ceil count (sums_in_item sums) = omega (arith, high, l) in
      let up = part_rises i j l in
      subst (λ (k : ℕ). item_cmp (item_at first count k) (item_at first count (get_or (range_with_len 0 (div_ceil count (sums_in_item sums))) j d)) ≡ Less) (sym (number_at count i d low))
      (subst (λ (k : ℕ). item_cmp (item_at first count i) (item_at first count k) ≡ Less) (sym (number_at count j d high))
      (sum_before (item_at first count i) (item_at first count j) 0 (4096 * (first + sums_in_item sums * j)) (4096 * (first + sums_in_item sums * j) + 1)
      (record { objectid = refl; kind = refl; from = omega arith; to = omega (arith, up) })
      (record { objectid = refl; kind = refl; from = omega arith; to = omega arith }))))

  sums_at : (low : ℕ) (pieces : List Piece) → All (λ p. low ≤ p.place) pieces → All IsSmallPiece pieces → All (IsSumAt (4096 * low) (2 ^ 41)) (sum_items sums image pieces)
  sums_at low [] above small = All-nil (IsSumAt (4096 * low) (2 ^ 41))
  sums_at low (p ∷ pieces) above small =
      let here = All-head (λ q. low ≤ q.place) p pieces above in
      let fits = (All-head IsSmallPiece p pieces small).place in
      All-append (IsSumAt (4096 * low) (2 ^ 41)) (run_items sums image p.place p.count) (sum_items sums image pieces)
      (All-weaker (IsSumAt (4096 * p.place) (4096 * (p.place + p.count))) (IsSumAt (4096 * low) (2 ^ 41)) (λ i is. record { objectid = is.objectid; kind = is.kind; from = omega (arith, is.from, here); to = omega (arith, is.to, fits) })
      (run_items sums image p.place p.count) (runs_at p.place p.count))
      (sums_at low pieces (All-tail (λ q. low ≤ q.place) p pieces above) (All-tail IsSmallPiece p pieces small))

  sums_rise : (pieces : List Piece) → All IsSmallPiece pieces → AllPairs (λ p q. p.place + p.count ≤ q.place) pieces → Rise (sum_items sums image pieces)
  sums_rise [] small up = λ i j d l h. absurd (omega (arith, h))
  sums_rise (p ∷ pieces) small up =
      let rest = sums_at (p.place + p.count) pieces (λ k d h. up 0 (suc k) d (omega arith) (omega (arith, h))) (All-tail IsSmallPiece p pieces small) in
      rise_append (run_items sums image p.place p.count) (sum_items sums image pieces) (runs_rise p.place p.count)
      (sums_rise pieces (All-tail IsSmallPiece p pieces small) (λ i j d l h. up (suc i) (suc j) d (omega (arith, l)) (omega (arith, h))))
      (All-weaker (IsSumAt (4096 * p.place) (4096 * (p.place + p.count))) (λ x. All (λ y. item_cmp x y ≡ Less) (sum_items sums image pieces))
      (λ x at. All-weaker (IsSumAt (4096 * (p.place + p.count)) (2 ^ 41)) (λ y. item_cmp x y ≡ Less) (λ y is. sum_before x y (4096 * p.place) (4096 * (p.place + p.count)) (2 ^ 41) at is) (sum_items sums image pieces) rest)
      (run_items sums image p.place p.count) (runs_at p.place p.count))

  -- how long they are
  sums_long : (first count : ℕ) → length (flat_map (block_sum sums image) (range_with_len first count)) ≤ kind_width sums * count
  sums_long first zero = omega arith
  sums_long first (suc count) =
      let both = length-append (block_sum sums image first) (flat_map (block_sum sums image) (range_with_len (first + 1) count)) in
      let here = length-take (kind_width sums) (kind_sum sums (block_at image first)) in
      let rest = sums_long (first + 1) count in
      let step = mul-add (kind_width sums) 1 count in
      let one : kind_width sums * 1 ≡ kind_width sums = omega arith in
      let up : kind_width sums * suc count ≡ kind_width sums * (1 + count) = ap (λ (k : ℕ). kind_width sums * k) (plus count) in
      omega (arith, both, here, rest, step, one, up)
    where
      plus : (k : ℕ) → suc k ≡ 1 + k
      plus k = omega arith

  item_short : (first count : ℕ) → count ≤ sums_in_item sums → length (sums_item sums image first count).1 + 126 ≤ 4096
  item_short first count few =
      let long = sums_long first count in
      let most : kind_width sums * count ≤ kind_width sums * sums_in_item sums = mul-le-mul_left (kind_width sums) few in
      let all = item_fits sums in
      omega (arith, long, most, all)

  runs_short : (first count : ℕ) → All (λ i. length i.1 + 126 ≤ 4096) (run_items sums image first count)
  runs_short first count =
      all_of (item_at first count) (λ i. length i.1 + 126 ≤ 4096) (range_with_len 0 (div_ceil count (sums_in_item sums)))
      (λ k d h. item_short (first + sums_in_item sums * get_or (range_with_len 0 (div_ceil count (sums_in_item sums))) k d) (min (sums_in_item sums) (count - sums_in_item sums * get_or (range_with_len 0 (div_ceil count (sums_in_item sums))) k d)) (omega arith))

  sums_short : (pieces : List Piece) → All (λ i. length i.1 + 126 ≤ 4096) (sum_items sums image pieces)
  sums_short [] = All-nil (λ i. length i.1 + 126 ≤ 4096)
  sums_short (p ∷ pieces) = All-append (λ i. length i.1 + 126 ≤ 4096) (run_items sums image p.place p.count) (sum_items sums image pieces) (runs_short p.place p.count) (sums_short pieces)

pub sum_items_fit : SumItemsFit
sum_items_fit sums image pieces are = record { ascend = rise_ascends (sum_items sums image pieces) (sums_rise sums image pieces are.small are.ascending); short = sums_short sums image pieces }
