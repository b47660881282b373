-- Items as parts of one list of bytes.
use Rattle.btr_item_list.proofs.Imports.{◌≡◌, ℕ, ◌+◌, ◌-◌, ◌≤◌, List, [], ◌∷◌, ◌++◌, length, take, drop, map, All, refl, ap, ◌∙◌, arith, drop-append-le, take-append-le, length-drop, map-append, length-append, take_all, All-head, All-tail, Key, Item, ItemRange, item_by, IsBodyWithin}
use Rattle.std.specs.List.{slice_range}
use Rattle.std.proofs.Math.Seq.{drop-append_seam}

-- a part of some bytes is the same with more behind them
part_same : (xs ys : List ℕ) (a b : ℕ) → a ≤ b → b ≤ length xs → slice_range (xs ++ ys) a b ≡ slice_range xs a b
part_same xs ys a b low high =
    let long = length-drop a xs in
    ap (take (b - a)) (drop-append-le a xs ys (omega arith)) ∙ take-append-le (b - a) (drop a xs) ys (omega arith)

items_same : (xs ys : List ℕ) (heads : List ItemRange) → All (IsBodyWithin (length xs)) heads → map (item_by (xs ++ ys)) heads ≡ map (item_by xs) heads
items_same xs ys [] all = refl
items_same xs ys (h ∷ heads) all =
    let own = All-head (IsBodyWithin (length xs)) h heads all in
    ap (λ (body : List ℕ). (h.key, body) ∷ map (item_by (xs ++ ys)) heads) (part_same xs ys h.start h.end own.ordered own.within)
    ∙ ap (λ (items : List Item). item_by xs h ∷ items) (items_same xs ys heads (All-tail (IsBodyWithin (length xs)) h heads all))

-- all bytes behind some
part_behind : (xs ys : List ℕ) → slice_range (xs ++ ys) (length xs) (length xs + length ys) ≡ ys
part_behind xs ys = ap (take (length xs + length ys - length xs)) (drop-append_seam xs ys) ∙ whole ys (length xs)
  where
    whole : (ys : List ℕ) (n : ℕ) → take (n + length ys - n) ys ≡ ys
    whole ys n = let same : n + length ys - n ≡ length ys = omega arith in ap (λ (k : ℕ). take k ys) same ∙ take_all (length ys) ys (omega arith)

-- one item more, whose body comes behind the others
pub item_behind : (xs body : List ℕ) (heads : List ItemRange) (key : Key) → All (IsBodyWithin (length xs)) heads
    → map (item_by (xs ++ body)) (heads ++ record { key = key; start = length xs; end = length xs + length body } ∷ []) ≡ map (item_by xs) heads ++ (key, body) ∷ []
item_behind xs body heads key all =
    let h : ItemRange = record { key = key; start = length xs; end = length xs + length body } in
    map-append (item_by (xs ++ body)) heads (h ∷ [])
    ∙ (ap (λ (items : List Item). items ++ item_by (xs ++ body) h ∷ []) (items_same xs body heads all)
    ∙ ap (λ (own : List ℕ). map (item_by xs) heads ++ (key, own) ∷ []) (part_behind xs body))

-- The same of lists that were appended to, where the head tells where the body lies.
pub item_added : (xs body bytes : List ℕ) (heads all_heads : List ItemRange) (key : Key) (start end : ℕ) → All (IsBodyWithin (length xs)) heads
    → bytes ≡ xs ++ body → start ≡ length xs → end ≡ length bytes → all_heads ≡ heads ++ record { key = key; start = start; end = end } ∷ []
    → map (item_by bytes) all_heads ≡ map (item_by xs) heads ++ (key, body) ∷ []
item_added xs body bytes heads all_heads key start end all bytes_are start_is end_is heads_are =
    let long = length-append xs body in
    let ends : end ≡ length xs + length body = end_is ∙ (ap length bytes_are ∙ long) in
    ap (λ (bs : List ℕ). map (item_by bs) all_heads) bytes_are
    ∙ (ap (map (item_by (xs ++ body))) (heads_are ∙ ap (λ (h : ItemRange). heads ++ h ∷ []) (at start end start_is ends))
    ∙ item_behind xs body heads key all)
  where
    head : ℕ → ℕ → ItemRange
    head s e = record { key = key; start = s; end = e }

    at : (s e : ℕ) → s ≡ length xs → e ≡ length xs + length body → head s e ≡ head (length xs) (length xs + length body)
    at s e is ends = ap (λ (n : ℕ). head n e) is ∙ ap (head (length xs)) ends
