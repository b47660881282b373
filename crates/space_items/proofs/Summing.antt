-- Checksums of blocks, one behind the other, and the items that have them.
use Rattle.space_items.proofs.Imports.{◌≡◌, ◌<◌, ◌≤◌, ℕ, zero, suc, ◌+◌, ◌-◌, ◌*◌, ◌/◌, ◌%◌, min, Bool, true, false, cond, List, [], ◌∷◌, ◌++◌, map, drop, Some, refl, sym, ap, ◌∙◌, append_assoc, arith, ⊎_elim, eq-eqb, ne_eqb, slice_get, ◌==◌, div_ceil, flat_map, range_with_len, add-div_left, div-eq_of_lt, div_self, eq-or-lt_of_le, mod-eq_of_lt, mod_self, mul-add, mul-add-mod_self_left, zero-div, zero-mod, cases_lt, Image, Item, SumKind, Crc32c, Sha256, sums_in_item, Piece, IsPieceTaken, behind, left_of, sum_standing, sums_ahead, blocks_taken, run_items, sum_items, sums_item, SumStream}
use Rattle.std.proofs.lemmas.List.{append-nil}
use Rattle.space_items.proofs.Nexts.{drop_next}

-- the parts of one number more
pub parts_more : (f : ℕ → List ℕ) (a n : ℕ) → flat_map f (range_with_len a (n + 1)) ≡ flat_map f (range_with_len a n) ++ f (a + n)
parts_more f a zero = let none : a + 0 ≡ a = omega arith in append-nil (f a) ∙ ap f (sym none)
parts_more f a (suc n) =
    let one : suc n + 1 ≡ suc (n + 1) = omega arith in
    let same : a + 1 + n ≡ a + suc n = omega arith in
    ap (λ (k : ℕ). flat_map f (range_with_len a k)) one
    ∙ (ap (λ (l : List ℕ). f a ++ l) (parts_more f (a + 1) n)
    ∙ (sym (append_assoc (f a) (flat_map f (range_with_len (a + 1) n)) (f (a + 1 + n))) ∙ ap (λ (k : ℕ). (f a ++ flat_map f (range_with_len (a + 1) n)) ++ f k) same))

map_shift : {X : Type 0} (f g : ℕ → X) (a b n : ℕ) → ((i : ℕ) → f (a + i) ≡ g (b + i)) → map f (range_with_len a n) ≡ map g (range_with_len b n)
map_shift f g a b zero same = refl
map_shift {X} f g a b (suc n) same =
    let here : f a ≡ g b = ap f (start a) ∙ (same 0 ∙ ap g (sym (start b))) in
    ap (λ (x : X). x ∷ map f (range_with_len (a + 1) n)) here ∙ ap (λ (l : List X). g b ∷ l) (map_shift f g (a + 1) (b + 1) n (λ i. ap f (next a i) ∙ (same (i + 1) ∙ ap g (sym (next b i)))))
  where
    start : (k : ℕ) → k ≡ k + 0
    start k = omega arith

    next : (k i : ℕ) → k + 1 + i ≡ k + (i + 1)
    next k i = omega arith

-- a sum of equal parts, one part more
pub parts_long : (w k m l : ℕ) → l ≡ w * k → m ≡ k + 1 → l + w ≡ w * m
parts_long w k m l is more =
    let step = mul-add w k 1 in
    let one : w * 1 ≡ w = omega arith in
    let at : w * m ≡ w * (k + 1) = ap (λ (j : ℕ). w * j) more in
    omega (arith, is, step, one, at)

-- quotients that are rounded up
ceil_none : (n : ℕ) → div_ceil 0 n ≡ 0
ceil_none n = let quotient = zero-div n in let rest = zero-mod n in omega (arith, quotient, rest)

ceil_one : (count n : ℕ) → 0 < count → count ≤ n → div_ceil count n ≡ 1
ceil_one count n some within = ⊎_elim same less (eq-or-lt_of_le within)
  where
    same : count ≡ n → div_ceil count n ≡ 1
    same is =
        let quotient : count / n ≡ 1 = ap (λ (k : ℕ). k / n) is ∙ div_self (omega (arith, is, some)) in
        let rest : count % n ≡ 0 = ap (λ (k : ℕ). k % n) is ∙ mod_self n in
        omega (arith, quotient, rest)

    less : count < n → div_ceil count n ≡ 1
    less h = let quotient = div-eq_of_lt h in let rest = mod-eq_of_lt h in omega (arith, quotient, rest, some)

ceil_more : (count n : ℕ) → 0 < n → n < count → div_ceil count n ≡ suc (div_ceil (count - n) n)
ceil_more count n some more =
    let is : n + (count - n) ≡ count = omega (arith, more) in
    let up = add-div_left (count - n) some in
    let times : n * 1 ≡ n = omega arith in
    let left : (n + (count - n)) % n ≡ (count - n) % n = ap (λ (k : ℕ). (k + (count - n)) % n) (sym times) ∙ mul-add-mod_self_left n 1 (count - n) in
    let quotient : count / n ≡ (count - n) / n + 1 = ap (λ (k : ℕ). k / n) (sym is) ∙ up in
    let rest : count % n ≡ (count - n) % n = ap (λ (k : ℕ). k % n) (sym is) ∙ left in
    let low : min 1 (count % n) ≡ min 1 ((count - n) % n) = ap (λ (k : ℕ). min 1 k) rest in
    omega (arith, quotient, low)

module _ {X : Type 0} (n : ℕ) (some : 0 < n) (item : ℕ → ℕ → X) where
  -- items of so many from one on, each but the last of n
  abbrev pub runs : ℕ → ℕ → List X
  runs first count = map (λ i. item (first + n * i) (min n (count - n * i))) (range_with_len 0 (div_ceil count n))

  pub runs_none : (first : ℕ) → runs first 0 ≡ []
  runs_none first = ap (λ (k : ℕ). map (λ i. item (first + n * i) (min n (0 - n * i))) (range_with_len 0 k)) (ceil_none n)

  head_is : (first count : ℕ) → item (first + n * 0) (min n (count - n * 0)) ≡ item first (min n count)
  head_is first count =
      let none : n * 0 ≡ 0 = omega arith in
      let at : first + n * 0 ≡ first = omega (arith, none) in
      let long : min n (count - n * 0) ≡ min n count = omega (arith, none) in
      ap (λ (k : ℕ). item k (min n (count - n * 0))) at ∙ ap (item first) long

  -- the first of them, and those behind it
  pub runs_next : (first count : ℕ) → 0 < count → runs first count ≡ item first (min n count) ∷ runs (first + min n count) (count - min n count)
  runs_next first count more = ⊎_elim many few (cases_lt n count)
    where
      f : ℕ → X
      f i = item (first + n * i) (min n (count - n * i))

      few : count ≤ n → runs first count ≡ item first (min n count) ∷ runs (first + min n count) (count - min n count)
      few h =
          let one = ceil_one count n more h in
          let none : count - min n count ≡ 0 = omega (arith, h) in
          ap (λ (k : ℕ). map f (range_with_len 0 k)) one
          ∙ (ap (λ (x : X). x ∷ []) (head_is first count) ∙ ap (λ (l : List X). item first (min n count) ∷ l) (sym (ap (runs (first + min n count)) none ∙ runs_none (first + min n count))))

      many : n < count → runs first count ≡ item first (min n count) ∷ runs (first + min n count) (count - min n count)
      many h =
          let up = ceil_more count n some h in
          let all : min n count ≡ n = omega (arith, h) in
          ap (λ (k : ℕ). map f (range_with_len 0 k)) up
          ∙ (ap (λ (x : X). x ∷ map f (range_with_len (0 + 1) (div_ceil (count - n) n))) (head_is first count)
          ∙ (ap (λ (l : List X). item first (min n count) ∷ l) (map_shift f (λ i. item (first + n + n * i) (min n (count - n - n * i))) (0 + 1) 0 (div_ceil (count - n) n) shifted)
          ∙ ap (λ (k : ℕ). item first (min n count) ∷ runs (first + k) (count - k)) (sym all)))
        where
          shifted : (i : ℕ) → f (0 + 1 + i) ≡ item (first + n + n * (0 + i)) (min n (count - n - n * (0 + i)))
          shifted i =
              let one : n * 1 ≡ n = omega arith in
              let step = mul-add n 1 i in
              let left : n * (0 + 1 + i) ≡ n + n * i = ap (λ (k : ℕ). n * k) (ones i) ∙ (step ∙ ap (λ (k : ℕ). k + n * i) one) in
              let right : n * (0 + i) ≡ n * i = ap (λ (k : ℕ). n * k) (zeros i) in
              let at : first + n * (0 + 1 + i) ≡ first + n + n * (0 + i) = omega (arith, left, right) in
              let long : min n (count - n * (0 + 1 + i)) ≡ min n (count - n - n * (0 + i)) = omega (arith, left, right) in
              ap (λ (k : ℕ). item k (min n (count - n * (0 + 1 + i)))) at ∙ ap (item (first + n + n * (0 + i))) long
            where
              ones : (k : ℕ) → 0 + 1 + k ≡ 1 + k
              ones k = omega arith

              zeros : (k : ℕ) → 0 + k ≡ k
              zeros k = omega arith

pub item_some : (sums : SumKind) → 0 < sums_in_item sums
item_some Crc32c = omega arith
item_some Sha256 = omega arith

-- of a piece of which nothing was done
left_whole : (sums : SumKind) (image : Image) (pieces : List Piece) → left_of sums image 0 pieces ≡ sum_items sums image pieces
left_whole sums image [] = refl
left_whole sums image (p ∷ pieces) =
    let at : p.place + 0 ≡ p.place = omega arith in
    let long : p.count - 0 ≡ p.count = omega arith in
    ap (λ (k : ℕ). run_items sums image k (p.count - 0) ++ sum_items sums image pieces) at ∙ ap (λ (k : ℕ). run_items sums image p.place k ++ sum_items sums image pieces) long

-- where a stream stands behind so many blocks of a piece
abbrev next_place : ℕ → ℕ → ℕ → ℕ → ℕ × ℕ
next_place at done m count = cond (done + m == count) (at + 1, 0) (at, done + m)

pub sums_next : (sums : SumKind) (image : Image) (pieces : List Piece) (at done m : ℕ) (p : Piece) → slice_get pieces at ≡ Some p → done < p.count → m ≡ min (p.count - done) (sums_in_item sums)
    → left_of sums image done (drop at pieces) ≡ sums_item sums image (p.place + done) m ∷ left_of sums image (next_place at done m p.count).1 (drop (next_place at done m p.count).0 pieces)
sums_next sums image pieces at done m p there inside is = ⊎_elim last more (eq-or-lt_of_le (within (sums_in_item sums) is))
  where
    within : (n : ℕ) → m ≡ min (p.count - done) n → done + m ≤ p.count
    within n h = omega (arith, h, inside)

    rest : List Item
    rest = sum_items sums image (drop (at + 1) pieces)

    begun : left_of sums image done (drop at pieces) ≡ sums_item sums image (p.place + done) m ∷ (run_items sums image (p.place + done + m) (p.count - done - m) ++ rest)
    begun =
        let turned : min (sums_in_item sums) (p.count - done) ≡ m = turn (sums_in_item sums) is in
        ap (left_of sums image done) (drop_next pieces at p there)
        ∙ (ap (λ (l : List Item). l ++ rest) (runs_next (sums_in_item sums) (item_some sums) (sums_item sums image) (p.place + done) (p.count - done) (omega (arith, inside)))
        ∙ ap (λ (k : ℕ). sums_item sums image (p.place + done) k ∷ (run_items sums image (p.place + done + k) (p.count - done - k) ++ rest)) turned)
      where
        turn : (n : ℕ) → m ≡ min (p.count - done) n → min n (p.count - done) ≡ m
        turn n h = omega (arith, h)

    last : done + m ≡ p.count → left_of sums image done (drop at pieces) ≡ sums_item sums image (p.place + done) m ∷ left_of sums image (next_place at done m p.count).1 (drop (next_place at done m p.count).0 pieces)
    last e =
        let none : p.count - done - m ≡ 0 = omega (arith, e) in
        let test : (done + m == p.count) ≡ true = eq-eqb (done + m) p.count e in
        begun
        ∙ (ap (λ (l : List Item). sums_item sums image (p.place + done) m ∷ (l ++ rest)) (ap (run_items sums image (p.place + done + m)) none ∙ runs_none (sums_in_item sums) (item_some sums) (sums_item sums image) (p.place + done + m))
        ∙ (ap (λ (l : List Item). sums_item sums image (p.place + done) m ∷ l) (sym (left_whole sums image (drop (at + 1) pieces)))
        ∙ ap (λ (b : Bool). sums_item sums image (p.place + done) m ∷ left_of sums image (cond {A = ℕ × ℕ} b (at + 1, 0) (at, done + m)).1 (drop (cond {A = ℕ × ℕ} b (at + 1, 0) (at, done + m)).0 pieces)) (sym test)))

    more : done + m < p.count → left_of sums image done (drop at pieces) ≡ sums_item sums image (p.place + done) m ∷ left_of sums image (next_place at done m p.count).1 (drop (next_place at done m p.count).0 pieces)
    more h =
        let test : (done + m == p.count) ≡ false = ne_eqb (done + m) p.count (λ e. omega (arith, e, h)) in
        let from : p.place + done + m ≡ p.place + (done + m) = omega arith in
        let long : p.count - done - m ≡ p.count - (done + m) = omega arith in
        begun
        ∙ (ap (λ (k : ℕ). sums_item sums image (p.place + done) m ∷ (run_items sums image k (p.count - done - m) ++ rest)) from
        ∙ (ap (λ (k : ℕ). sums_item sums image (p.place + done) m ∷ (run_items sums image (p.place + (done + m)) k ++ rest)) long
        ∙ (ap (λ (l : List Piece). sums_item sums image (p.place + done) m ∷ left_of sums image (done + m) l) (sym (drop_next pieces at p there))
        ∙ ap (λ (b : Bool). sums_item sums image (p.place + done) m ∷ left_of sums image (cond {A = ℕ × ℕ} b (at + 1, 0) (at, done + m)).1 (drop (cond {A = ℕ × ℕ} b (at + 1, 0) (at, done + m)).0 pieces)) (sym test))))

-- a stream that took an item
pub taken_next : (old new : SumStream) (image : Image) (pieces : List Piece) (p : Piece) → slice_get pieces old.piece ≡ Some p → old.done < p.count → IsPieceTaken old new p → sum_standing new ≡ sums_item old.sums image (p.place + old.done) (blocks_taken old p)
    → sums_ahead old pieces image ≡ sum_standing new ∷ sums_ahead new pieces image
taken_next old new image pieces p there inside is stands =
    sums_next old.sums image pieces old.piece old.done (blocks_taken old p) p there inside refl
    ∙ (ap (λ (i : Item). i ∷ left_of old.sums image (behind old p).1 (drop (behind old p).0 pieces)) (sym stands)
    ∙ (ap (λ (t : ℕ × ℕ). sum_standing new ∷ left_of old.sums image t.1 (drop t.0 pieces)) (sym is.at)
    ∙ ap (λ (s : SumKind). sum_standing new ∷ left_of s image new.done (drop new.piece pieces)) (sym is.sums)))
