-- Where the nodes of units lie.
use Rattle.unit_plan.proofs.Imports.{◌≡◌, ◌≢◌, ◌⊎◌, ℕ, suc, ◌+◌, ◌-◌, ◌*◌, ◌/◌, ◌%◌, ◌^◌, ◌<◌, ◌≤◌, List, [], ◌∷◌, ◌++◌, length, map, take, get_or, refl, sym, ◌∙◌, ap, subst, arith, ⊎_elim, append_assoc, length-append, All, AllPairs, flat_map, range_with_len, cases_lt, append-nil, map-append, take_more, get_or_append_left, get_or-map, length-map, All-append, length-range_with_len, get_or-range_with_len, places_in, node_places, ArePlaces, PlacesServe, nodes_in_unit}
use Rattle.std.proofs.Math.Seq.{get_or-append_right}
use Rattle.std.proofs.lemmas.List.Concat.{flat_map-append}
use Rattle.btr_tree.specs.btr_node.NodeSize.{IsNodeSize}
use Rattle.btr_tree.specs.Building.{AreSlots}
use Rattle.unit_plan.proofs.Lists.{range_more}

pub places_none : (n : ℕ) (units : List ℕ) → [] ≡ node_places n (take 0 units)
unfolding node_places
places_none n units = refl

pub places_more : (n : ℕ) (units : List ℕ) (i u : ℕ) → i < length units → get_or units i u ≡ u → node_places n (take (i + 1) units) ≡ node_places n (take i units) ++ places_in n u
unfolding node_places
places_more n units i u inside is =
    ap (flat_map (places_in n)) (take_more units i u inside ∙ ap (λ v. take i units ++ v ∷ []) is)
    ∙ (flat_map-append (places_in n) (take i units) (u ∷ []) ∙ ap (λ ps. flat_map (places_in n) (take i units) ++ ps) (append-nil (places_in n u)))

-- one place more of a unit
pub place_more : (old : List ℕ) (first size k : ℕ) → (old ++ map (λ j. first + size * j) (range_with_len 0 k)) ++ (first + size * k) ∷ [] ≡ old ++ map (λ j. first + size * j) (range_with_len 0 (k + 1))
place_more old first size k =
    append_assoc old (map (λ j. first + size * j) (range_with_len 0 k)) ((first + size * k) ∷ [])
    ∙ ap (λ ps. old ++ ps) (sym (ap (map (λ j. first + size * j)) (range_more 0 k k (omega arith)) ∙ map-append (λ j. first + size * j) (range_with_len 0 k) (k ∷ [])))

-- what holds of the places of a unit
record Facts (n : ℕ) : Type 0 where
  aligned : (u k : ℕ) → (2 ^ 20 * u + n * k) % n ≡ 0
  inside : (u k : ℕ) → k < nodes_in_unit n → 2 ^ 20 * u + n * k + n ≤ 2 ^ 20 * (u + 1)
  apart : (u k l : ℕ) → k < l → 2 ^ 20 * u + n * k < 2 ^ 20 * u + n * l
  some : 1 ≤ n

facts : (n : ℕ) → IsNodeSize n → Facts n
facts n size =
    ⊎_elim (λ (e : n ≡ 4096). subst Facts (sym e) (record { aligned = λ u k. omega arith; inside = λ u k h. omega arith; apart = λ u k l h. omega arith; some = omega arith }))
    (λ rest. ⊎_elim (λ (e : n ≡ 8192). subst Facts (sym e) (record { aligned = λ u k. omega arith; inside = λ u k h. omega arith; apart = λ u k l h. omega arith; some = omega arith }))
    (λ rest'. ⊎_elim (λ (e : n ≡ 16384). subst Facts (sym e) (record { aligned = λ u k. omega arith; inside = λ u k h. omega arith; apart = λ u k l h. omega arith; some = omega arith }))
    (λ rest''. ⊎_elim (λ (e : n ≡ 32768). subst Facts (sym e) (record { aligned = λ u k. omega arith; inside = λ u k h. omega arith; apart = λ u k l h. omega arith; some = omega arith }))
    (λ (e : n ≡ 65536). subst Facts (sym e) (record { aligned = λ u k. omega arith; inside = λ u k h. omega arith; apart = λ u k l h. omega arith; some = omega arith })) rest'') rest') rest) size

-- a place of a node between two bounds
record IsPlace (n low high a : ℕ) : Type 0 where
  above : low ≤ a
  below : a + n ≤ high
  aligned : a % n ≡ 0

record AreIn (n low high : ℕ) (places : List ℕ) : Type 0 where
  each : All (IsPlace n low high) places
  ascending : AllPairs (λ a b. a < b) places

in_unit : (n u : ℕ) → Facts n → AreIn n (2 ^ 20 * u) (2 ^ 20 * (u + 1)) (places_in n u)
in_unit n u f =
    let m : ℕ = nodes_in_unit n in
    let at : (i d : ℕ) → i < m → get_or (places_in n u) i d ≡ 2 ^ 20 * u + n * i = λ i d h.
    let long : i < length (range_with_len 0 m) = omega (arith, h, length-range_with_len 0 m) in
    get_or-map (λ k. 2 ^ 20 * u + n * k) (range_with_len 0 m) i 0 d long ∙ ap (λ k. 2 ^ 20 * u + n * k) (let e : get_or (range_with_len 0 m) i 0 ≡ i = omega (arith, get_or-range_with_len 0 m i 0 h) in e) in
    let long : length (places_in n u) ≡ m = length-map (range_with_len 0 m) (λ k. 2 ^ 20 * u + n * k) ∙ length-range_with_len 0 m in
    record {
      each = λ i d h.
          let low : i < m = omega (arith, h, long) in
          subst (IsPlace n (2 ^ 20 * u) (2 ^ 20 * (u + 1))) (sym (at i d low)) (record { above = omega arith; below = f.inside u i low; aligned = f.aligned u i });
      ascending = λ i j d before h.
          let high : j < m = omega (arith, h, long) in
          let low : i < m = omega (arith, high, before) in
          let apart : 2 ^ 20 * u + n * i < 2 ^ 20 * u + n * j = f.apart u i j before in
          omega (arith, at i d low, at j d high, apart);
    }

both : (n low middle high : ℕ) (xs ys : List ℕ) → 1 ≤ n → low ≤ middle → middle ≤ high → AreIn n low middle xs → AreIn n middle high ys → AreIn n low high (xs ++ ys)
both n low middle high xs ys some l h a b = record {
  each =
      All-append (IsPlace n low high) xs ys
      (λ i d k. let p : IsPlace n low middle (get_or xs i d) = a.each i d k in record { above = p.above; below = omega (arith, p.below, h); aligned = p.aligned })
      (λ i d k. let p : IsPlace n middle high (get_or ys i d) = b.each i d k in record { above = omega (arith, p.above, l); below = p.below; aligned = p.aligned });
  ascending = λ i j d before k.
      ⊎_elim
      (λ (first : j < length xs).
      let apart : get_or xs i d < get_or xs j d = a.ascending i j d before first in
      omega (arith, apart, get_or_append_left xs ys d i (omega (arith, first, before)), get_or_append_left xs ys d j first))
      (λ (second : length xs ≤ j).
      let inside : j - length xs < length ys = omega (arith, k, second, length-append xs ys) in
      let right : get_or (xs ++ ys) j d ≡ get_or ys (j - length xs) d = get_or-append_right xs ys j d second in
      let upper : IsPlace n middle high (get_or ys (j - length xs) d) = b.each (j - length xs) d inside in
      ⊎_elim
      (λ (left : i < length xs).
      let lower : IsPlace n low middle (get_or xs i d) = a.each i d left in
      omega (arith, lower.below, upper.above, get_or_append_left xs ys d i left, right, some))
      (λ (also : length xs ≤ i).
      let apart : get_or ys (i - length xs) d < get_or ys (j - length xs) d = b.ascending (i - length xs) (j - length xs) d (omega (arith, before, also)) inside in
      omega (arith, apart, right, get_or-append_right xs ys i d also))
      (cases_lt i (length xs)))
      (cases_lt j (length xs));
}

all_in : (n low m : ℕ) (units : List ℕ) → Facts n → low ≤ m → AllPairs (λ u v. u < v) units → All (λ u. low ≤ u) units → All (λ u. u < m) units → AreIn n (2 ^ 20 * low) (2 ^ 20 * m) (node_places n units)
unfolding node_places
all_in n low m [] f few ascend above below = record { each = λ i d h. absurd (omega arith); ascending = λ i j d l h. absurd (omega arith) }
all_in n low m (u ∷ units) f few ascend above below =
    let here : low ≤ u = above 0 u (omega arith) in
    let inside : u < m = below 0 u (omega arith) in
    let one = in_unit n u f in
    let first : AreIn n (2 ^ 20 * low) (2 ^ 20 * (u + 1)) (places_in n u) =
    record { each = λ i d h. let p : IsPlace n (2 ^ 20 * u) (2 ^ 20 * (u + 1)) (get_or (places_in n u) i d) = one.each i d h in record { above = omega (arith, p.above, here); below = p.below; aligned = p.aligned }; ascending = one.ascending } in
    let rest = all_in n (u + 1) m units f (omega (arith, inside)) (λ i j d l h. ascend (suc i) (suc j) d (omega (arith, l)) (omega (arith, h)))
    (λ i d h. let later : u < get_or units i d = ascend 0 (suc i) d (omega arith) (omega (arith, h)) in omega (arith, later)) (λ i d h. below (suc i) d (omega (arith, h))) in
    both n (2 ^ 20 * low) (2 ^ 20 * (u + 1)) (2 ^ 20 * m) (places_in n u) (flat_map (places_in n) units) f.some (omega (arith, here)) (omega (arith, inside)) first rest

pub places_serve : PlacesServe
places_serve = λ n m units size small ascend inside.
    let f : Facts n = facts n size in
    let are = all_in n 0 m units f (omega arith) ascend (λ i d h. omega arith) inside in
    record {
      slots = record {
        aligned = λ i d h. (are.each i d h).aligned;
        apart = λ i j d before h same. let less : get_or (node_places n units) i d < get_or (node_places n units) j d = are.ascending i j d before h in omega (arith, less, same);
        small = λ i d h. let low = (are.each i d h).below in omega (arith, low, small, f.some);
      };
      ascending = are.ascending;
      inside = λ i d h. (are.each i d h).below;
    }
