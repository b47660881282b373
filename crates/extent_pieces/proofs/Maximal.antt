-- Kept pieces are as long as may be, and hold each block of data once.
use Rattle.extent_pieces.proofs.Imports.{◌≡◌, ℕ, zero, suc, ◌+◌, ◌-◌, ◌<◌, ◌≤◌, Bool, true, false, List, length, map, get_or, refl, sym, ◌∙◌, ap, arith, subst, ⊎_elim, filter, range_with_len, and_parts, and_left, both_ways, cases_Bool, cases_lt, cases_eq, get_or-map, length-map, Contains-get_or, end_of_run, IsEnd, end_facts, mapped, starts_ascend, contains_range, contains_filter, filter_contains, is_data, Piece, IsInPiece, IsKeptPiece, AreKeptPieces, Owners, is_joined, begins_piece, kept_piece, kept_pieces}
use Rattle.extent_pieces.proofs.Dividing.{data_inside}
use Rattle.extent_pieces.proofs.Joining.{joins, joined_with_itself, joined_through, joined_between, begins_from, none_begins_joined}

-- what begins a piece holds data
begins_data : (used : List Bool) (owner : Owners) (b : ℕ) → begins_piece used owner b ≡ true → is_data used b ≡ true
begins_data used owner b t = (and_parts (is_data used b) _ t).0

-- the block before it is not joined with it
begins_apart : (used : List Bool) (owner : Owners) (b k : ℕ) → begins_piece used owner b ≡ true → k + 1 ≡ b → is_data used k ≡ true → is_joined used owner k b ≡ false
begins_apart used owner b k t next d =
    ⊎_elim
    (λ (j : is_joined used owner k b ≡ true). absurd (both_ways (begins_piece used owner b) (none_begins_joined used owner b k next d j) t))
    (λ (f : is_joined used owner k b ≡ false). f)
    (cases_Bool (is_joined used owner k b))

-- where a piece ends
end_of_piece : (used : List Bool) (owner : Owners) (b : ℕ) → is_data used b ≡ true → IsEnd (is_joined used owner b) b (length used) (end_of_run (is_joined used owner b) b (length used))
end_of_piece used owner b d = end_facts (is_joined used owner b) b (length used) (let inside : b < length used = data_inside used b d in omega arith)

pub piece_some : (used : List Bool) (owner : Owners) (b : ℕ) → is_data used b ≡ true → b < end_of_run (is_joined used owner b) b (length used)
piece_some used owner b d =
    let e : ℕ = end_of_run (is_joined used owner b) b (length used) in
    let is : IsEnd (is_joined used owner b) b (length used) e = end_of_piece used owner b d in
    let inside : b < length used = data_inside used b d in
    ⊎_elim (λ (some : b < e). some)
    (λ (none : e ≤ b).
    let same : e ≡ b = omega (arith, is.low) in
    absurd (both_ways (is_joined used owner b b) (subst (λ (k : ℕ). is_joined used owner b k ≡ false) same (is.stop (omega arith))) (joined_with_itself used owner b d)))
    (cases_lt b e)

-- the end of a piece that is known
pub piece_end : (used : List Bool) (owner : Owners) (b : ℕ) (p : Piece) → is_data used b ≡ true → p ≡ kept_piece used owner b → IsEnd (is_joined used owner b) b (length used) (b + p.count)
piece_end used owner b p d is =
    let e : ℕ = end_of_run (is_joined used owner b) b (length used) in
    let some : b < e = piece_some used owner b d in
    let count : p.count ≡ e - b = ap (λ (q : Piece). q.count) is in
    subst (IsEnd (is_joined used owner b) b (length used)) (let same : e ≡ b + p.count = omega arith in same) (end_of_piece used owner b d)

off_joined : (used : List Bool) (owner : Owners) (b c : ℕ) → length used ≤ c → is_joined used owner b c ≡ false
off_joined used owner b c past =
    ⊎_elim
    (λ (d : is_data used c ≡ true). let inside : c < length used = data_inside used c d in absurd (omega arith))
    (λ (f : is_data used c ≡ false). and_left (is_data used c) _ f)
    (cases_Bool (is_data used c))

kept_is_maximal : (used : List Bool) (owner : Owners) (b : ℕ) → begins_piece used owner b ≡ true → IsKeptPiece used owner (kept_piece used owner b)
kept_is_maximal used owner b t =
    let d : is_data used b ≡ true = begins_data used owner b t in
    let e : ℕ = end_of_run (is_joined used owner b) b (length used) in
    let is : IsEnd (is_joined used owner b) b (length used) e = end_of_piece used owner b d in
    let some : b < e = piece_some used owner b d in
    let at : e ≡ b + (e - b) = omega arith in
    record {
      some = omega arith;
      stays = refl;
      is_owned = refl;
      data_ = λ k within. (joins used owner b k (is.all k within.0 (omega (arith, within.1)))).data_;
      uncut = λ k within. sym (joins used owner b k (is.all k within.0 (omega (arith, within.1)))).uncut;
      owners = λ k within. (joins used owner b k (is.all k within.0 (omega (arith, within.1)))).owners;
      before = λ k next data_. begins_apart used owner b k t next data_;
      behind =
          subst (λ (c : ℕ). is_joined used owner b c ≡ false) at
          (⊎_elim (λ (early : e < length used). is.stop early) (λ (late : length used ≤ e). off_joined used owner b e late) (cases_lt e (length used)));
    }

-- a piece ends before the next one begins
ends_before : (used : List Bool) (owner : Owners) (b c : ℕ) → begins_piece used owner b ≡ true → begins_piece used owner c ≡ true → b < c → end_of_run (is_joined used owner b) b (length used) ≤ c
ends_before used owner b c t u order =
    let e : ℕ = end_of_run (is_joined used owner b) b (length used) in
    let is : IsEnd (is_joined used owner b) b (length used) e = end_of_piece used owner b (begins_data used owner b t) in
    ⊎_elim
    (λ (inside : c < e).
    let low : is_joined used owner b (c - 1) ≡ true = is.all (c - 1) (omega arith) (omega arith) in
    let here : is_joined used owner b c ≡ true = is.all c (omega arith) inside in
    absurd (both_ways (is_joined used owner (c - 1) c) (begins_apart used owner c (c - 1) u (omega arith) (joins used owner b (c - 1) low).data_) (joined_between used owner b (c - 1) c (omega arith) (omega arith) low here)))
    (λ (past : e ≤ c). past)
    (cases_lt c e)

-- a block of data lies in a piece that begins at it or before
record HasStart (used : List Bool) (owner : Owners) (b start : ℕ) : Type 0 where
  below : start ≤ b
  begins : begins_piece used owner start ≡ true
  all : (k : ℕ) → start ≤ k → k ≤ b → is_joined used owner start k ≡ true

start_here : (used : List Bool) (owner : Owners) (b : ℕ) → is_data used b ≡ true → begins_piece used owner b ≡ true → HasStart used owner b b
start_here used owner b d t = record {
  below = omega arith;
  begins = t;
  all = λ k low high. ap (is_joined used owner b) (let e : k ≡ b = omega arith in e) ∙ joined_with_itself used owner b d;
}

start_more : (used : List Bool) (owner : Owners) (k b start : ℕ) → k + 1 ≡ b → is_joined used owner k b ≡ true → HasStart used owner k start → HasStart used owner b start
start_more used owner k b start next t is = record {
  below = omega (arith, is.below);
  begins = is.begins;
  all = λ j low high.
      ⊎_elim
      (λ (here : j ≡ b). ap (is_joined used owner start) here ∙ joined_through used owner start k b is.below (omega arith) (is.all k is.below (omega arith)) t)
      (λ (other : j ≡ b → ⊥). is.all j low (omega arith))
      (cases_eq j b);
}

find_start : (used : List Bool) (owner : Owners) (b : ℕ) → is_data used b ≡ true → (start : ℕ) × HasStart used owner b start
find_start used owner zero d = (zero, start_here used owner zero d (begins_from used owner zero d (λ k next t. absurd (omega arith))))
find_start used owner (suc b) d =
    ⊎_elim
    (λ (t : begins_piece used owner (suc b) ≡ true). (suc b, start_here used owner (suc b) d t))
    (λ (f : begins_piece used owner (suc b) ≡ false).
    ⊎_elim
    (λ (before : is_data used b ≡ true).
    ⊎_elim
    (λ (j : is_joined used owner b (suc b) ≡ true). let found = find_start used owner b before in (found.0, start_more used owner b (suc b) found.0 (omega arith) j found.1))
    (λ (n : is_joined used owner b (suc b) ≡ false).
    absurd (both_ways (begins_piece used owner (suc b)) f (begins_from used owner (suc b) d (λ k next t. ap (λ (i : ℕ). is_joined used owner i (suc b)) (let e : k ≡ b = omega arith in e) ∙ n))))
    (cases_Bool (is_joined used owner b (suc b))))
    (λ (gap : is_data used b ≡ false).
    absurd (both_ways (begins_piece used owner (suc b)) f (begins_from used owner (suc b) d (λ k next t. absurd (both_ways (is_data used k) (ap (is_data used) (let e : k ≡ b = omega arith in e) ∙ gap) t)))))
    (cases_Bool (is_data used b)))
    (cases_Bool (begins_piece used owner (suc b)))

pub kept_are_maximal : (used : List Bool) (owner : Owners) → AreKeptPieces used owner (kept_pieces used owner)
unfolding kept_pieces
kept_are_maximal used owner =
    let starts : List ℕ = filter (begins_piece used owner) (range_with_len 0 (length used)) in
    let piece : ℕ → Piece = kept_piece used owner in
    record {
      each = λ i d inside.
          let within : i < length starts = omega (arith, inside, length-map starts piece) in
          let is = filter_contains (begins_piece used owner) (range_with_len 0 (length used)) (get_or starts i 0) (Contains-get_or starts i 0 within) in
          subst (IsKeptPiece used owner) (sym (get_or-map piece starts i 0 d within)) (kept_is_maximal used owner (get_or starts i 0) is.1);
      ascending = λ i j d order inside.
          let high : j < length starts = omega (arith, inside, length-map starts piece) in
          let low : i < length starts = omega arith in
          let a = filter_contains (begins_piece used owner) (range_with_len 0 (length used)) (get_or starts i 0) (Contains-get_or starts i 0 low) in
          let b = filter_contains (begins_piece used owner) (range_with_len 0 (length used)) (get_or starts j 0) (Contains-get_or starts j 0 high) in
          let apart : get_or starts i 0 < get_or starts j 0 = starts_ascend (begins_piece used owner) 0 (length used) i j 0 order high in
          let ends = ends_before used owner (get_or starts i 0) (get_or starts j 0) a.1 b.1 apart in
          let some = piece_some used owner (get_or starts i 0) (begins_data used owner (get_or starts i 0) a.1) in
          subst (λ (p : Piece). p.place + p.count ≤ (get_or (map piece starts) j d).place) (sym (get_or-map piece starts i 0 d low))
          (subst (λ (q : Piece). (piece (get_or starts i 0)).place + (piece (get_or starts i 0)).count ≤ q.place) (sym (get_or-map piece starts j 0 d high))
          (omega (arith, ends, some)));
      whole = λ b d.
          let found = find_start used owner b d in
          let start : ℕ = found.0 in
          let is : HasStart used owner b start = found.1 in
          let inside : b < length used = data_inside used b d in
          let e : ℕ = end_of_run (is_joined used owner start) start (length used) in
          let end : IsEnd (is_joined used owner start) start (length used) e = end_of_piece used owner start (begins_data used owner start is.begins) in
          let reaches : b < e =
          ⊎_elim (λ (surely : b < e). surely)
          (λ (never : e ≤ b). absurd (both_ways (is_joined used owner start e) (end.stop (omega arith)) (is.all e end.low never)))
          (cases_lt b e) in
          let place = contains_filter (begins_piece used owner) (range_with_len 0 (length used)) start is.begins (contains_range 0 (length used) start (omega arith) (omega (arith, is.below))) in
          mapped piece (λ p. IsInPiece p b) starts place.0 start place.1 place.2 (is.below, omega arith);
    }
