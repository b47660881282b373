-- The kept pieces, from the lowest on.
use Rattle.extent_pieces.proofs.Imports.{◌≡◌, ℕ, ◌+◌, ◌-◌, ◌<◌, ◌≤◌, Bool, true, false, not, List, [], ◌∷◌, ◌++◌, length, map, refl, sym, ◌∙◌, ap, arith, ⊎_elim, filter, range_with_len, and_from, and_left, and_right, not_from_false, not_from_true, and_parts, both_ways, cases_lt, cases_eq, cases_Bool, not-true, append-nil, get_or_past, is_reserved, has, IsEnd, is_data, Piece, Owners, is_joined, begins_piece, kept_piece, kept_pieces}
use Rattle.extent_pieces.proofs.Filtering.{more_none, more_one}
use Rattle.extent_pieces.proofs.Joining.{joins, joined_through, joined_between, begins_from, none_begins_off, none_begins_joined}

-- a block with data is one of the volume
pub data_inside : (used : List Bool) (b : ℕ) → is_data used b ≡ true → b < length used
data_inside used b t =
    ⊎_elim (λ (inside : b < length used). inside)
    (λ (past : length used ≤ b). absurd (both_ways (has used b) (get_or_past used b false past) (and_parts (has used b) _ t).0))
    (cases_lt b (length used))

-- After a look at the blocks below b, with the pieces that begin there: if block b holds data, a piece begins there.
pub record Divides (used : List Bool) (owner : Owners) (old new : List Piece) (b : ℕ) : Type 0 where
  pub found : new ≡ old ++ map (kept_piece used owner) (filter (begins_piece used owner) (range_with_len 0 b))
  pub fresh : is_data used b ≡ true → begins_piece used owner b ≡ true

-- behind an unused block, or one that is reserved, a piece begins
fresh_behind : (used : List Bool) (owner : Owners) (b : ℕ) → ((k : ℕ) → k + 1 ≡ b → is_data used k ≡ false) → is_data used b ≡ true → begins_piece used owner b ≡ true
fresh_behind used owner b gap d = begins_from used owner b d (λ k next t. absurd (both_ways (is_data used k) (gap k next) t))

-- a block that holds no data, by the test
no_data : (used : List Bool) (k : ℕ) → not (is_data used k) ≡ true → is_data used k ≡ false
no_data used k t = not-true (is_data used k) t

pub divides_start : (used : List Bool) (owner : Owners) (old : List Piece) (n b : ℕ) → IsEnd (λ c. not (is_data used c)) 0 n b → Divides used owner old old b
divides_start used owner old n b gap = record {
  found = more_none (begins_piece used owner) (kept_piece used owner) old old 0 b (omega arith) (λ k low high. none_begins_off used owner k (no_data used k (gap.all k low high))) (sym (append-nil old));
  fresh = fresh_behind used owner b (λ k next. no_data used k (gap.all k (omega arith) (omega arith)));
}

-- the block behind a piece is not joined with the last one of it
not_joined : (used : List Bool) (owner : Owners) (b e c k : ℕ) → IsEnd (is_joined used owner b) b (length used) e → e ≡ c → b ≤ k → k + 1 ≡ c → c < length used → is_joined used owner k c ≡ false
not_joined used owner b e c k piece at low next inside =
    let off : is_joined used owner b c ≡ false = ap (is_joined used owner b) (sym at) ∙ piece.stop (omega arith) in
    ⊎_elim
    (λ (t : is_joined used owner k c ≡ true). absurd (both_ways (is_joined used owner b c) off (joined_through used owner b k c low (omega arith) (piece.all k low (omega arith)) t)))
    (λ (f : is_joined used owner k c ≡ false). f)
    (cases_Bool (is_joined used owner k c))

pub divides_more : (used : List Bool) (owner : Owners) (old new : List Piece) (b e c : ℕ) → Divides used owner old new b → is_data used b ≡ true → b < e
    → IsEnd (is_joined used owner b) b (length used) e → IsEnd (λ k. not (is_data used k)) e (length used) c → Divides used owner old (new ++ kept_piece used owner b ∷ []) c
divides_more used owner old new b e c so_far d some piece gap =
    let inside : (k : ℕ) → b + 1 ≤ k → k < e → begins_piece used owner k ≡ false =
    λ k low high. none_begins_joined used owner k (k - 1) (omega arith) (joins used owner b (k - 1) (piece.all (k - 1) (omega arith) (omega arith))).data_
    (joined_between used owner b (k - 1) k (omega arith) (omega arith) (piece.all (k - 1) (omega arith) (omega arith)) (piece.all k (omega arith) high)) in
    let none : (k : ℕ) → b + 1 ≤ k → k < c → begins_piece used owner k ≡ false =
    λ k low high. ⊎_elim (λ (early : k < e). inside k low early) (λ (late : e ≤ k). none_begins_off used owner k (no_data used k (gap.all k late high))) (cases_lt k e) in
    record {
      found =
          more_none (begins_piece used owner) (kept_piece used owner) old (new ++ kept_piece used owner b ∷ []) (b + 1) c (omega (arith, gap.low)) none
          (more_one (begins_piece used owner) (kept_piece used owner) old new b (so_far.fresh d) so_far.found);
      fresh = λ t. begins_from used owner c t (λ k next data_.
          ⊎_elim
          (λ (apart : e < c). absurd (both_ways (is_data used k) (no_data used k (gap.all k (omega arith) (omega arith))) data_))
          (λ (close : c ≤ e).
          let at : e ≡ c = omega (arith, gap.low) in
          not_joined used owner b e c k piece at (omega arith) next (data_inside used c t))
          (cases_lt e c));
    }

pub divides_all : (used : List Bool) (owner : Owners) (old new : List Piece) (b : ℕ) → Divides used owner old new b → b ≡ length used → new ≡ old ++ kept_pieces used owner
unfolding kept_pieces
divides_all used owner old new b so_far end = so_far.found ∙ ap (λ (m : ℕ). old ++ map (kept_piece used owner) (filter (begins_piece used owner) (range_with_len 0 m))) end

-- an unused block holds no data
unused_no_data : (used : List Bool) (b : ℕ) → not (has used b) ≡ true → is_data used b ≡ false
unused_no_data used b t = and_left (has used b) _ (not-true (has used b) t)

-- the first block with data: behind unused ones and reserved ones
pub data_start : (used : List Bool) (n from b : ℕ) → IsEnd (λ c. not (has used c)) from n b → (k : ℕ) → from ≤ k → k < b → not (is_data used k) ≡ true
data_start used n from b gap k low high = not_from_false (is_data used k) (unused_no_data used k (gap.all k low high))

pub data_past : (used : List Bool) (n from b c : ℕ) → ((k : ℕ) → from ≤ k → k < b → not (is_data used k) ≡ true) → is_reserved b (length used) ≡ true
    → IsEnd (λ c. not (has used c)) (b + 1) n c → (k : ℕ) → from ≤ k → k < c → not (is_data used k) ≡ true
data_past used n from b c before t gap k low high =
    ⊎_elim (λ (early : k < b). before k low early)
    (λ (late : b ≤ k). ⊎_elim
    (λ (same : k ≡ b). not_from_false (is_data used k) (and_right (has used k) _ (not_from_true (is_reserved k (length used)) (ap (λ (j : ℕ). is_reserved j (length used)) same ∙ t))))
    (λ (other : k ≡ b → ⊥). not_from_false (is_data used k) (unused_no_data used k (gap.all k (omega arith) high)))
    (cases_eq k b))
    (cases_lt k b)

pub stops : (x : Bool) → not x ≡ false → x ≡ true
stops true t = refl
stops false t = absurd (cc)

pub data_here : (used : List Bool) (b n : ℕ) → has used b ≡ true → n ≡ length used → is_reserved b n ≡ false → not (is_data used b) ≡ false
data_here used b n t size off =
    not_from_true (is_data used b) (and_from (has used b) _ t (not_from_false (is_reserved b (length used)) (ap (is_reserved b) (sym size) ∙ off)))
